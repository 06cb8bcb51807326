-- What the bytes of a valid table say of its header and its components' starts. Assumes nothing.
use mathlib.Core.Path.{◌≡◌, refl, sym, ap, subst, ◌∙◌}
use mathlib.Core.List.{List, map}
use Prim.Native.Nat.{ℕ, zero, suc, ◌+◌, ◌≤◌, ◌<◌}
use native.Mathlib.Omega.{arith}
use native.Mathlib.Decide.{ℕ_discrete}
use mir.Val.{Fits}
use mir.Syntax.{w8}
use lib.ListN.{length, get_or, set, length-set, length-map}
use lib.Seq.{get_or-set_same, get_or-set_other}
use Rattle.model.specs.Table.{header_of, size}
use Rattle.model.specs.Limits.{ComponentIn}
use Rattle.model.specs.Reader.{byte, word}
use Rattle.model.specs.Places.{arc_place, start_of, ComponentAt, Valid, read_of, component_in}
use Rattle.model.proofs.Reader.Located.{valid_read, valid_located, valid_in}
use Rattle.model.proofs.Reader.RoundTrip.{written_read}
use Rattle.table.specs.Directory.{starts_of}
use Rattle.std.specs.Prelude.{Result, Ok}
use Rattle.window.specs.declared.Unopened.{Unopened}
use Rattle.window.specs.declared.TakenEdge.{TakenEdge}
use Rattle.window.specs.Views.{Placed}
use Rattle.rows.proofs.Placed.{known_bytes, place_small}

starts_length : (bs : List ℕ) (n : ℕ) → length (starts_of bs n) ≡ 8
unfolding starts_of
starts_length bs zero = refl
starts_length bs (suc n) = length-set (starts_of bs n) n (start_of bs n) ∙ starts_length bs n

-- the start of each of n components
pub start-at : (bs : List ℕ) (n c : ℕ) → c < n → n ≤ 8 → get_or (starts_of bs n) c 0 ≡ start_of bs c
unfolding starts_of
start-at bs zero c h k = absurd (omega arith)
start-at bs (suc n) c h k =
    go (λ e. start-at bs n c (omega (arith, e)) (omega arith)) (ℕ_discrete c n)
  where
    go : ((c ≡ n → ⊥) → get_or (starts_of bs n) c 0 ≡ start_of bs c) → Dec (c ≡ n) → get_or (set (starts_of bs n) n (start_of bs n)) c 0 ≡ start_of bs c
    go ih (yes e) = rw (e, get_or-set_same (starts_of bs n) n (start_of bs n) 0 (omega (arith, starts_length bs n)))
    go ih (no e) = get_or-set_other (starts_of bs n) n c (start_of bs n) 0 e ∙ ih e

-- a list of which a map has so many has so many
pub unmapped : {A B : Type 0} (f : A → B) (l : List A) (n : ℕ) → length (map f l) ≡ n → length l ≡ n
unmapped f l n h = sym (length-map l f) ∙ h

module _ (bs : List ℕ) (b : (j : ℕ) → Fits w8 (get_or bs j 0)) (v : Valid bs) where
  pub counted : byte bs 3 ≡ size (read_of bs).table
  counted = (valid_located bs (known_bytes bs b) v).count

  pub some_components : 1 ≤ size (read_of bs).table
  some_components = (written_read bs (read_of bs) (known_bytes bs b) (valid_read bs v)).0.least_components

  pub few_components : size (read_of bs).table ≤ 8
  few_components = (written_read bs (read_of bs) (known_bytes bs b) (valid_read bs v)).0.most_components

  pub horizon_is : word bs 5 ≡ (read_of bs).horizon
  horizon_is = (valid_located bs (known_bytes bs b) v).horizon

  pub horizon_small : (read_of bs).horizon ≤ 60000
  horizon_small = (written_read bs (read_of bs) (known_bytes bs b) (valid_read bs v)).0.most_horizon

  -- component c stands at its start
  pub stands_at : (c : ℕ) → c < size (read_of bs).table → ComponentAt bs (start_of bs c) (component_in bs c)
  stands_at c h = (valid_located bs (known_bytes bs b) v).component c h

  pub limits_of : (c : ℕ) → c < size (read_of bs).table → ComponentIn (header_of (read_of bs)) (component_in bs c)
  limits_of c h = valid_in bs (known_bytes bs b) v c h

  -- the header stands
  pub header : 7 ≤ length bs
  unfolding start_of
  header = omega (arith, (stands_at 0 (omega (arith, some_components))).fits)

  -- what is read at c among the starts
  pub start_read : (starts : List ℕ) (c start : ℕ) → starts ≡ starts_of bs (byte bs 3) → c < size (read_of bs).table → start ≡ get_or starts c 0 → start ≡ start_of bs c
  start_read starts c start e h q =
      q ∙ ap (λ l. get_or l c 0) e ∙ start-at bs (byte bs 3) c (omega (arith, counted)) (omega (arith, counted, few_components))

  -- a component's first bytes
  pub start_fits : (c start : ℕ) → c < size (read_of bs).table → start ≡ start_of bs c → start + 7 ≤ length bs
  start_fits c start h e = omega (arith, (stands_at c h).fits)

  pub initial_read : (c start : ℕ) {k : ℕ} → c < size (read_of bs).table → start ≡ start_of bs c → k ≡ byte bs (start + 3) → k ≡ (component_in bs c).initial
  initial_read c start h e q = q ∙ ap (λ n. byte bs (n + 3)) e ∙ (stands_at c h).initial

  -- an opened passage's edge has small numbers
  pub edge_small : (c start : ℕ) {r : Result TakenEdge Unopened} {t : TakenEdge} → r ≡ Ok t → c < size (read_of bs).table → start ≡ start_of bs c → Placed bs start c r
      → (t.place < 65536) × (t.ready ≤ 65535) × (t.end ≤ 65535)
  edge_small c start {r} {t} q h e p =
      let k : Placed bs start c (Ok t) = subst (Placed bs start c) q p in
      let m : t.place ≡ arc_place bs (start_of bs c) t.edge = k.1 ∙ ap (λ n. arc_place bs n t.edge) e in
      (omega (arith, m, place_small bs c t.edge (known_bytes bs b) v h k.0), k.2, k.3)
