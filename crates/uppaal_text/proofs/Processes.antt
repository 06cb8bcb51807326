-- The processes of a valid table, as they are written. Assumes nothing.
use mathlib.Core.Path.{◌≡◌, refl, sym, ap, ap₂, subst, ◌∙◌}
use mathlib.Core.Bool.{Bool, true, false}
use mathlib.Core.List.{List, [], ◌∷◌, ◌++◌, map, append_assoc}
use mathlib.Core.Option.{Option, none, some}
use Prim.Native.Nat.{ℕ, zero, suc, ◌+◌, ◌-◌, ◌≤◌, ◌<◌}
use native.Mathlib.Numerals.{add-one}
use native.Mathlib.Omega.{arith}
use lib.ListN.{length, take, drop, length-append, length-map, drop_of_length-le}
use lib.Seq.{drop-cons}
use Rattle.model.specs.declared.Action.{Action}
use Rattle.model.specs.declared.Action.TheVariants.{Internal, Send, Receive}
use Rattle.model.specs.Lists.{Bytes, All, each, from, below}
use Rattle.model.specs.Table.{Arc, Component, no_component, header_of, sizes_of}
use Rattle.model.specs.declared.TableHeader.{TableHeader}
use Rattle.model.specs.Limits.{ArcIn, ComponentIn}
use Rattle.model.specs.Reader.{byte, location_at}
use Rattle.model.specs.Places.{arc_length, budgeted, start_of, Valid, read_of, component_in}
use Rattle.model.proofs.Basics.Walk.{list_length}
use Rattle.model.proofs.Reader.Located.{valid_located, valid_in}
use Rattle.blocks.specs.Put.{Put}
use Rattle.blocks.specs.FrontEdges.{arcs_at}
use Rattle.blocks.proofs.Runs.{Writing, left_is, put_is, put_on, put_all, put_join}
use Rattle.translator.specs.Front.{arcs_place, front_component, Whole}
use Rattle.translator.proofs.Standing.{valid_limits, valid_count, node_is, node_whole}
use Rattle.words.specs.Words.{ascii}
use Rattle.uppaal.specs.Xta.{Transition, location}
use Rattle.uppaal.specs.XtaText.{field, name_text, each_after, listed, closed, declared, location_text, transition_text, process_text, process_texts, system_text}
use Rattle.uppaal.specs.Export.{uppers, ends, outcomes, entries, step_in_with, step_out_with, transitions_with, transitions_from, plain_location, waiting_from, process_for, system_for}
use Rattle.uppaal_parts.proofs.Told.{after_append}
use Rattle.uppaal_steps.proofs.Stepping.{arrow_join}
use Rattle.uppaal_text.specs.Texts.{ArcsWritable, Exportable, names_text, head_text, place_text, edges_text}
use Rattle.uppaal_text.proofs.Over.{listed_over}
use Rattle.uppaal_text.proofs.Named.{names_told}
use Rattle.uppaal_text.proofs.Edges.{waitings_told, steps_told, plain_told, all_writable, front_clocks, front_variables, front_arcs}

-- ## A process has locations and transitions

outcomes_some : (a : Arc) (x : Action) → 1 ≤ length (outcomes a x)
outcomes_some a Internal = omega arith
outcomes_some a (Send k) = omega arith
outcomes_some a Receive = omega (arith, length-append (map (λ q. some q.channel) a.pairs) (none ∷ []))

with_some : (C : Component) (e : ℕ) (a : Arc) (ms : List (Option ℕ)) → 1 ≤ length ms → 1 ≤ length (transitions_with C e a ms)
unfolding transitions_with ends
with_some C e a [] h = absurd (omega arith)
with_some C e a (m ∷ ms) h =
    let I = map (step_in_with e a m) (entries (uppers C a) a.edge.action m) in
    let O = map (step_out_with C.clocks e a m) (ends (uppers C a)) in
    omega (arith, length-append I (O ++ transitions_with C e a ms), length-append O (transitions_with C e a ms))

transitions_some : (C : Component) (e : ℕ) (as' : List Arc) → 1 ≤ length as' → 1 ≤ length (transitions_from C e as')
unfolding transitions_from
transitions_some C e [] h = absurd (omega arith)
transitions_some C e (a ∷ as') h =
    omega (arith, with_some C e a (outcomes a a.edge.action) (outcomes_some a a.edge.action), length-append (transitions_with C e a (outcomes a a.edge.action)) (transitions_from C (suc e) as'))

from_long : (i k : ℕ) → length (from i k) ≡ k
from_long i zero = refl
from_long i (suc k) = ap suc (from_long (suc i) k)

arcs_long : (b : Bool) (n : ℕ) (h : List ℕ) → length (arcs_at b n h) ≡ n
unfolding arcs_at
arcs_long b zero h = refl
arcs_long b (suc n) h = ap suc (arcs_long b n (drop (arc_length b h) h))

closing : (ts : List Transition) → 1 ≤ length ts → ascii ";\n}\n" ≡ closed ";\n" ts ++ ascii "}\n"
closing [] h = absurd (omega arith)
closing (t ∷ ts) h = refl

shape : (f u j k S i n z w : List ℕ) → (f ++ (u ++ (j ++ k))) ++ (S ++ ((i ++ (n ++ z)) ++ w)) ≡ f ++ (u ++ (j ++ (k ++ (S ++ (i ++ (n ++ (z ++ w)))))))
shape f u j k S i n z w =
    arrow_join f u j k (S ++ ((i ++ (n ++ z)) ++ w))
    ∙ ap (λ (l : List ℕ). f ++ (u ++ (j ++ (k ++ (S ++ l))))) (append_assoc i (n ++ z) w ∙ ap (λ (l : List ℕ). i ++ l) (append_assoc n z w))

module _ (b : Bool) (p : List ℕ) where
  abbrev C : Component
  C = front_component b p

  locations_are : length C.locations ≡ byte p 2
  unfolding front_component
  locations_are = list_length location_at 3 (byte p 2) (drop 7 p)

  arcs_are : length C.arcs ≡ byte p 6
  arcs_are = ap length (sym (front_arcs b p)) ∙ arcs_long b (byte p 6) (drop (arcs_place p) p)

  -- ## Its two lists

  pub states_put : Exportable b p → {o o₁ o₂ q : List ℕ} {at m n k : ℕ} → Put o (at + 4) (each (λ l. place_text (plain_location C l)) (from 0 (byte p 2))) m o₁
      → Put o₁ m (edges_text false C 0 C.arcs) n o₂ → Put o₂ at (ascii "state\n  ") k q → Put o at (listed "state\n  " ",\n  " location_text (process_for C).locations) n q
  unfolding process_for
  states_put x a c d =
      let P = map (plain_location C) (below (length C.locations)) in
      let e : each (λ l. place_text (plain_location C l)) (from 0 (byte p 2)) ≡ each_after ",\n  " location_text P =
      ap (λ (n : ℕ). each (λ l. place_text (plain_location C l)) (from 0 n)) (sym locations_are) ∙ plain_told C (length C.locations) in
      let j = put_is (ap₂ ◌++◌ e (waitings_told C 0 C.arcs) ∙ sym (after_append ",\n  " location_text P (waiting_from C 0 C.arcs))) (put_join a c) in
      listed_over location_text (P ++ waiting_from C 0 C.arcs) "state\n  " (ascii "stat") (ascii "e\n  ")
      (omega (arith, length-append P (waiting_from C 0 C.arcs), length-map (below (length C.locations)) (plain_location C), from_long 0 (length C.locations), locations_are, x.least_locations))
      refl refl refl j d

  pub transitions_put : Exportable b p → {o o₁ q : List ℕ} {at n k : ℕ} → Put o (at + 4) (edges_text true C 0 C.arcs) n o₁ → Put o₁ at (ascii "trans\n  ") k q
      → Put o at (listed "trans\n  " ",\n  " transition_text (process_for C).transitions) n q
  unfolding process_for
  transitions_put x a d =
      listed_over transition_text (transitions_from C 0 C.arcs) "trans\n  " (ascii "tran") (ascii "s\n  ") (transitions_some C 0 C.arcs (omega (arith, arcs_are, x.least_arcs))) refl refl refl
      (put_is (steps_told C 0 C.arcs) a) d

  -- ## The whole

  pub process_told : Exportable b p → (number : ℕ)
      → head_text number (byte p 4) (byte p 5) ++ (listed "state\n  " ",\n  " location_text (process_for C).locations
      ++ (ascii ";\ninit " ++ (name_text (location (byte p 3)) ++ ascii ";\n") ++ (listed "trans\n  " ",\n  " transition_text (process_for C).transitions ++ ascii ";\n}\n")))
      ≡ process_text number (process_for C)
  unfolding process_text process_for front_component
  process_told x number =
      let f = field "\nprocess P" number in
      let u = ascii "() {\n" in
      let S = listed "state\n  " ",\n  " location_text (process_for C).locations in
      let n = name_text (location (byte p 3)) in
      let ts = transitions_from C 0 C.arcs in
      let Tr = listed "trans\n  " ",\n  " transition_text ts in
      let e = closing ts (transitions_some C 0 C.arcs (omega (arith, arcs_are, x.least_arcs))) in
      ap₂ (λ (j k : List ℕ). (f ++ (u ++ (j ++ k))) ++ (S ++ ((ascii ";\ninit " ++ (n ++ ascii ";\n")) ++ (Tr ++ ascii ";\n}\n"))))
      (names_told "clock " "x" (byte p 4)) (names_told "int[-32768,32767] " "v" (byte p 5))
      ∙ ap (λ (j : List ℕ). (f ++ (u ++ (declared "clock " "x" (byte p 4) ++ declared "int[-32768,32767] " "v" (byte p 5)))) ++ (S ++ ((ascii ";\ninit " ++ (n ++ ascii ";\n")) ++ (Tr ++ j)))) e
      ∙ shape f u (declared "clock " "x" (byte p 4)) (declared "int[-32768,32767] " "v" (byte p 5)) S (ascii ";\ninit ") n (ascii ";\n") (Tr ++ (closed ";\n" ts ++ ascii "}\n"))

  -- what its limits give
  pub exportable : (header : TableHeader) → header.channels ≤ 16 → Whole b p → ComponentIn header C → Exportable b p
  exportable header few w k =
      record {
        locations = w.locations;
        least_locations = omega (arith, locations_are, k.least_locations);
        most_locations = omega (arith, locations_are, k.most_locations);
        clocks = omega (arith, front_clocks b p, k.most_clocks);
        variables = omega (arith, front_variables b p, k.variables);
        least_arcs = omega (arith, arcs_are, k.least_arcs);
        most_arcs = omega (arith, arcs_are, k.most_arcs);
        arcs = subst (λ (n : ℕ). ArcsWritable b n (byte p 6) (drop (arcs_place p) p)) locations_are
            (all_writable (sizes_of header C) few k.most_clocks k.variables b (byte p 6) (drop (arcs_place p) p) w.arcs (subst (All (ArcIn (sizes_of header C))) (sym (front_arcs b p)) k.arcs));
      }

-- ## The processes of a valid table

-- those from number c on
abbrev pub processes_from : List ℕ → ℕ → List ℕ
processes_from bs c = process_texts c (map process_for (drop c (read_of bs).table.components))

module _ (bs : List ℕ) (b : Bytes bs) (v : Valid bs) where
  ahead : (c : ℕ) → c < byte bs 3 → processes_from bs c ≡ process_text c (process_for (component_in bs c)) ++ processes_from bs (c + 1)
  unfolding process_texts
  ahead c h = rw add-one (ap (λ (l : List Component). process_texts c (map process_for l)) (drop-cons (read_of bs).table.components c no_component (omega (arith, valid_count bs b v))))

  pub processes_done : (c : ℕ) → byte bs 3 ≤ c → {o₀ all o : List ℕ} {at₀ at : ℕ} → Writing o₀ at₀ all o at (processes_from bs c) → Put o₀ at₀ all at o
  unfolding process_texts
  processes_done c h x =
      let k : length (read_of bs).table.components ≤ c = omega (arith, valid_count bs b v) in
      put_all (left_is (ap (λ (l : List Component). process_texts c (map process_for l)) (drop_of_length-le (read_of bs).table.components k)) x)

  module _ (c : ℕ) (h : c < byte bs 3) (start : ℕ) (e : start ≡ start_of bs c) (w : Bool) (same : w ≡ budgeted bs) where
    pub component_exportable : Exportable w (take (length bs - start) (drop start bs))
    component_exportable =
        exportable w (take (length bs - start) (drop start bs)) (header_of (read_of bs)) (valid_limits bs b v).channels (node_whole bs b v c h start e w same)
        (subst (ComponentIn (header_of (read_of bs))) (sym (node_is bs b v c h start e w same)) (valid_in bs b v c (omega (arith, valid_count bs b v))))

    -- a turn
    pub processes_on : {o₀ all o p : List ℕ} {at₀ at n : ℕ} → Writing o₀ at₀ all o at (processes_from bs c)
        → Put o at (process_text c (process_for (front_component w (take (length bs - start) (drop start bs))))) n p → Writing o₀ at₀ all p n (processes_from bs (c + 1))
    processes_on x k =
        put_on (processes_from bs (c + 1)) (left_is (ahead c h) x) (put_is (ap (λ (C : Component). process_text c (process_for C)) (node_is bs b v c h start e w same)) k)

  -- all of them are the system's
  pub processes_all : processes_from bs 0 ≡ process_texts 0 (system_for (read_of bs).table).processes
  unfolding system_for
  processes_all = refl

  pub system_told : names_text (ascii "chan ") (ascii "c") (byte bs 4) ++ (process_texts 0 (system_for (read_of bs).table).processes ++ names_text (ascii "\nsystem ") (ascii "P") (byte bs 3))
      ≡ system_text (system_for (read_of bs).table)
  unfolding system_text system_for
  system_told =
      let T = (read_of bs).table in
      let count : byte bs 3 ≡ length (map process_for T.components) = valid_count bs b v ∙ sym (length-map T.components process_for) in
      ap₂ (λ (x y : List ℕ). x ++ (process_texts 0 (map process_for T.components) ++ y))
      (names_told "chan " "c" (byte bs 4) ∙ ap (declared "chan " "c") (valid_located bs b v).channels)
      (names_told "\nsystem " "P" (byte bs 3) ∙ ap (declared "\nsystem " "P") count)
