-- The items of an edge: updates, a channel, or pairs with no channel twice. Assumes nothing.
use mathlib.Core.Path.{◌≡◌, refl, sym, ap, ap₂, subst, subst₂}
use mathlib.Core.Bool.{true, false}
use mathlib.Core.Option.{Option}
use mathlib.Core.List.{List, [], ◌∷◌, ◌++◌}
use Prim.Native.Nat.{ℕ, zero, suc, ◌≤◌}
use native.Mathlib.Omega.{arith}
use borrow.Author.Tests.{eqb-false, ne_eqb}
use lib.Dec.{eqb}
use lib.ListN.{length}
use Rattle.model.specs.declared.Action.{Action}
use Rattle.model.specs.declared.Action.TheVariants.{Internal, Send, Receive}
use Rattle.model.specs.declared.ClockGuard.{ClockGuard}
use Rattle.model.specs.declared.DataGuard.{DataGuard}
use Rattle.model.specs.declared.Pair.{Pair}
use Rattle.model.specs.declared.Sizes.{Sizes}
use Rattle.model.specs.Lists.{All, empty, more, Bytes, each}
use Rattle.model.specs.Table.{Arc}
use Rattle.model.specs.Bytes.{update_bytes, pair_bytes, kind_of, item_count, item_bytes}
use Rattle.model.specs.Limits.{PairIn, UpdateIn, Distinct, ActionIn}
use Rattle.model.specs.Limits.Distinct.{none as nil, more as cons}
use Rattle.model.specs.Reader.{Parsed, ok, ◌then◌, many, listed, read_pair, read_pairs, read_update, read_channel, Items, read_items, counts_fine, arc_with}
use Rattle.model.proofs.Basics.Bools.{tests, neither}
use Rattle.model.proofs.Reader.Parts.{then_ok, cond_not_ok, ok_same, joined, Said, said_is, Agrees, many_agrees}
use Rattle.model.proofs.Reader.Fixed.{update_agrees, channel_agrees, pair_agrees}

-- ## Pairs

-- no pair's channel was listed before
abbrev pub Fresh : List ℕ → List Pair → Type 0
Fresh seen ps = All (λ q. listed q.channel seen ≡ false) ps

-- one more channel that no pair names
fresh_more : (c : ℕ) (seen : List ℕ) {ps : List Pair} → All (λ p. p.channel ≡ c → ⊥) ps → Fresh seen ps → Fresh (c ∷ seen) ps
fresh_more c seen empty empty = empty
fresh_more c seen (more {x = p} h a) (more f b) = more {x = p} (rw (ne_eqb c p.channel (λ e. h (sym e)), f)) (fresh_more c seen a b)

-- one channel less
pub fresh_less : (c : ℕ) (seen : List ℕ) {ps : List Pair} → Fresh (c ∷ seen) ps → All (λ p. p.channel ≡ c → ⊥) ps × Fresh seen ps
fresh_less c seen empty = (empty, empty)
fresh_less c seen (more {x = p} h a) =
    let t = neither (eqb c p.channel) (listed p.channel seen) h in
    let u = fresh_less c seen a in
    (more (λ e. eqb-false c p.channel t.0 (sym e)) u.0, more t.1 u.1)

-- n pairs in range, no channel twice and none that was listed before
pub record PairsIn (s : Sizes) (n : ℕ) (seen : List ℕ) (ps : List Pair) : Type 0 where
  pub count : length ps ≡ n
  pub pairs : All (PairIn s) ps
  pub distinct : Distinct ps
  pub fresh : All (λ q. listed q.channel seen ≡ false) ps

module _ (s : Sizes) where
  -- pairs written are read back
  pairs_reads : {ps : List Pair} (seen r : List ℕ) → All (PairIn s) ps → Distinct ps → Fresh seen ps → read_pairs s (length ps) seen (each pair_bytes ps ++ r) ≡ ok ps r
  unfolding read_pairs each
  pairs_reads seen r empty nil empty = refl
  pairs_reads seen r (more {x = q} {xs = qs} h a) (cons d ds) (more f fs) =
      let rest = pairs_reads (q.channel ∷ seen) r a ds (fresh_more q.channel seen d fs) in
      rw ((pair_agrees s).reads q (each pair_bytes qs ++ r) h, f, rest)

  -- pairs read are written so
  pairs_wrote : (n : ℕ) (seen bs : List ℕ) (ps : List Pair) (r : List ℕ) → Bytes bs → read_pairs s n seen bs ≡ ok ps r → Said (PairsIn s n seen) (each pair_bytes) bs ps r
  unfolding read_pairs each
  pairs_wrote zero seen bs ps r a e =
      let q = ok_same e in
      said_is q.0 q.1 (record { within = record { count = refl; pairs = empty; distinct = nil; fresh = empty }; same = refl; bytes = a })
  pairs_wrote (suc n) seen bs ps r a e =
      let t = then_ok (read_pair s bs) _ e in
      let q = t.0 in
      let h = (pair_agrees s).wrote bs q t.1 a t.2 in
      let u = cond_not_ok (listed q.channel seen) (read_pairs s n (q.channel ∷ seen) t.1 then λ l m. ok (q ∷ l) m) 6 t.3 in
      let v = then_ok (read_pairs s n (q.channel ∷ seen) t.1) (λ l m. ok (q ∷ l) m) u.1 in
      let w = pairs_wrote n (q.channel ∷ seen) t.1 v.0 v.1 h.bytes v.2 in
      let f = fresh_less q.channel seen w.within.fresh in
      let z = ok_same v.3 in
      said_is z.0 z.1 (record {
        within = record {
          count = ap suc w.within.count;
          pairs = more h.within w.within.pairs;
          distinct = cons f.0 w.within.distinct;
          fresh = more u.0 f.1;
        };
        same = joined (pair_bytes q) (each pair_bytes v.0) v.1 h.same w.same;
        bytes = w.bytes;
      })

  -- the pairs of a receive edge
  pub pairs_agree : (n : ℕ) (seen : List ℕ) → Agrees (read_pairs s n seen) (PairsIn s n seen) (each pair_bytes)
  pairs_agree n seen = record { reads = λ ps r h. subst (λ k. read_pairs s k seen (each pair_bytes ps ++ r) ≡ ok ps r) h.count (pairs_reads seen r h.pairs h.distinct h.fresh); wrote = pairs_wrote n seen }

-- ## Items

-- the counts of an action's items are fine
pub counts-fine : (s : Sizes) (a : Arc) (act : Action) → ActionIn s a act → counts_fine (kind_of act) (length a.data_guards) (item_count a act) ≡ true
counts-fine s a Internal h = simp tests (h.guards, h.count)
counts-fine s a (Send k) h = simp tests (h.guards, refl)
counts-fine s a Receive h = simp tests ((ap length h.guards, h.least), h.most)

-- the number of a kind
pub kind_small : (act : Action) → kind_of act ≤ 2
kind_small Internal = omega arith
kind_small (Send k) = omega arith
kind_small Receive = omega arith

-- the items of an arc are read back
pub items_reads : (s : Sizes) (a : Arc) (act : Action) (r : List ℕ) → ActionIn s a act
    → read_items s (kind_of act) (item_count a act) (item_bytes a act ++ r) ≡ ok (record { action = act; updates = a.updates; pairs = a.pairs }) r
unfolding read_items item_bytes
items_reads s a Internal r h =
    rw ((many_agrees (read_update s) (UpdateIn s) update_bytes (update_agrees s) (length a.updates)).reads a.updates r (refl, h.updates))
    (ap {B = Parsed Items} (λ ps. ok (record { action = Internal; updates = a.updates; pairs = ps }) r) (sym h.pairs))
items_reads s a (Send k) r h =
    rw ((channel_agrees s).reads k r h.channel)
    (ap₂ {C = Parsed Items} (λ us ps. ok (record { action = Send k; updates = us; pairs = ps }) r) (sym h.updates) (sym h.pairs))
items_reads s a Receive r h =
    rw ((pairs_agree s (length a.pairs) []).reads a.pairs r (record { count = refl; pairs = h.pairs; distinct = h.distinct; fresh = unlisted a.pairs }))
    (ap {B = Parsed Items} (λ us. ok (record { action = Receive; updates = us; pairs = a.pairs }) r) (sym h.updates))
  where
    unlisted : (ps : List Pair) → All (λ q. listed q.channel [] ≡ false) ps
    unlisted [] = empty
    unlisted (q ∷ qs) = more refl (unlisted qs)

-- what the items read say of their arc: kind k, n items, in range, and the bytes are theirs and the rest
pub record ItemsSaid (s : Sizes) (k n : ℕ) (bs : List ℕ) (a : Arc) (r : List ℕ) : Type 0 where
  pub kind : kind_of a.edge.action ≡ k
  pub count : item_count a a.edge.action ≡ n
  pub within : ActionIn s a a.edge.action
  pub same : bs ≡ item_bytes a a.edge.action ++ r
  pub bytes : Bytes r

module _ (s : Sizes) (h : List ℕ) (o : Option ℕ) (cs : List ClockGuard) (ds : List DataGuard) where
  -- the items read are those of the arc made of them
  pub items_wrote : (k n : ℕ) (bs : List ℕ) (i : Items) (r : List ℕ) → Bytes bs → k ≤ 2 → counts_fine k (length ds) n ≡ true → read_items s k n bs ≡ ok i r
      → ItemsSaid s k n bs (arc_with h o cs ds i) r
  unfolding read_items item_bytes
  items_wrote zero n bs i r a small c e =
      let t = then_ok (many (read_update s) n bs) _ e in
      let u = (many_agrees (read_update s) (UpdateIn s) update_bytes (update_agrees s) n).wrote bs t.0 t.1 a t.2 in
      let f = simp tests at c in
      let z = ok_same t.3 in
      subst₂ (λ j q. ItemsSaid s 0 n bs (arc_with h o cs ds j) q) z.0 z.1 (record {
        kind = refl;
        count = u.within.0;
        within = record { guards = f.0; count = omega (arith, u.within.0, f.1); updates = u.within.1; pairs = refl };
        same = u.same;
        bytes = u.bytes;
      })
  items_wrote (suc zero) n bs i r a small c e =
      let t = then_ok (read_channel s bs) _ e in
      let u = (channel_agrees s).wrote bs t.0 t.1 a t.2 in
      let f = simp tests at c in
      let z = ok_same t.3 in
      subst₂ (λ j q. ItemsSaid s 1 n bs (arc_with h o cs ds j) q) z.0 z.1 (record {
        kind = refl;
        count = sym f.1;
        within = record { guards = f.0; channel = u.within; updates = refl; pairs = refl };
        same = u.same;
        bytes = u.bytes;
      })
  items_wrote (suc (suc k)) n bs i r a small c e =
      let t = then_ok (read_pairs s n [] bs) _ e in
      let u = (pairs_agree s n []).wrote bs t.0 t.1 a t.2 in
      let f = simp tests at c in
      let z = ok_same t.3 in
      subst₂ (λ j q. ItemsSaid s (suc (suc k)) n bs (arc_with h o cs ds j) q) z.0 z.1 (record {
        kind = omega arith;
        count = u.within.count;
        within = record {
          guards = empty ds f.0.0;
          least = omega (arith, u.within.count, f.0.1);
          most = omega (arith, u.within.count, f.1);
          pairs = u.within.pairs;
          distinct = u.within.distinct;
          updates = refl;
        };
        same = u.same;
        bytes = u.bytes;
      })
    where
      empty : (l : List DataGuard) → length l ≡ 0 → l ≡ []
      empty [] e = refl
      empty (x ∷ xs) e = absurd (omega arith)
