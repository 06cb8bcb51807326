-- Past the last passage before the horizon: what the rows, moved, say of the next one lies at the horizon or after it. Assumes nothing.
use mathlib.Core.Path.{◌≡◌, refl, sym, ap, subst, ◌∙◌}
use mathlib.Core.Bool.{Bool, true}
use mathlib.Core.List.{List, [], ◌∷◌, ◌++◌, map}
use Prim.Native.Nat.{ℕ, zero, suc, ◌+◌, ◌-◌, ◌*◌, ◌≤◌, ◌<◌}
use native.Mathlib.Omega.{arith}
use borrow.Author.Tests.{ltb-true, lt-ltb, leb-true, le-leb}
use lib.Dec.{ltb, leb, eqb}
use lib.ListN.{length, length-append, length-map}
use Rattle.model.specs.Lists.{◌∈◌, here, there, only}
use Rattle.model.specs.Table.{Table, size}
use Rattle.model.specs.Schedule.{Passage, own}
use Rattle.model.specs.Checks.{no_passage, passage_at}
use Rattle.model.specs.Chains.{Ordered, IsSchedule}
use Rattle.model.proofs.Basics.Members.{not_in, in_at, only_is}
use Rattle.model.proofs.Schedule.Own.{own_in}
use Rattle.recurrence.specs.Recurrence.{Recurs}
use Rattle.recurrence.proofs.Move.{later}
use Rattle.recurrence.proofs.Seam.{enters_before, enters_from, split_at, starts_early}
use Rattle.recurrence.proofs.Grow.{Again, ordered_only, own_grown, grown_schedule}
use Rattle.recurrence.proofs.Every.{reach, reach_high, again_of, again_grown}
use Rattle.recurrence.proofs.Count.{only_under}
use Rattle.recurrence.proofs.Counted.{recurs_up}
use Rattle.recurrence.proofs.Index.{at_second}
use Rattle.recurrence.proofs.Place.{u, w, by_place, same_rows, front_long}

-- a list with a member is not empty
pub some_in : {A : Type 0} {x : A} {xs : List A} → x ∈ xs → 1 ≤ length xs
some_in (here e) = omega arith
some_in (there m) = omega arith

-- a period has a passage of every component
pub own_period : {m : ℕ} (T : Table) (H : ℕ) (S : List Passage) (s : IsSchedule m T H S) (a P : ℕ) → 0 < P → Again T S a P → (c : ℕ) → c < size T
    → length (only (enters_before a) (own c S)) < length (only (enters_before (a + P)) (own c S))
own_period T H S s a P longer f c h =
    let r = f c h in
    let Z = own c S in
    let F = only (enters_before (a + P)) Z in
    let o : Ordered F = ordered_only (enters_before (a + P)) (ordered_only (λ (v : Passage). eqb v.component c) s.order) in
    let z = split_at a o in
    let here' : r.0 ∈ F = (only_is (enters_before (a + P)) Z).1 (r.2, lt-ltb r.0.entry.tick (a + P) (omega (arith, r.4))) in
    let there' : r.0 ∈ only (enters_from a) F = (only_is (enters_from a) F).1 (here', le-leb a r.0.entry.tick (omega (arith, r.4))) in
    omega (
      arith,
      ap length z,
      length-append (only (enters_before a) F) (only (enters_from a) F),
      some_in there',
      ap length (only_under (enters_before a) (enters_before (a + P)) (λ v e. lt-ltb v.entry.tick (a + P) (omega (arith, ltb-true v.entry.tick a e))) Z),
    )

-- so there are schedules with as many of them as one likes
longer_own : (T : Table) (a P : ℕ) → 0 < P → (c : ℕ) → c < size T → (k H : ℕ) {m : ℕ} (S : List Passage) → a + P < H → IsSchedule m T H S → Again T S a P
    → (L : List Passage) × (n : ℕ) × IsSchedule n T (reach k P H) L × (length (own c S) + k ≤ length (own c L))
unfolding reach
longer_own T a P l c h zero H {m} S b s f = (S, m, s, omega arith)
longer_own T a P l c h (suc k) H {m} S b s f =
    let G = only (enters_before (a + P)) S ++ map (later P) (only (enters_from a) S) in
    let r = longer_own T a P l c h k (H + P) G (omega arith) (grown_schedule m T H S s a P b l f) (again_grown T S a P l f) in
    let Z = own c S in
    let z = split_at a (ordered_only (λ (v : Passage). eqb v.component c) s.order) in
    let e = ap length (own_grown m T H S s a P b l f c) in (
      r.0,
      r.1,
      r.2,
      omega (
        arith,
        r.3,
        e,
        length-append (only (enters_before (a + P)) Z) (map (later P) (only (enters_from a) Z)),
        length-map (only (enters_from a) Z) (later P),
        ap length z,
        length-append (only (enters_before a) Z) (only (enters_from a) Z),
        own_period T H S s a P l f c h,
      ),
    )

-- The law: where the schedule to H has no passage of that number any more, the place of that number says a ready that is not before H.
pub beyond : {l m : ℕ} (T : Table) (h H : ℕ) {S L : List Passage} (short : IsSchedule l T h S) (long : IsSchedule m T H L) (less : h ≤ H) (least : 0 < h) (c : ℕ) → c < size T
    → (a P : ℕ) (longer : 0 < P) (r : Recurs T h S a (a + P)) (q i : ℕ)
    → i < w T h H short long less least c a P longer r → (0 < q → u T h H short long less least c a P longer r ≤ i)
    → length (own c L) ≤ i + q * (w T h H short long less least c a P longer r - u T h H short long less least c a P longer r)
    → H ≤ (passage_at (own c S) i).ready + q * P
beyond T h H {S} {L} short long less least c present a P longer r q i f g k =
    let n = i + q * (w T h H short long less least c a P longer r - u T h H short long less least c a P longer r) in
    let r' = recurs_up T h H short long less least a (a + P) r in
    let more = longer_own T a P longer c present (suc n) H L r'.below long (again_of T H L a P r') in
    let K = reach (suc n) P H in
    let M = more.0 in
    let s = more.2 in
    let up : H ≤ K = omega (arith, reach_high (suc n) P H longer) in
    let there' : n < length (own c M) = omega (arith, more.3) in
    let place = by_place T h K short s (omega arith) least c a P longer r q i f g there' in
    -- passage n is none of those before H
    let Front = only (enters_before H) (own c M) in
    let Rest = only (enters_from H) (own c M) in
    let z = split_at H (ordered_only (λ (v : Passage). eqb v.component c) s.order) in
    let long' : length Front ≡ length (own c L) = front_long T H K long s up (omega (arith, less, least)) c in
    let j = n - length Front in
    let at : passage_at (own c M) n ≡ passage_at Rest j = sym (ap (λ (vs : List Passage). passage_at vs n) z) ∙ ap (passage_at (Front ++ Rest)) (let x : n ≡ length Front + j = omega (arith, long') in x) ∙ at_second Front Rest j in
    let inside : passage_at Rest j ∈ Rest = in_at no_passage Rest j (omega (arith, ap length z, length-append Front Rest, long')) in
    let late = leb-true H (passage_at Rest j).entry.tick ((only_is (enters_from H) (own c M)).0 inside).1 in
    let early = starts_early more.1 T K M s (passage_at Rest j) (own_in c M ((only_is (enters_from H) (own c M)).0 inside).0).0 in
    omega (arith, place, ap (λ (v : Passage). v.ready) at)
