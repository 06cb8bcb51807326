-- The text of a table that is read, between the ticks. Assumes nothing.
use mathlib.Core.Path.{◌≡◌, refl, sym, ap, subst, ◌∙◌}
use mathlib.Core.Bool.{Bool, true, false}
use mathlib.Core.List.{List, [], ◌∷◌, map}
use mathlib.Core.Option.{Option}
use Prim.Native.Nat.{ℕ, ◌+◌, ◌*◌, ◌/◌, ◌<◌}
use native.Mathlib.Omega.{arith}
use native.Mathlib.Nat.{add-mul-div_left, div-eq_of_lt}
use borrow.Author.Tests.{ltb-true, ltb-false}
use lib.Dec.{leb, ltb}
use lib.ListN.{get_or-eq_default}
use Rattle.model.specs.Lists.{all, ◌∈◌, here, there, accepted}
use Rattle.model.specs.Table.{Component, Table, Read, size, component_of, arc_of}
use Rattle.model.specs.Reader.{read_table}
use Rattle.model.proofs.Basics.Members.{not_in}
use Rattle.model.proofs.Basics.Walk.{all_at}
use Rattle.model.proofs.Schedule.Own.{all_in}
use Rattle.model.proofs.Reader.Limits.{read_limits}
use Rattle.uppaal.specs.Xta.{Upper, Atom, below, exactly, Transition, Process, no_process, process_of}
use Rattle.uppaal.specs.Export.{uppers, ends, step_in_with, step_out_with, system_for}
use Rattle.uppaal.specs.XtaNetwork.{Stand}
use Rattle.uppaal.specs.Dense.{counted, floored, from_waiting, resets_none, Punctual, step_in, at_bound, AllPunctual, DenseTime}
use Rattle.uppaal.specs.RealNetwork.{Fractions}
use Rattle.uppaal.specs.RealTime.{RealTime, InRealTime}
use Rattle.uppaal.proofs.Ends.{from_map}
use Rattle.uppaal.proofs.Picks.{Picked, is_in, is_out, picked}
use Rattle.uppaal.proofs.Held.{Limited}
use Rattle.uppaal.proofs.Views.{process_count, process_at}
use Rattle.uppaal.proofs.Declares.{declared}
use Rattle.uppaal.proofs.Between.{dense}
use Rattle.uppaal.proofs.RealPaths.{real_time}

-- each guard of an end has a clock exactly at a bound
ends_exact : (us : List Upper) {g : List Atom} → g ∈ ends us → (u : Upper) × (exactly u ∈ g)
unfolding ends
ends_exact [] k = absurd (not_in k)
ends_exact (u ∷ us) (here e) = (u, subst (λ (g : List Atom). exactly u ∈ g) (sym e) (here refl))
ends_exact (u ∷ us) (there k) =
    let r = from_map (λ g. below u ∷ g) (ends us) k in
    let q = ends_exact us r.1 in
    (q.0, subst (λ (g : List Atom). exactly q.0 ∈ g) (sym r.2) (there q.1))

module _ (T : Table) (L : Limited T) where
  punctual : AllPunctual (system_for T)
  unfolding step_in_with step_out_with
  punctual p t k = go (ltb p (size T)) refl
    where
      C : Component
      C = component_of T p

      inside : p < size T → (e : ℕ) (m : Option ℕ) → Picked C t e (arc_of C e) m → Punctual (process_of (system_for T) p) t
      inside i e m (is_in g v q) = step_in (ap (λ (u : Transition). all resets_none u.assignments) q) (ap (λ (u : Transition). from_waiting u.source) q)
      inside i e m (is_out g v q) =
          let r = ends_exact (uppers C (arc_of C e)) v in
          let w : exactly r.0 ∈ t.guard = subst (λ (u : Transition). exactly r.0 ∈ u.guard) (sym q) r.1 in
          let P = all_at no_process (declared T L) p (omega (arith, i, process_count T)) in
          at_bound r.0 w (all_in (all_in P.transitions k).guard w)

      go : (b : Bool) → ltb p (size T) ≡ b → Punctual (process_of (system_for T) p) t
      go true b =
          let i = ltb-true p (size T) b in
          let r = picked C t (subst (λ (P : Process). t ∈ P.transitions) (process_at T p i) k) in
          inside i r.0 r.2.0 r.2.2
      go false b =
          let i = ltb-false p (size T) b in
          absurd (not_in (subst (λ (P : Process). t ∈ P.transitions) (get_or-eq_default (system_for T).processes no_process (omega (arith, i, process_count T))) k))

  pub dense_time : DenseTime T
  dense_time n one = dense (system_for T) punctual n one

  pub in_real_time : InRealTime T
  in_real_time Q = real_time Q (system_for T) punctual

-- of every table that is read
pub exported_dense : (bs : List ℕ) (t : Read) → read_table bs ≡ accepted t → DenseTime t.table
exported_dense bs t e = dense_time t.table (record { budgets = leb 3 t.version; components = (read_limits bs t e).components })

pub exported_real : (bs : List ℕ) (t : Read) → read_table bs ≡ accepted t → InRealTime t.table
exported_real bs t e = in_real_time t.table (record { budgets = leb 3 t.version; components = (read_limits bs t e).components })

-- spelt out: of every table that is read, for any fractions, with no hypothesis more
pub exported_real_says : (bs : List ℕ) (t : Read) → read_table bs ≡ accepted t → (Q : Fractions) → RealTime Q (system_for t.table)
exported_real_says bs t e Q = exported_real bs t e Q

-- the state at whole ticks has the clocks of the state in n-ths divided by n
pub floored_is : (n r : ℕ) → r < n → (z : List Stand) → map (floored n) (map (counted n r) z) ≡ z
floored_is n r l [] = refl
floored_is n r l (x ∷ z) =
    ap (λ (xs : List ℕ). record { at = x.at; clocks = xs; values = x.values } ∷ map (floored n) (map (counted n r) z)) (clocks x.clocks)
    ∙ ap (λ (s : List Stand). x ∷ s) (floored_is n r l z)
  where
    one : (c : ℕ) → (n * c + r) / n ≡ c
    one c =
        let p : n * c + r ≡ r + n * c = omega arith in
        let q : (r + n * c) / n ≡ r / n + c = add-mul-div_left r c (omega (arith, l)) in
        let k : r / n ≡ 0 = div-eq_of_lt l in
        ap (λ (i : ℕ). i / n) p ∙ q ∙ ap (λ (i : ℕ). i + c) k ∙ omega arith

    clocks : (xs : List ℕ) → map (λ c. c / n) (map (λ c. n * c + r) xs) ≡ xs
    clocks [] = refl
    clocks (c ∷ xs) = rw (one c, clocks xs) refl
