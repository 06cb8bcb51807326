-- Choices carried out one after the other: how far the list has come, and what the next choice makes of it. Assumes nothing.
use mathlib.Core.Path.{◌≡◌, refl, sym, ap, subst, ◌∙◌}
use mathlib.Core.List.{List, [], ◌∷◌, ◌++◌, append-nil}
use Prim.Native.Nat.{ℕ, zero, suc, ◌+◌, ◌*◌, ◌≤◌, ◌<◌}
use native.Mathlib.Omega.{arith}
use native.Mathlib.Numerals.{add-one}
use lib.IntN.{ℤ}
use lib.ListN.{length, get_or, take, drop, length-append, length-drop, drop_of_length-le, take-append-drop}
use lib.Seq.{take-suc, drop-cons, append_snoc, sets, sets-eq, take_at, drop-drop, drop-append-add}
use Rattle.model.specs.Lists.{each}
use Rattle.model.specs.Run.{Setting, Run, start_run, Outcome, forbidden, on, over, choose1, Result, ends, continue, run_from, run, observation_width, Written, written_bytes, written_in}
use Rattle.model.proofs.Observations.Size.{all_long}
use Rattle.model.proofs.Basics.Sums.{each_join}
use Rattle.model.specs.declared.End.TheVariants.{Horizon}
use Rattle.model.specs.Calls.{end_of}
use Rattle.run.specs.declared.Ended.{Ended}
use Rattle.machine.specs.Running.{setting_in}
use Rattle.run.specs.Ends.{Roomy, most_used, Brief, Over, GoesOn, PartEnds, EndsAs}

-- ## How far the list has come

-- after so many choices from s₀ on the run stands in s
abbrev pub Reaches : Setting → List ℕ → Run → ℕ → Run → Type 0
Reaches g cs s₀ used s = (ys : List ℕ) → run_from g (take used cs ++ ys) s₀ ≡ run_from g ys s

module _ (g : Setting) (cs : List ℕ) (s₀ : Run) where
  pub reaches_first : Reaches g cs s₀ 0 s₀
  reaches_first ys = refl

  module _ (used : ℕ) (s : Run) (at : Reaches g cs s₀ used s) where
    -- the next choice, and those behind it
    next_first : used < length cs → (ys : List ℕ) → run_from g (take (suc used) cs ++ ys) s₀ ≡ continue s (choose1 g s (get_or cs used 0)) (λ t. run_from g ys t)
    unfolding run_from
    next_first h ys =
        ap (λ (xs : List ℕ). run_from g (xs ++ ys) s₀) (take-suc cs used 0 h)
        ∙ ap (λ (xs : List ℕ). run_from g xs s₀) (append_snoc (take used cs) (get_or cs used 0) ys)
        ∙ at (get_or cs used 0 ∷ ys)

    -- it goes on
    pub reaches_next : {t : Run} → used < length cs → choose1 g s (get_or cs used 0) ≡ on t → Reaches g cs s₀ (used + 1) t
    reaches_next {t} h e ys =
        ap (λ (k : ℕ). run_from g (take k cs ++ ys) s₀) (add-one used)
        ∙ next_first h ys
        ∙ ap (λ (o : Outcome). continue s o (λ u. run_from g ys u)) e

    -- the whole list, from here
    whole : run_from g cs s₀ ≡ run_from g (drop used cs) s
    whole = ap (λ (xs : List ℕ). run_from g xs s₀) (sym (take-append-drop used cs)) ∙ at (drop used cs)

    whole_next : used < length cs → run_from g cs s₀ ≡ continue s (choose1 g s (get_or cs used 0)) (λ t. run_from g (drop (suc used) cs) t)
    unfolding run_from
    whole_next h = whole ∙ ap (λ (xs : List ℕ). run_from g xs s) (drop-cons cs used 0 h)

    -- it is not allowed
    pub ends_forbidden : used < length cs → choose1 g s (get_or cs used 0) ≡ forbidden → run_from g cs s₀ ≡ ends s 3 255
    ends_forbidden h e = whole_next h ∙ ap (λ (o : Outcome). continue s o (λ u. run_from g (drop (suc used) cs) u)) e

    -- it is the last
    pub ends_over : {t : Run} {k c : ℕ} → used < length cs → choose1 g s (get_or cs used 0) ≡ over t k c → run_from g cs s₀ ≡ ends t k c
    ends_over h e = whole_next h ∙ ap (λ (o : Outcome). continue s o (λ u. run_from g (drop (suc used) cs) u)) e

    -- there is none
    pub ends_used : length cs ≤ used → run_from g cs s₀ ≡ ends s 1 255
    unfolding run_from
    ends_used h = whole ∙ ap (λ (xs : List ℕ). run_from g xs s) (drop_of_length-le cs h)

    so_far : run_from g (take used cs) s₀ ≡ ends s 1 255
    unfolding run_from
    so_far = ap (λ (xs : List ℕ). run_from g xs s₀) (sym (append-nil (take used cs))) ∙ at []

    -- the observations so far have room
    pub roomy_at : (room : ℕ) → Roomy g cs s₀ room → length s.observations * observation_width ≤ room
    roomy_at room R = subst (λ (r : Result). length r.state.observations * observation_width ≤ room) so_far (R used)

    -- the choices so far are not too many
    pub brief_at : Brief g cs s₀ → s.used ≤ most_used
    brief_at B = subst (λ (r : Result). r.state.used ≤ most_used) so_far (B used)

-- ## The bytes of the observations

pub over_none : (out : List ℕ) → Over [] out out
unfolding each
over_none out = refl

pub over_length : (os : List Written) (out₀ out : List ℕ) → Over os out₀ out → length os * observation_width ≤ length out₀ → length out ≡ length out₀
over_length os out₀ out e h =
    ap length e ∙ omega (arith, length-append (each written_bytes os) (drop (length os * observation_width) out₀), all_long os, length-drop (length os * observation_width) out₀)

-- some more
pub over_more : (os seen : List Written) (out₀ out : List ℕ) → Over os out₀ out → length (os ++ seen) * observation_width ≤ length out₀ → Over (os ++ seen) out₀ (sets out (length os * observation_width) (each written_bytes seen))
over_more os seen out₀ out e h =
    let n = length os * observation_width in
    let a = each written_bytes os in
    let b = each written_bytes seen in
    let la : length a ≡ n = all_long os in
    let lb : length b ≡ length seen * observation_width = all_long seen in
    let ls : length (os ++ seen) ≡ length os + length seen = length-append os seen in
    let lo : length out ≡ length out₀ = over_length os out₀ out e (omega arith) in
    let back : drop (n + length b) out ≡ drop (length (os ++ seen) * observation_width) out₀ =
    ap (drop (n + length b)) e
    ∙ ap (λ (k : ℕ). drop (k + length b) (a ++ drop n out₀)) (sym la)
    ∙ drop-append-add a (drop n out₀) (length b)
    ∙ drop-drop (length b) n out₀
    ∙ (let q : n + length b ≡ length (os ++ seen) * observation_width = omega arith in ap (λ (k : ℕ). drop k out₀) q) in
    sets-eq b out n (omega arith)
    ∙ ap (λ (x : List ℕ). x ++ b ++ drop (n + length b) out) (ap (take n) e ∙ take_at a (drop n out₀) n la)
    ∙ ap (λ (x : List ℕ). a ++ b ++ x) back
    ∙ ap (λ (x : List ℕ). x ++ drop (length (os ++ seen) * observation_width) out₀) (sym (each_join written_bytes os seen))

-- ## The end

-- the horizon's is number 0
pub horizon_end : (k c : ℕ) → end_of k c ≡ Horizon → k ≡ 0
horizon_end zero c e = refl
horizon_end (suc zero) c e = absurd (cc)
horizon_end (suc (suc zero)) c e = absurd (cc)
horizon_end (suc (suc (suc k))) c e = absurd (cc)

pub ends_as : (program : List ℕ) (H : ℕ) (rows : List ℕ) (n : ℕ) (l : List ℕ) (count : ℕ) (cs : List ℕ) (s₀ : Run) (out : List ℕ) (e : Ended) (l' : List ℕ) (v' : List ℤ) (out' : List ℕ) (s : Run) (k c : ℕ)
    → run_from (setting_in program H rows n l count) cs s₀ ≡ ends s k c → e.end ≡ end_of k c → e.tick ≡ s.tick → s.used ≡ s₀.used + e.used
    → e.written ≡ length s.observations → Over (written_in s) out out' → (k ≡ 0 → GoesOn program H rows n l count l' v' s) → PartEnds program H rows n l count cs s₀ out e l' v' out'
ends_as program H rows n l count cs s₀ out e l' v' out' s k c r end tick used written bytes goes =
    record {
      end = rw r end;
      tick = rw r tick;
      used = rw r used;
      written = rw r written;
      bytes = rw r bytes;
      further = λ z. subst (λ (x : Result). GoesOn program H rows n l count l' v' x.state) (sym r) (goes (horizon_end k c (sym end ∙ z)));
    }

-- a run from the start is all of it
pub ends_whole : (program : List ℕ) (H : ℕ) (rows : List ℕ) (n : ℕ) (l : List ℕ) (count : ℕ) (cs out : List ℕ) (e : Ended) (l' : List ℕ) (v' : List ℤ) (out' : List ℕ)
    → PartEnds program H rows n l count cs (start_run (setting_in program H rows n l count)) out e l' v' out' → EndsAs (setting_in program H rows n l count) cs out e out'
unfolding run
ends_whole program H rows n l count cs out e l' v' out' p =
    record { end = p.end; tick = p.tick; used = omega (arith, p.used); written = p.written; bytes = p.bytes }
