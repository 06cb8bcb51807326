-- The first passages of a list stored over another's, one by one. Assumes nothing.
use Rattle.std.specs.Prelude.{◌≡◌, refl, List, ◌++◌, ℕ, zero, suc, ◌≤◌, length, get_or, set, take, drop}
use Rattle.std.proofs.Common.{sym, ◌∙◌, arith, length-set, drop-cons, take-suc, length-take-le}
use Rattle.std.proofs.lemmas.List.{set_at}
use Rattle.std.proofs.Math.Seq.{append_snoc}
use Rattle.passages.specs.declared.Passage.{Passage}

-- what an index past the end reads
abbrev pub blank : Passage
blank = record { component = 0; edge = 0; location = 0; message = 0; entry = 0; ready = 0; end = 0 }

unfoldable pub copied : List Passage → List Passage → ℕ → List Passage
copied l xs zero = l
copied l xs (suc n) = set (copied l xs n) n (get_or xs n blank)

pub copied_zero : (l xs : List Passage) → copied l xs 0 ≡ l
unfolding copied
copied_zero l xs = refl

pub copied_suc : (l xs : List Passage) (n : ℕ) → copied l xs (suc n) ≡ set (copied l xs n) n (get_or xs n blank)
unfolding copied
copied_suc l xs n = refl

pub length_copied : (l xs : List Passage) (n : ℕ) → length (copied l xs n) ≡ length l
unfolding copied
length_copied l xs zero = refl
length_copied l xs (suc n) = length-set (copied l xs n) n (get_or xs n blank) ∙ length_copied l xs n

-- as a reader sees it: the first n of xs, and the rest of l as it was
pub copied_is : (l xs : List Passage) (n : ℕ) → n ≤ length l → n ≤ length xs → copied l xs n ≡ take n xs ++ drop n l
unfolding copied
copied_is l xs zero h k = refl
copied_is l xs (suc n) h k =
    let e = copied_is l xs n (omega arith) (omega arith) in
    let t : length (take n xs) ≡ n = length-take-le n xs (omega arith) in
    rw (e, drop-cons l n blank, set_at (take n xs) (get_or l n blank) (drop (suc n) l) (get_or xs n blank) n t, take-suc xs n blank) (sym (append_snoc (take n xs) (get_or xs n blank) (drop (suc n) l)))
