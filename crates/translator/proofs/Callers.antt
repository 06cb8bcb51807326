-- What `program_length` and `write_program` require, from the reader's answer. Assumes nothing.
use mathlib.Core.Path.{◌≡◌, refl, sym, ap, ◌∙◌}
use mathlib.Core.Bool.{true}
use mathlib.Core.List.{List}
use Prim.Native.Nat.{ℕ}
use native.Mathlib.Omega.{arith}
use Rattle.model.specs.declared.Verdict.TheVariants.{Accepted}
use Rattle.model.specs.Lists.{Answer, accepted, refused}
use Rattle.model.specs.Reader.{byte, read_table}
use Rattle.model.specs.Places.{is_accepted, Valid}
use Rattle.model.specs.Calls.{verdict_of}
use Rattle.table.specs.declared.Reading.{Reading}
use Rattle.table.specs.Directory.{starts_of, found_in, reading_of}

accepts : {A : Type 0} (bs : List ℕ) (n : ℕ) (a : Answer A) → verdict_of a ≡ Accepted → (is_accepted a ≡ true) × (found_in bs n a ≡ starts_of bs n)
accepts bs n (accepted x) e = (refl, refl)
accepts bs n (refused k c) e = let z : ◌≡◌ {A = ℕ} 0 1 = cc in absurd (omega arith)

-- the reader accepted: the table is valid, and these are its starts
pub reading_valid : (bs : List ℕ) (r : Reading) → r ≡ reading_of bs → r.verdict ≡ Accepted → Valid bs × (r.starts ≡ starts_of bs (byte bs 3))
unfolding Valid
reading_valid bs r e v =
    let t = accepts bs (byte bs 3) (read_table bs) (sym (ap (λ (x : Reading). x.verdict) e) ∙ v) in
    (t.0, ap (λ (x : Reading). x.starts) e ∙ t.1)
