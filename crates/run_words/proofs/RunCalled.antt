-- The words of a run from what the call `run_apart` leaves. Assumes nothing.
use mathlib.Core.Path.{◌≡◌, refl, sym, ap, ap₂, ◌∙◌}
use mathlib.Core.Bool.{Bool, true, false, cond, ◌&&◌}
use mathlib.Core.List.{List, [], ◌++◌}
use Prim.Native.Nat.{ℕ, ◌≤◌}
use native.Mathlib.Omega.{arith}
use lib.Dec.{ltb}
use Rattle.model.specs.declared.End.{End}
use Rattle.model.specs.declared.Verdict.{Verdict}
use Rattle.model.specs.declared.Verdict.TheVariants.{Accepted, Refused}
use Rattle.model.specs.Lists.{Answer, accepted, refused}
use Rattle.model.specs.Table.{Read}
use Rattle.model.specs.Reader.{byte, read_table}
use Rattle.model.specs.Calls.{spread_fine, run_read_at, run_call_at}
use Rattle.node_count.proofs.Few.{read_few}
use Rattle.refusal_text.specs.RefusalText.{refusal_text}
use Rattle.run_text.specs.RunText.{end_text, counts_text, offsets_text, first_line, observation_lines, run_text, ran_text_at, run_text_at}
use Rattle.run_text.proofs.Together.{text_together}

module _ (G : ℕ) (table offsets choices lent : List ℕ) where
  pub ran_words : (run_call_at G table offsets choices lent).verdict ≡ Accepted → (end : End) (tick used size nodes : ℕ) (later : List ℕ)
      → end ≡ (run_call_at G table offsets choices lent).end
      → tick ≡ (run_call_at G table offsets choices lent).tick
      → used ≡ (run_call_at G table offsets choices lent).used
      → size ≡ (run_call_at G table offsets choices lent).size
      → later ≡ (run_call_at G table offsets choices lent).lent
      → nodes ≡ byte table 3
      → end_text end choices used ++ counts_text tick used size ++ offsets_text nodes offsets ++ first_line ++ observation_lines later size ≡ run_text_at G table offsets choices lent
  unfolding run_text_at
  ran_words h end tick used size nodes later e1 e2 e3 e4 e5 e6 =
      rw (e1, e2, e3, e4, e5, e6) (sym (ap (λ (v : Verdict). ran_text_at (byte table 3) offsets v (run_call_at G table offsets choices lent) choices) h))

  pub not_run_words : (n c : ℕ) → (run_call_at G table offsets choices lent).verdict ≡ Refused n c → refusal_text n c ≡ run_text_at G table offsets choices lent
  unfolding run_text_at
  not_run_words n c h = sym (ap (λ (v : Verdict). ran_text_at (byte table 3) offsets v (run_call_at G table offsets choices lent) choices) h)

  -- without a spread and without offsets
  pub text_none : {text : List ℕ} → text ≡ run_text_at G table offsets choices lent → G ≡ 0 → offsets ≡ [] → text ≡ run_text table choices lent
  text_none e g o = e ∙ ap₂ (λ (K : ℕ) (os : List ℕ). run_text_at K table os choices lent) g o ∙ text_together table choices lent

-- ## A table that is run has at most 8 nodes

pub few_nodes : (G : ℕ) (table offsets choices lent : List ℕ) → (run_call_at G table offsets choices lent).verdict ≡ Accepted → byte table 3 ≤ 8
unfolding run_call_at
few_nodes G table offsets choices lent h = go (read_table table) refl h
  where
    go : (a : Answer Read) → read_table table ≡ a → (run_read_at G (spread_fine G a) offsets choices lent).verdict ≡ Accepted → byte table 3 ≤ 8
    go (accepted t) e q = read_few table t e
    go (refused n c) e q = absurd (never (ltb 1000 G && ltb 3 n) q)
      where
        never : (t : Bool) → (run_read_at G (cond t (refused 19 255) (refused n c)) offsets choices lent).verdict ≡ Accepted → ⊥
        never true z = let y : ◌≡◌ {A = ℕ} 0 1 = cc in omega arith
        never false z = let y : ◌≡◌ {A = ℕ} 0 1 = cc in omega arith
