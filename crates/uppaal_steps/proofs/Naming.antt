-- Names, channels and waiting locations, as they are written. Assumes nothing.
use mathlib.Core.Path.{◌≡◌, refl, sym, ap, ◌∙◌}
use mathlib.Core.Bool.{Bool, true, false, cond}
use mathlib.Core.List.{List, [], ◌∷◌, ◌++◌}
use mathlib.Core.Option.{none, some}
use Prim.Native.Nat.{ℕ, zero, suc}
use borrow.Author.Tests.{eq-eqb, ne_eqb}
use lib.Dec.{eqb}
use Rattle.model.specs.declared.Location.{Location}
use Rattle.model.specs.Lists.{each}
use Rattle.model.specs.Table.{Arc}
use Rattle.model.specs.Places.{action_at}
use Rattle.window.specs.Views.{message_of}
use Rattle.words.specs.Words.{ascii, decimal}
use Rattle.uppaal.specs.Xta.{Name, waiting, Upper, sends, receives}
use Rattle.uppaal.specs.XtaText.{against, atom_text, each_after, listed, name_text, sync_text, location_text}
use Rattle.uppaal.specs.Export.{highs, uppers_from, sync_of}
use Rattle.uppaal_parts.specs.Marks.{marked, upper_of}
use Rattle.uppaal_steps.specs.Steps.{uppers_text, sync_made}

-- ## Names

pub name_alone : (e m : ℕ) → m ≡ 255 → ascii "W" ++ decimal e ≡ name_text (waiting e (message_of m))
name_alone e m q = sym (ap (λ (b : Bool). name_text (waiting e (cond b none (some m)))) (eq-eqb m 255 q))

pub name_with : (e m : ℕ) → (m ≡ 255 → ⊥) → ascii "W" ++ decimal e ++ (ascii "_c" ++ decimal m) ≡ name_text (waiting e (message_of m))
name_with e m q = sym (ap (λ (b : Bool). name_text (waiting e (cond b none (some m)))) (ne_eqb m 255 q))

-- ## Channels, by the edge's kind

pub sync_internal : (kind m : ℕ) → kind ≡ 0 → [] ≡ sync_text (sync_made kind m)
sync_internal kind m e = sym (ap (λ (k : ℕ). sync_text (sync_made k m)) e)

pub sync_none : (kind m : ℕ) → m ≡ 255 → [] ≡ sync_text (sync_made kind m)
sync_none zero m q = refl
sync_none (suc zero) m q = sym (ap (λ (b : Bool). sync_text (cond b none (some (sends m)))) (eq-eqb m 255 q))
sync_none (suc (suc k)) m q = sym (ap (λ (b : Bool). sync_text (cond b none (some (receives m)))) (eq-eqb m 255 q))

pub sync_sends : (kind m : ℕ) → kind ≡ 1 → (m ≡ 255 → ⊥) → ascii " sync c" ++ decimal m ++ ascii "!;" ≡ sync_text (sync_made kind m)
sync_sends kind m e q = sym (ap (λ (k : ℕ). sync_text (sync_made k m)) e ∙ ap (λ (b : Bool). sync_text (cond b none (some (sends m)))) (ne_eqb m 255 q))

pub sync_receives : (kind m : ℕ) → (kind ≡ 0 → ⊥) → (kind ≡ 1 → ⊥) → (m ≡ 255 → ⊥) → ascii " sync c" ++ decimal m ++ ascii "?;" ≡ sync_text (sync_made kind m)
sync_receives zero m a b q = absurd (a refl)
sync_receives (suc zero) m a b q = absurd (b refl)
sync_receives (suc (suc k)) m a b q = sym (ap (λ (c : Bool). sync_text (cond c none (some (receives m)))) (ne_eqb m 255 q))

-- they are those of the edge's action
pub sync_told : (kind k m : ℕ) → sync_text (sync_made kind m) ≡ sync_text (sync_of (action_at kind k) (message_of m))
sync_told zero k m = go (eqb m 255)
  where
    go : (b : Bool) → [] ≡ sync_text (sync_of (action_at 0 k) (cond b none (some m)))
    go true = refl
    go false = refl
sync_told (suc zero) k m = go (eqb m 255)
  where
    go : (b : Bool) → sync_text (cond b none (some (sends m))) ≡ sync_text (sync_of (action_at 1 k) (cond b none (some m)))
    go true = refl
    go false = refl
sync_told (suc (suc n)) k m = go (eqb m 255)
  where
    go : (b : Bool) → sync_text (cond b none (some (receives m))) ≡ sync_text (sync_of (action_at (suc (suc n)) k) (cond b none (some m)))
    go true = refl
    go false = refl

-- ## Waiting locations

uppers_plain : (us : List Upper) → each_after " && " atom_text (marked 0 us) ≡ each_after " && " (λ u. against u " <= ") us
unfolding each_after each atom_text
uppers_plain [] = refl
uppers_plain (u ∷ us) = ap (λ (l : List ℕ). ascii " && " ++ (against u " <= " ++ l)) (uppers_plain us)

pub location_told : (n : Name) (l : Location) (a : Arc) → name_text n ++ (ascii " { " ++ (uppers_text 0 l a ++ ascii " }")) ≡ location_text (record { name = n; invariant = uppers_from l a })
unfolding uppers_text location_text listed atom_text
location_told n l a =
    ap (λ (x : List ℕ). name_text n ++ (ascii " { " ++ ((against (upper_of l.clock l.bound) " <= " ++ x) ++ ascii " }"))) (uppers_plain (highs a.clock_guards))
