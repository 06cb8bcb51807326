-- Texts that carry no table's network, and tables of which no text does.
use Rattle.std.specs.Prelude.{◌≡◌, refl, true, false, List, [], ◌∷◌, ℕ, replicate}
use Rattle.std.proofs.Common.{sym, ap, subst, ◌∙◌, arith}
use Rattle.std.proofs.Math.Option.{Option, none, some}
use Rattle.model.specs.Lists.{Answer, accepted, refused}
use Rattle.model.specs.Table.{Table, Read}
use Rattle.model.specs.Reader.{read_table}
use Rattle.model.specs.Network.{tick, start, step, follow}
use Rattle.model.specs.Cases.{probe, hub, add_one, worked, changed, worked_bytes}
use Rattle.model.proofs.Basics.Bools.{clash}
use Rattle.words.specs.Words.{decimal}
use Rattle.uppaal.specs.Xta.{System}
use Rattle.uppaal.specs.XtaText.{system_text}
use Rattle.uppaal.specs.XtaNetwork.{Stand, initial_state, stands, all_stand, delay, delays, Goes, moves}
use Rattle.uppaal.specs.XtaGrammar.{is_reserved}
use Rattle.uppaal.specs.XtaReading.{read_text}
use Rattle.uppaal.specs.XtaReadingCases.{text, locals, places, edges}
use Rattle.uppaal.specs.Export.{system_for}
use Rattle.uppaal.specs.SamePaths.{moves_of, all_enter_well, SamePaths}
use Rattle.uppaal.specs.UppaalCall.{Carries}

-- ## A text that is not read: the empty one, and one that uses a channel which it does not declare

pub unread_carries : (table bytes : List ℕ) → read_text bytes ≡ none → Carries table bytes → ⊥
unread_carries table bytes e c = let z : ◌≡◌ {A = ℕ} 0 1 = ap told (sym e ∙ c.read) in omega (arith, z)
  where
    told : Option System → ℕ
    told none = 0
    told (some N) = 1

pub empty_carries : (table : List ℕ) → Carries table [] → ⊥
unfolding read_text is_reserved
empty_carries table = unread_carries table [] refl

pub undeclared_carries : (table : List ℕ) → Carries table (text "" locals places edges) → ⊥
unfolding read_text is_reserved decimal
undeclared_carries table = unread_carries table (text "" locals places edges) refl

-- ## A table that is not read

pub no_table_carries : (bytes : List ℕ) → Carries [] bytes → ⊥
unfolding read_table
no_table_carries bytes c = let z : ◌≡◌ {A = ℕ} 0 1 = ap told c.known in omega (arith, z)
  where
    told : Answer Read → ℕ
    told (refused n k) = 0
    told (accepted t) = 1

-- ## The text of another network: document 01's hub, which may stay in its location 0 up to tick 4 alone

abbrev impatient : System
impatient = system_for (changed (probe 3) (hub 2 4 add_one)).table

impatient_read : read_text (system_text impatient) ≡ some impatient
unfolding system_text system_for read_text is_reserved
impatient_read = refl

-- five ticks are a path of the table's network, and none of this one
impatient_paths : SamePaths (worked 20).table impatient → ⊥
unfolding follow moves_of all_enter_well system_for all_stand stands
impatient_paths p = fifth (p.written (replicate 5 tick) _ (record { follows = refl; enters = refl })).goes
  where
    fifth : {y : List Stand} → Goes impatient (initial_state impatient) (delay ∷ delay ∷ delay ∷ delay ∷ delay ∷ []) y → ⊥
    fifth (moves (delays a) (moves (delays b) (moves (delays c) (moves (delays d) (moves (delays e) g))))) = clash e

pub other_carries : Carries worked_bytes (system_text impatient) → ⊥
unfolding read_table
other_carries c =
    let t : worked 20 ≡ c.given = cc c.known in
    let n : impatient ≡ c.network = cc (sym impatient_read ∙ c.read) in
    impatient_paths (subst (λ (N : System). SamePaths (worked 20).table N) (sym n) (subst (λ (r : Read). SamePaths r.table c.network) (sym t) c.paths))
