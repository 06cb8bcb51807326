-- The reason of an edge from what it is at the entry, and the bytes that are written of it.
use Rattle.std.specs.Prelude.{◌≡◌, Bool, true, false, cond, List, [], ◌∷◌, ℕ, suc, ◌+◌, ◌*◌, ltb, eqb}
use Rattle.std.proofs.lemmas.List.Edits.{sets}
use Rattle.model.specs.declared.Location.{Location}
use Rattle.model.specs.declared.Reason.{Reason}
use Rattle.model.specs.declared.Reason.TheVariants.{Taken, DataBound, NoWindow, ReadyLater, HigherNumber}
use Rattle.model.specs.Table.{Arc, Component, location_of, arc_of}
use Rattle.model.specs.Window.{Entry}
use Rattle.model.specs.Reasons.{reason_by, reason_number, reason_bound, ReasonsCall}
use Rattle.window.specs.declared.Standing.{Standing}
use Rattle.window.specs.declared.Standing.TheVariants.{Elsewhere, Blocked, Windowless, Candidate}
use Rattle.reasons.specs.declared.Told.{Told}

abbrev pub is_elsewhere : Standing → Bool
is_elsewhere Elsewhere = true
is_elsewhere (Blocked j) = false
is_elsewhere Windowless = false
is_elsewhere (Candidate ready past) = false

-- of an edge that is not the one taken
abbrev pub other_reason : Standing → ℕ → ℕ → Reason
other_reason Elsewhere entry ready = NoWindow
other_reason (Blocked j) entry ready = DataBound j
other_reason Windowless entry ready = NoWindow
other_reason (Candidate delay past) entry ready = cond (ltb ready (entry + delay)) ReadyLater HigherNumber

abbrev pub reason_from : Standing → ℕ → ℕ → ℕ → ℕ → Reason
reason_from s e taken entry ready = cond (eqb e taken) Taken (other_reason s entry ready)

-- an edge from there counts as one
abbrev pub one : ℕ → ℕ → ℕ
one source here = cond (eqb source here) 1 0

-- the three bytes of an edge
abbrev pub arc_bytes : Location → Entry → ℕ → ℕ → ℕ → Arc → List ℕ
arc_bytes l at taken ready e a = e ∷ reason_number (reason_by l at taken ready e a) ∷ reason_bound (reason_by l at taken ready e a) ∷ []

abbrev pub edge_bytes : Component → Entry → ℕ → ℕ → ℕ → List ℕ
edge_bytes C at taken ready e = arc_bytes (location_of C at.location) at taken ready e (arc_of C e)

-- edge e, which is a, is written as number k if it leaves the location entered
pub record EdgePut (l : Location) (at : Entry) (taken ready e : ℕ) (a : Arc) (k : ℕ) (before : List ℕ) (r : ℕ) (after : List ℕ) : Type 0 where
  pub told : a.edge.source ≡ at.location → (r ≡ suc k) × (after ≡ sets before (k * 3) (arc_bytes l at taken ready e a))
  pub passed : (a.edge.source ≡ at.location → ⊥) → (r ≡ k) × (after ≡ before)

-- the call's answer, and the lent bytes afterwards
pub record Tells (call : ReasonsCall) (r : Told) (after : List ℕ) : Type 0 where
  pub verdict : r.verdict ≡ call.verdict
  pub passage : r.passage ≡ call.passage
  pub size : r.size ≡ call.size
  pub lent : after ≡ call.lent
