-- Where the tests of a component's parts stand, held against the reading that document 01 defines. What the parts say is not kept here.
use Rattle.std.specs.Prelude.{◌≡◌, Bool, List, [], ◌∷◌, ℕ, zero, suc, ◌*◌, ◌≤◌, Result, Ok, Err, length, drop}
use Rattle.model.specs.declared.Sizes.{Sizes}
use Rattle.model.specs.Reader.{byte, Parsed, ok, fault, part, location_fine, clock_guard_fine, data_guard_fine, update_fine}
use Rattle.parts.specs.declared.Kind.{Kind}
use Rattle.parts.specs.declared.Kind.TheVariants.{Locations, ClockGuards, DataGuards, Updates}
use Rattle.parts.specs.declared.PartFault.{PartFault}
use Rattle.parts.specs.declared.PartFault.TheVariants.{NoFit, OutOfRange, ListedTwice}

-- "Checks, in this order": the number of the question that a part fails
abbrev pub fault_number : PartFault → ℕ
fault_number NoFit = 4
fault_number OutOfRange = 5
fault_number ListedTwice = 6

-- the bytes left after a part, or the number of the question that it fails
pub data Rest : Type 0 where
  left : List ℕ → Rest
  failed : ℕ → Rest

abbrev pub skim : {A : Type 0} → Parsed A → Rest
skim (ok a r) = left r
skim (fault n) = failed n

-- the same of a place in the component's bytes p
abbrev pub placed : List ℕ → Result ℕ PartFault → Rest
placed p (Ok k) = left (drop k p)
placed p (Err question) = failed (fault_number question)

-- a next place lies from `from` on, in the component
abbrev pub Within : ℕ → ℕ → Result ℕ PartFault → Type 0
Within from end (Ok k) = (from ≤ k) × (k ≤ end)
Within from end (Err question) = Unit {0}

-- The place r, reached from `from` in the component's bytes p, is where the reading m ends.
pub record Passed {A : Type 0} (p : List ℕ) (from : ℕ) (r : Result ℕ PartFault) (m : Parsed A) : Type 0 where
  pub says : skim m ≡ placed p r
  pub within : Within from (length p) r

-- the parts of one width: how wide they are, and when they are fine
abbrev pub width_of : Kind → ℕ
width_of Locations = 3
width_of ClockGuards = 5
width_of DataGuards = 5
width_of Updates = 4

abbrev pub fine_of : Kind → Sizes → List ℕ → Bool
fine_of Locations s bs = location_fine s bs
fine_of ClockGuards s bs = clock_guard_fine s bs
fine_of DataGuards s bs = data_guard_fine s bs
fine_of Updates s bs = update_fine s bs

-- one such part, whatever it says
abbrev pub passes : Kind → Sizes → List ℕ → Parsed (Unit {0})
passes k s = part (width_of k) (fine_of k s) (λ bs. tt)

-- the channels of the first n pairs, the latest first
unfoldable pub channels_before : List ℕ → ℕ → List ℕ
channels_before bs zero = []
channels_before bs (suc n) = byte bs (n * 2) ∷ channels_before bs n
