-- Document 02, wish 13, "Four cellars, one airtime limit": a network's airtime, and a site of four places under one limit.
use Rattle.std.specs.Prelude.{◌≡◌, Bool, true, false, cond, ◌&&◌, not, List, [], ◌∷◌, ℕ, suc, ◌+◌, ◌-◌, ◌≤◌, ◌<◌, leb, ltb, eqb, get_or, set}
use Rattle.std.proofs.Math.Option.{Option, none, some}
use Rattle.model.specs.Lists.{all, is_none, Answer, accepted, refused, ◌after◌}
use Rattle.model.specs.Table.{Table}
use Rattle.model.specs.Reader.{read_table}
use Rattle.model.specs.Schedule.{Passage}
use Rattle.model.specs.Checks.{is_send, accepted_schedule, accepted_schedule_of}

-- "the sum of end − ready + 1 over its sends with ready < H"
unfoldable pub airtime : Table → ℕ → List Passage → ℕ
airtime T H [] = 0
airtime T H (v ∷ vs) = cond (is_send T H v) (suc (v.end - v.ready)) 0 + airtime T H vs

-- what a table puts into a place
pub record Load : Type 0 where
  pub horizon : ℕ
  pub airtime : ℕ

unfoldable pub load_in : List ℕ → Answer Load
unfolding read_table accepted_schedule airtime
load_in table = read_table table after λ t. accepted_schedule_of t after λ S. accepted (record { horizon = t.horizon; airtime = airtime t.table t.horizon S })

pub record Site : Type 0 where
  pub limit : ℕ
  pub places : List (Option Load)

-- "It starts empty with its limit"
abbrev pub empty_site : ℕ → Site
empty_site n = record { limit = n; places = none ∷ none ∷ none ∷ none ∷ [] }

abbrev pub place_at : Site → ℕ → Option Load
place_at s k = get_or s.places k none

abbrev pub placed : Site → ℕ → Option Load → Site
placed s k l = record { limit = s.limit; places = set s.places k l }

abbrev pub airtime_held : Option Load → ℕ
airtime_held none = 0
airtime_held (some l) = l.airtime

abbrev pub in_use : List (Option Load) → ℕ
in_use [] = 0
in_use (p ∷ ps) = airtime_held p + in_use ps

abbrev pub shares_horizon : ℕ → Option Load → Bool
shares_horizon h none = true
shares_horizon h (some l) = eqb l.horizon h

-- 26. "a wrong place, or one filled when putting"; 27. "a different H"; 28. "then a sum above the limit"
abbrev pub putting : Site → ℕ → Load → Answer Site
putting s k l =
    cond (ltb k 4 && is_none (place_at s k))
    (cond (all (shares_horizon l.horizon) s.places)
    (cond (leb (in_use s.places + l.airtime) s.limit) (accepted (placed s k (some l))) (refused 28 255))
    (refused 27 255))
    (refused 26 255)

-- 26. ".. or empty when taking"
abbrev pub taking : Site → ℕ → Answer Site
taking s k = cond (ltb k 4 && not (is_none (place_at s k))) (accepted (placed s k none)) (refused 26 255)

pub data Request : Type 0 where
  put : ℕ → List ℕ → Request
  take : ℕ → Request

abbrev pub asked : Site → Request → Answer Site
asked s (put k table) = load_in table after λ l. putting s k l
asked s (take k) = taking s k

-- a refusal changes nothing
abbrev pub site_or : Site → Answer Site → Site
site_or s (accepted t) = t
site_or s (refused n c) = s

abbrev pub granted : Answer Site → Bool
granted (accepted t) = true
granted (refused n c) = false

unfoldable pub site_after : Site → List Request → Site
site_after s [] = s
site_after s (r ∷ rs) = site_after (site_or s (asked s r)) rs

-- Which table stands in which place, told from the requests and whether each was granted: "those put in and not taken out since"
abbrev pub noted : (ℕ → Option (List ℕ)) → Request → Bool → ℕ → Option (List ℕ)
noted f r false = f
noted f (put k table) true = λ j. cond (eqb j k) (some table) (f j)
noted f (take k) true = λ j. cond (eqb j k) none (f j)

unfoldable pub standing : Site → (ℕ → Option (List ℕ)) → List Request → ℕ → Option (List ℕ)
standing s f [] = f
standing s f (r ∷ rs) = standing (site_or s (asked s r)) (noted f r (granted (asked s r))) rs

abbrev pub load_or : Answer Load → Option Load
load_or (accepted l) = some l
load_or (refused n c) = none

abbrev pub load_held : Option (List ℕ) → Option Load
load_held none = none
load_held (some table) = load_or (load_in table)

-- the airtime of the table that stands in place k, 0 where none does
abbrev pub standing_airtime : ℕ → List Request → ℕ → ℕ
standing_airtime limit rs k = airtime_held (load_held (standing (empty_site limit) (λ j. none) rs k))

-- over any sequence of calls from an empty site
pub record Accounts (limit : ℕ) (rs : List Request) : Type 0 where
  pub kept : (site_after (empty_site limit) rs).limit ≡ limit
  pub places : (k : ℕ) → k < 4 → place_at (site_after (empty_site limit) rs) k ≡ load_held (standing (empty_site limit) (λ j. none) rs k)
  pub sum : in_use (site_after (empty_site limit) rs).places
      ≡ standing_airtime limit rs 0 + standing_airtime limit rs 1 + standing_airtime limit rs 2 + standing_airtime limit rs 3
  pub within : in_use (site_after (empty_site limit) rs).places ≤ limit
  pub one : (j k : ℕ) (l m : Load) → j < 4 → k < 4 → place_at (site_after (empty_site limit) rs) j ≡ some l → place_at (site_after (empty_site limit) rs) k ≡ some m
      → l.horizon ≡ m.horizon

abbrev pub Accounted : Type 0
Accounted = (limit : ℕ) (rs : List Request) → Accounts limit rs
