-- A site as the caller keeps it, in the words of the definitions; and what each call leaves there.
use Rattle.std.specs.Prelude.{◌≡◌, cond, List, [], ◌∷◌, ℕ, suc, ◌+◌, ◌-◌, ◌≤◌, ◌<◌, eqb, get_or, set}
use Rattle.std.proofs.Math.Option.{Option, none, some}
use Rattle.model.specs.Lists.{Answer, accepted, refused}
use Rattle.model.specs.Calls.{verdict_of, check_call}
use Rattle.model.specs.Places.{read_of}
use Rattle.model.specs.Checks.{is_send}
use Rattle.rows.specs.Rows.{row_passage}
use Rattle.site.specs.declared.Networks.{Networks}
use Rattle.site.specs.declared.Loaded.{Loaded}
use Rattle.site.specs.Airtime.{Load, load_in, Site, place_at, in_use, airtime_held, Request, put, take, asked, noted, load_held}

-- what row i adds to the airtime
abbrev pub row_airtime : List ℕ → ℕ → List ℕ → ℕ → ℕ
row_airtime bs H rows i = cond (is_send (read_of bs).table H (row_passage rows i)) (suc ((row_passage rows i).end - (row_passage rows i).ready)) 0

-- a place with the horizon 0 is empty: no table has it
abbrev pub held_of : ℕ → ℕ → Option Load
held_of h a = cond (eqb h 0) none (some (record { horizon = h; airtime = a }))

abbrev pub place_in : Networks → ℕ → Option Load
place_in s k = held_of (get_or s.horizons k 0) (get_or s.airtimes k 0)

abbrev pub site_in : Networks → Site
site_in s = record { limit = s.limit; places = place_in s 0 ∷ place_in s 1 ∷ place_in s 2 ∷ place_in s 3 ∷ [] }

abbrev pub horizon_held : Option Load → ℕ
horizon_held none = 0
horizon_held (some l) = l.horizon

-- four numbers, with v at place k
abbrev pub written : List ℕ → ℕ → ℕ → List ℕ
written xs k v = set (get_or xs 0 0 ∷ get_or xs 1 0 ∷ get_or xs 2 0 ∷ get_or xs 3 0 ∷ []) k v

-- "It starts empty with its limit"
abbrev pub empty_networks : ℕ → Networks
empty_networks n =
    record { limit = n; horizons = 0 ∷ 0 ∷ 0 ∷ 0 ∷ []; airtimes = 0 ∷ 0 ∷ 0 ∷ 0 ∷ []; in_use = 0; number = 0; component = 255 }

-- a call on place k that is carried out, where it leads to the site t: all stays but for that place and what the call says
abbrev pub carried : Networks → ℕ → Site → Networks
carried s k t =
    record {
      limit = t.limit;
      horizons = written s.horizons k (horizon_held (place_at t k));
      airtimes = written s.airtimes k (airtime_held (place_at t k));
      in_use = in_use t.places;
      number = 0;
      component = 255;
    }

-- a refused call: all stays but for what the call says
abbrev pub refusing : Networks → ℕ → ℕ → Networks
refusing s n c =
    record { limit = s.limit; horizons = s.horizons; airtimes = s.airtimes; in_use = in_use (site_in s).places; number = n; component = c }

abbrev pub answered : Networks → ℕ → Answer Site → Networks
answered s k (accepted t) = carried s k t
answered s k (refused n c) = refusing s n c

-- the calls `site_put` and `site_take`, for every site handed
unfoldable pub put_call : Networks → ℕ → List ℕ → Networks
unfolding load_in
put_call s k table = answered s k (asked (site_in s) (put k table))

abbrev pub take_call : Networks → ℕ → Networks
take_call s k = answered s k (asked (site_in s) (take k))

-- the call `airtime`: the verdict on the table, its horizon and its airtime, 0 and 0 after a refusal
abbrev pub horizon_of : Answer Load → ℕ
horizon_of (accepted l) = l.horizon
horizon_of (refused n c) = 0

abbrev pub airtime_of : Answer Load → ℕ
airtime_of (accepted l) = l.airtime
airtime_of (refused n c) = 0

pub record LoadOf (table : List ℕ) (r : Loaded) : Type 0 where
  pub verdict : r.verdict ≡ verdict_of (load_in table)
  pub horizon : r.horizon ≡ horizon_of (load_in table)
  pub airtime : r.airtime ≡ airtime_of (load_in table)

-- "networks accepted at G = 0": what has an airtime is what `check` accepts, and what has none is refused as it does
abbrev pub AsChecked : List ℕ → Type 0
AsChecked table = verdict_of (load_in table) ≡ check_call table

-- ## Over any sequence of calls

-- what one call leaves
abbrev pub called_with : Networks → Request → Networks
called_with s (put k table) = put_call s k table
called_with s (take k) = take_call s k

-- what a sequence of calls leaves
unfoldable pub networks_after : Networks → List Request → Networks
unfolding put_call
networks_after s [] = s
networks_after s (r ∷ rs) = networks_after (called_with s r) rs

-- Which table stands in which place, as the caller can tell: from the requests, and from what each call said, 0 where it was carried out. "those put in and
-- not taken out since"
unfoldable pub seen : Networks → (ℕ → Option (List ℕ)) → List Request → ℕ → Option (List ℕ)
unfolding put_call
seen s f [] = f
seen s f (r ∷ rs) = seen (called_with s r) (noted f r (eqb (called_with s r).number 0)) rs

-- the table in place k after the calls rs on an empty site, and its airtime, 0 where none stands
abbrev pub stands_at : ℕ → List Request → ℕ → Option (List ℕ)
stands_at limit rs k = seen (empty_networks limit) (λ j. none) rs k

abbrev pub airtime_at : ℕ → List Request → ℕ → ℕ
airtime_at limit rs k = airtime_held (load_held (stands_at limit rs k))

-- The sentences, over any struct that calls may have left. "Over any sequence of calls the airtime in use, which each returns, is the sum over those put
-- in and not taken out since"
abbrev pub Summed : ℕ → List Request → Networks → Type 0
Summed limit rs s = s.in_use ≡ airtime_at limit rs 0 + airtime_at limit rs 1 + airtime_at limit rs 2 + airtime_at limit rs 3

-- "under one four-byte limit on send ticks per horizon"
abbrev pub Within : ℕ → Networks → Type 0
Within limit s = s.in_use ≤ limit

-- the limit is the one that it started with
abbrev pub Limited : ℕ → Networks → Type 0
Limited limit s = s.limit ≡ limit

-- each place holds the table that stands there
abbrev pub Present : ℕ → List Request → Networks → Type 0
Present limit rs s = (k : ℕ) → k < 4 → place_in s k ≡ load_held (stands_at limit rs k)

-- "all present share one H"
abbrev pub OneHorizon : Networks → Type 0
OneHorizon s = (j k : ℕ) (l m : Load) → j < 4 → k < 4 → place_in s j ≡ some l → place_in s k ≡ some m → l.horizon ≡ m.horizon

-- the struct after the calls rs on an empty site, whichever of them were refused
abbrev pub networks_left : ℕ → List Request → Networks
networks_left limit rs = networks_after (empty_networks limit) rs

pub record InUse (limit : ℕ) (rs : List Request) : Type 0 where
  pub sum : Summed limit rs (networks_left limit rs)
  pub within : Within limit (networks_left limit rs)
  pub limited : Limited limit (networks_left limit rs)
  pub present : Present limit rs (networks_left limit rs)
  pub one : OneHorizon (networks_left limit rs)
