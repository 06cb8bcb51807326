-- What one call does, whatever bytes the struct has that it is handed.
use Rattle.std.specs.Prelude.{◌≡◌, ◌↔◌, List, ℕ, ◌+◌, ◌≤◌, ◌<◌, get_or}
use Rattle.std.proofs.Math.Option.{Option, none, some}
use Rattle.model.specs.Lists.{accepted, refused}
use Rattle.site.specs.declared.Networks.{Networks}
use Rattle.site.specs.Airtime.{Load, load_in, in_use, Request, put, take, load_or}
use Rattle.site.specs.Lent.{place_in, site_in, put_call, take_call, called_with}

-- the place that a request names, and what it is to hold
abbrev pub named_place : Request → ℕ
named_place (put k table) = k
named_place (take k) = k

abbrev pub asks_for : Request → Option Load
asks_for (put k table) = load_or (load_in table)
asks_for (take k) = none

-- ## Any call: the sentences, over any struct n that it may leave of the struct s

-- "No call changes another place": not one byte of it
abbrev pub Others : Networks → Request → Networks → Type 0
Others s r n = (j : ℕ) → j < 4 → (j ≡ named_place r → ⊥) → (get_or n.horizons j 0 ≡ get_or s.horizons j 0) × (get_or n.airtimes j 0 ≡ get_or s.airtimes j 0)

-- "Networks are put into and taken out of places": what the place named holds after a call that says 0
abbrev pub Done : Request → Networks → Type 0
Done r n = n.number ≡ 0 → place_in n (named_place r) ≡ asks_for r

-- a refused call changes no place
abbrev pub RefusedKeeps : Networks → Networks → Type 0
RefusedKeeps s n = (n.number ≡ 0 → ⊥) → (n.horizons ≡ s.horizons) × (n.airtimes ≡ s.airtimes)

-- nor does any call the limit
abbrev pub SameLimit : Networks → Networks → Type 0
SameLimit s n = n.limit ≡ s.limit

-- "the airtime in use, which each returns": that of the struct that it leaves
abbrev pub Returned : Networks → Type 0
Returned n = n.in_use ≡ in_use (site_in n).places

pub record Called (s : Networks) (r : Request) : Type 0 where
  pub others : Others s r (called_with s r)
  pub done : Done r (called_with s r)
  pub keeps : RefusedKeeps s (called_with s r)
  pub limit : SameLimit s (called_with s r)
  pub returned : Returned (called_with s r)

-- ## 26 to 28

-- the place is there and empty; it is there and filled
abbrev pub Free : Networks → ℕ → Type 0
Free s k = (k < 4) × (place_in s k ≡ none)

abbrev pub Filled : Networks → ℕ → Type 0
Filled s k = (k < 4) × (place_in s k ≡ none → ⊥)

-- all present have this H
abbrev pub Share : Networks → ℕ → Type 0
Share s h = (j : ℕ) (m : Load) → j < 4 → place_in s j ≡ some m → m.horizon ≡ h

-- what stands in the four places, and a network more
abbrev pub sum_with : Networks → Load → ℕ
sum_with s l = in_use (site_in s).places + l.airtime

-- "After the table's checks"
abbrev pub ChecksFirst : List ℕ → Networks → Type 0
ChecksFirst table n = (m c : ℕ) → load_in table ≡ refused m c → (n.number ≡ m) × (n.component ≡ c)

-- The others are about tables that pass them, with what they load. "a wrong place, or one filled when putting .., is refused with 26"
abbrev pub PlaceRefused : Networks → ℕ → Networks → Type 0
PlaceRefused s k n = (n.number ≡ 26) ↔ (Free s k → ⊥)

-- "a different H with 27"
abbrev pub HorizonRefused : Networks → ℕ → Load → Networks → Type 0
HorizonRefused s k l n = (n.number ≡ 27) ↔ Free s k × (Share s l.horizon → ⊥)

-- "then a sum above the limit with 28, and only then"
abbrev pub SumRefused : Networks → ℕ → Load → Networks → Type 0
SumRefused s k l n = (n.number ≡ 28) ↔ Free s k × Share s l.horizon × (s.limit < sum_with s l)

-- what is not refused is carried out
abbrev pub PutDone : Networks → ℕ → Load → Networks → Type 0
PutDone s k l n = (n.number ≡ 0) ↔ Free s k × Share s l.horizon × (sum_with s l ≤ s.limit)

-- "255 for .. later numbers unless said there"
abbrev pub NoneConcerned : Networks → Type 0
NoneConcerned n = n.component ≡ 255

pub record PutRefused (s : Networks) (k : ℕ) (table : List ℕ) : Type 0 where
  pub checks : ChecksFirst table (put_call s k table)
  pub place : (l : Load) → load_in table ≡ accepted l → PlaceRefused s k (put_call s k table)
  pub horizon : (l : Load) → load_in table ≡ accepted l → HorizonRefused s k l (put_call s k table)
  pub above : (l : Load) → load_in table ≡ accepted l → SumRefused s k l (put_call s k table)
  pub done : (l : Load) → load_in table ≡ accepted l → PutDone s k l (put_call s k table)
  pub concerned : (l : Load) → load_in table ≡ accepted l → NoneConcerned (put_call s k table)

-- "a wrong place, or one .. empty when taking, is refused with 26", and taking is carried out else
abbrev pub TakePlace : Networks → ℕ → Networks → Type 0
TakePlace s k n = (n.number ≡ 26) ↔ (Filled s k → ⊥)

abbrev pub TakeDone : Networks → ℕ → Networks → Type 0
TakeDone s k n = (n.number ≡ 0) ↔ Filled s k

pub record TakeRefused (s : Networks) (k : ℕ) : Type 0 where
  pub place : TakePlace s k (take_call s k)
  pub done : TakeDone s k (take_call s k)
  pub concerned : NoneConcerned (take_call s k)

-- of every struct and every call
pub record SiteCalls (s : Networks) : Type 0 where
  pub called : (r : Request) → Called s r
  pub putting : (k : ℕ) (table : List ℕ) → PutRefused s k table
  pub taking : (k : ℕ) → TakeRefused s k

abbrev pub EveryCall : Type 0
EveryCall = (s : Networks) → SiteCalls s
