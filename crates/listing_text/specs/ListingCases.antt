-- Listings computed from bytes: a small program, one of version 3, a damaged one, and none. Written by hand from document 01, "The program", and
-- document 02, wish 8.
use Rattle.std.specs.Prelude.{◌≡◌, refl, List, [], ◌∷◌, ℕ}
use Rattle.text.specs.Words.{ascii}
use Rattle.listing_text.specs.ListingText.{listing_text}

-- one node with one location and one edge
abbrev small : List ℕ
small = 1 ∷ 0 ∷ 36 ∷ 1 ∷ 0 ∷ 20 ∷ 0 ∷ 30 ∷ 1 ∷ 1 ∷ 0 ∷ 0 ∷ 0 ∷ 0 ∷ 0 ∷ 2 ∷ 12 ∷ 1 ∷ 0 ∷ 5 ∷ 16 ∷ 0 ∷ 0 ∷ 0 ∷ 0 ∷ 0 ∷ 0 ∷ 0 ∷ 1 ∷ 2 ∷ 255 ∷ 255 ∷ 17 ∷ 0 ∷ 0 ∷ 0 ∷ []

pub small_listing : listing_text small
    ≡ ascii "version 1, length 36, nodes 1, horizon 20\nnode 0: length 30, locations 1, edges 1, initial location 0\n  location 0, from statement 0\n     0 0c010005 high clock 1: 5\n     1 10000000 take\n  edge 0, from statement 2\n     2 00000000 sleep\n     3 0102ffff set variable 2: -1\n     4 11000000 choose\n"
unfolding listing_text
small_listing = refl

-- "A new statement 12, k = budget, stands before keep in version 3 programs only"; no statement has the number after it
abbrev budgeted : List ℕ
budgeted =
    3 ∷ 0 ∷ 48 ∷ 1 ∷ 0 ∷ 20 ∷ 0 ∷ 42 ∷ 1 ∷ 1 ∷ 0 ∷ 0 ∷ 0 ∷ 0 ∷ 0 ∷ 5 ∷ 10 ∷ 0 ∷ 0 ∷ 0 ∷ 12 ∷ 0 ∷ 0 ∷ 6 ∷ 18 ∷ 0 ∷ 3 ∷ 232 ∷ 15 ∷ 0 ∷ 0 ∷ 0
    ∷ 16 ∷ 0 ∷ 0 ∷ 0 ∷ 0 ∷ 0 ∷ 0 ∷ 0 ∷ 19 ∷ 0 ∷ 3 ∷ 232 ∷ 17 ∷ 0 ∷ 0 ∷ 0 ∷ []

pub budgeted_listing : listing_text budgeted
    ≡ ascii "version 3, length 48, nodes 1, horizon 20\nnode 0: length 42, locations 1, edges 1, initial location 0\n  location 0, from statement 0\n     0 0a000000 trial\n     1 0c000006 high clock 0: 6\n     2 120003e8 budget 1000\n     3 0f000000 keep edge 0\n     4 10000000 take\n  edge 0, from statement 5\n     5 00000000 sleep\n     6 130003e8 no statement\n     7 11000000 choose\n"
unfolding listing_text
budgeted_listing = refl

-- a length that is not that of the bytes, three bytes that are no statement, and a node without a part
abbrev damaged : List ℕ
damaged = 1 ∷ 0 ∷ 9 ∷ 2 ∷ 0 ∷ 20 ∷ 0 ∷ 9 ∷ 0 ∷ 0 ∷ 0 ∷ 0 ∷ 7 ∷ 7 ∷ 7 ∷ []

pub damaged_listing : listing_text damaged
    ≡ ascii "version 1, length 9, nodes 2, horizon 20\nthe length is not that of the bytes read: 15\nnode 0: length 9, locations 0, edges 0, initial location 0\n  bytes behind the last whole statement: 3\nnode 1: its part lies outside the bytes, or has fewer than 6\n"
unfolding listing_text
damaged_listing = refl

pub no_listing : listing_text [] ≡ ascii "the header lies outside the bytes\n"
unfolding listing_text
no_listing = refl
