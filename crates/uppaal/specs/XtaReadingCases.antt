-- Document 01's probe and hub read back from the text; a small text, with blanks and comments; and texts that are refused or say something else.
use Rattle.std.specs.Prelude.{◌≡◌, refl, Bool, true, false, not, ◌&&◌, List, [], ◌∷◌, ◌++◌, ℕ, pos, negsuc}
use Rattle.std.proofs.Math.Option.{Option, none, some}
use Prim.Native.String.{String}
use Rattle.model.specs.Cases.{worked}
use Rattle.model.specs.Lists.{all, is_none}
use Rattle.words.specs.Words.{ascii, decimal}
use Rattle.uppaal.specs.Xta.{location, waiting, Upper, at_most, below, exactly, at_least, value_at_least, sum_at_most, sends, adds, resets, System}
use Rattle.uppaal.specs.XtaText.{system_text}
use Rattle.uppaal.specs.Export.{system_for}
use Rattle.uppaal.specs.XtaGrammar.{is_reserved}
use Rattle.uppaal.specs.XtaReading.{read_text}

pub worked_read : read_text (system_text (system_for (worked 20).table)) ≡ some (system_for (worked 20).table)
unfolding system_text system_for read_text is_reserved
worked_read = refl

-- ## A small text: its parts, each of which may be another

abbrev upper : ℕ → ℕ → Upper
upper i n = record { clock = i; bound = n }

abbrev pub text : String → String → String → String → List ℕ
text globals locals places edges = ascii globals ++ (ascii "process P0() {" ++ (ascii locals ++ (ascii "state " ++ (ascii places ++ (ascii "; init L0; trans " ++ (ascii edges ++ ascii "; } system P0;"))))))

abbrev chans : String
chans = "chan c0;"

abbrev pub locals : String
locals = "clock x0; int[-32768,32767] v0;"

abbrev pub places : String
places = "L0 { x0 <= 5 }, W0_c0"

abbrev pub edges : String
edges = "L0 -> W0_c0 { guard x0 < 5 && v0 - 3 <= 32767; sync c0!; assign v0 := v0 - 3, x0 := 0; }"

abbrev small : System
small =
    record {
      channels = 1;
      processes =
          record {
            clocks = 1;
            variables = 1;
            locations = record { name = location 0; invariant = upper 0 5 ∷ [] } ∷ record { name = waiting 0 (some 0); invariant = [] } ∷ [];
            initial = location 0;
            transitions =
                record {
                  source = location 0;
                  target = waiting 0 (some 0);
                  guard = below (upper 0 5) ∷ sum_at_most 0 (negsuc 2) (pos 32767) ∷ [];
                  sync = some (sends 0);
                  assignments = adds 0 (negsuc 2) ∷ resets 0 ∷ [];
                }
                ∷ [];
          }
          ∷ [];
    }

pub small_read : read_text (text chans locals places edges) ≡ some small
unfolding read_text is_reserved decimal
small_read = refl

-- blanks, ends of lines and comments anywhere between words, or none where a sign ends a word
pub same_small : read_text (text "// all\nchan c0 /* one * of them **/ ;\r\n" "clock\tx0;int[ - 32768 ,32767]v0;" "L0{x0<=5},W0_c0" "L0->W0_c0{guard x0<5&&v0-3<=32767;sync c0!;assign v0:=v0-3,x0:=0;}// end\n") ≡ some small
unfolding read_text is_reserved decimal
same_small = refl

-- the processes of the line, in its order
pub two_read : read_text (ascii "process P() { state L1; init L1; } process Q() { clock y; state L2; init L2; } system Q, P;")
    ≡ some (record {
      channels = 0;
      processes =
          record { clocks = 1; variables = 0; locations = record { name = location 2; invariant = [] } ∷ []; initial = location 2; transitions = [] }
          ∷ record { clocks = 0; variables = 0; locations = record { name = location 1; invariant = [] } ∷ []; initial = location 1; transitions = [] }
          ∷ [];
    })
unfolding read_text is_reserved decimal
two_read = refl

-- ## Refused

abbrev refused_all : List (List ℕ) → Bool
refused_all ts = all (λ t. is_none (read_text t)) ts

-- by the words and the grammar
pub not_grammatical : refused_all (
    []
    -- an end too early, and one too late
    ∷ ascii "process P0() { state L0; init L0; } system P0"
    ∷ ascii "process P0() { state L0; init L0; } system P0;;"
    ∷ ascii "process P0() { state L0; init L0; }"
    ∷ ascii "process P0() { state L0; init L0; system P0;"
    -- a missing semicolon, comma, brace, sign
    ∷ text "chan c0" locals places edges
    ∷ text chans "clock x0 int[-32768,32767] v0;" places edges
    ∷ text chans locals "L0 { x0 <= 5 } W0_c0" edges
    ∷ text chans locals "L0 { x0 <= 5, W0_c0" edges
    ∷ text chans locals places "L0 W0_c0 { }"
    ∷ text chans locals places "L0 -> W0_c0 { guard x0 < 5 sync c0!; }"
    ∷ text chans locals places "L0 -> W0_c0 { guard x0 < 5; sync c0; }"
    ∷ text chans locals places "L0 -> W0_c0 { guard x0 5; }"
    ∷ text chans locals places "L0 -> W0_c0 { guard ; }"
    ∷ text chans locals places "L0 -> W0_c0 { guard x0 < 5 && ; }"
    -- out of order, or twice
    ∷ text chans locals places "L0 -> W0_c0 { sync c0!; guard x0 < 5; }"
    ∷ text chans locals places "L0 -> W0_c0 { assign x0 := 0; sync c0!; }"
    ∷ text chans locals places "L0 -> W0_c0 { guard x0 < 5; guard x0 < 5; }"
    ∷ text chans locals places "L0 -> W0_c0 { },"
    -- signs of other languages, and a sign cut in two
    ∷ text chans locals places "L0 => W0_c0 { }"
    ∷ text chans locals places "L0 -> W0_c0 { guard x0 =< 5; }"
    ∷ text chans locals places "L0 -> W0_c0 { guard x0 < = 5; }"
    ∷ text chans locals places "L0 -> W0_c0 { guard x0 < 5 & v0 >= 0; }"
    ∷ text chans locals places "L0 -> W0_c0 { assign x0 : = 0; }"
    ∷ text chans locals places "L0 -> W0_c0 { guard v0 -- 3 <= 5; }"
    -- a comment that is not closed, and a byte that begins no word
    ∷ text "/* chan c0;" locals places edges
    ∷ text "chan c0; $" locals places edges
    -- words of the tool as names, and numbers that it has not
    ∷ text "chan c0, chan;" locals places edges
    ∷ text chans locals "L0 { x0 <= 5 }, W0_c0, state" edges
    ∷ text chans locals "L0 { x0 <= 2147483648 }, W0_c0" edges
    ∷ []) ≡ true
unfolding read_text is_reserved decimal
not_grammatical = refl

-- by what the tool asks besides, or because it is none of the parts
pub not_said : refused_all (
    -- names that are not declared: a channel, a clock, a variable, a location, the initial one, a process
    text "" locals places edges
    ∷ text chans "int[-32768,32767] v0;" places edges
    ∷ text chans "clock x0;" places edges
    ∷ text chans locals "L0 { x0 <= 5 }" edges
    ∷ text chans locals "L1, W0_c0" "L1 -> W0_c0 { }"
    ∷ ascii "process P0() { state L0; init L0; } system P1;"
    ∷ ascii "process P0() { state L0; init L0; } system P0, P1;"
    -- two alike
    ∷ text "chan c0, c0;" locals places edges
    ∷ text "chan c0; chan c0;" locals places edges
    ∷ text chans "clock x0, x0; int[-32768,32767] v0;" places edges
    ∷ text chans "clock x0, v0; int[-32768,32767] v0;" places edges
    ∷ text chans locals "L0 { x0 <= 5 }, W0_c0, L0" edges
    ∷ text chans "clock x0, L0; int[-32768,32767] v0;" places edges
    ∷ text "chan c0, P0;" locals places edges
    ∷ ascii "process P0() { state L0; init L0; } process P0() { state L0; init L0; } system P0;"
    ∷ ascii "process P0() { state L0; init L0; } system P0, P0;"
    -- kinds out of place: a clock as a channel, a channel as a clock, channels inside, clocks outside, another range
    ∷ text chans locals places "L0 -> W0_c0 { sync x0!; }"
    ∷ text chans locals places "L0 -> W0_c0 { guard c0 < 5; }"
    ∷ text "" "chan c0; clock x0; int[-32768,32767] v0;" places edges
    ∷ text "chan c0; clock x1;" locals places edges
    ∷ text chans "clock x0; int[0,32767] v0;" places edges
    -- a bound that is exchanged: an invariant bounds from above; a clock against a number below 0, and one with a sum
    ∷ text chans locals "L0 { x0 >= 5 }, W0_c0" edges
    ∷ text chans locals "L0 { v0 <= 5 }, W0_c0" edges
    ∷ text chans locals places "L0 -> W0_c0 { guard x0 <= -5; }"
    ∷ text chans locals places "L0 -> W0_c0 { guard x0 + 1 <= 5; }"
    -- a clock set to another number, a variable to another one
    ∷ text chans "clock x0; int[-32768,32767] v0, v1;" places "L0 -> W0_c0 { assign x0 := 1; }"
    ∷ text chans "clock x0; int[-32768,32767] v0, v1;" places "L0 -> W0_c0 { assign v0 := v1 + 1; }"
    ∷ text chans locals places "L0 -> W0_c0 { assign c0 := 0; }"
    -- a location's name of neither shape, and one that is written in another way
    ∷ text chans locals "L0 { x0 <= 5 }, here" "L0 -> here { }"
    ∷ text chans locals "L0 { x0 <= 5 }, L01" "L0 -> L01 { }"
    ∷ []) ≡ true
unfolding read_text is_reserved decimal
not_said = refl

-- ## A sign the wrong way round says something else

abbrev guarded : String → List ℕ
guarded g = ascii "process P0() { clock x0; int[-32768,32767] v0; state L0; init L0; trans L0 -> L0 { guard " ++ (ascii g ++ ascii "; }; } system P0;")

abbrev guarding : Rattle.uppaal.specs.Xta.Atom → System
guarding a =
    record {
      channels = 0;
      processes =
          record {
            clocks = 1;
            variables = 1;
            locations = record { name = location 0; invariant = [] } ∷ [];
            initial = location 0;
            transitions = record { source = location 0; target = location 0; guard = a ∷ []; sync = none; assignments = [] } ∷ [];
          }
          ∷ [];
    }

pub at-most : read_text (guarded "x0 <= 5") ≡ some (guarding (at_most (upper 0 5)))
unfolding read_text is_reserved decimal
at-most = refl

pub at-least : read_text (guarded "x0 >= 5") ≡ some (guarding (at_least 0 5))
unfolding read_text is_reserved decimal
at-least = refl

pub just : read_text (guarded "x0 == 5") ≡ some (guarding (exactly (upper 0 5)))
unfolding read_text is_reserved decimal
just = refl

pub less : read_text (guarded "x0 < 5") ≡ some (guarding (below (upper 0 5)))
unfolding read_text is_reserved decimal
less = refl

pub negative : read_text (guarded "v0 >= -32768") ≡ some (guarding (value_at_least 0 (negsuc 32767)))
unfolding read_text is_reserved decimal
negative = refl
