-- A program's listing, for any bytes (document 01, "The program"). What a damaged program states and does not hold is said in a
-- line of its own, and the listing goes on with what can still be read.
use Rattle.std.specs.Prelude.{cond, List, [], ◌++◌, ℕ, zero, suc, ◌+◌, ◌*◌, ◌-◌, ◌/◌, ◌%◌, ltb, eqb, length}
use Rattle.model.specs.Reader.{byte, word}
use Rattle.model.specs.Program.{part_of, within}
use Rattle.text.specs.Words.{ascii, decimal, field}
use Rattle.listing_text.specs.StatementText.{statement_line}

-- ## The part of one node
-- "length, these two bytes included (2 bytes); locations; edges; initial location; a zero byte; a 2-byte start, counted in
-- statements, for each location's block, then each edge's block; then those blocks in that order"

-- the blocks are as many as locations and edges; their statements, 4 bytes each, start behind the starts
abbrev pub blocks_of : List ℕ → ℕ
blocks_of part = byte part 2 + byte part 3

abbrev pub code_at : List ℕ → ℕ
code_at part = 6 + 2 * blocks_of part

abbrev pub statements_of : List ℕ → ℕ
statements_of part = (length part - code_at part) / 4

-- a block reaches to the start of the next, the last to the end of the part
abbrev pub start_of : List ℕ → ℕ → ℕ
start_of part block = word part (6 + 2 * block)

abbrev pub end_of : List ℕ → ℕ → ℕ
end_of part block = cond (ltb (block + 1) (blocks_of part)) (start_of part (block + 1)) (statements_of part)

-- ## Statements

abbrev pub statement_at : List ℕ → ℕ → List ℕ
statement_at part place = statement_line place part (code_at part + 4 * place)

abbrev pub outside : List ℕ
outside = ascii "      the rest of the block lies outside the node's part\n"

abbrev pub place_text : List ℕ → ℕ → List ℕ
place_text part place = cond (ltb place (statements_of part)) (statement_at part place) outside

-- so many from a place on; the first that lies outside is the last
unfoldable pub statements_text : List ℕ → ℕ → ℕ → List ℕ
unfolding statement_line
statements_text part place zero = []
statements_text part place (suc n) =
    place_text part place ++ cond (ltb place (statements_of part)) (statements_text part (suc place) n) []

-- ## Blocks

abbrev pub block_name : List ℕ → ℕ → List ℕ
block_name part block =
    cond (ltb block (byte part 2)) (field "  location " block) (field "  edge " (block - byte part 2))

abbrev pub empty_block : List ℕ
empty_block = ascii "      no statement: the block ends where it starts, or before\n"

unfoldable pub block_head : List ℕ → ℕ → List ℕ
unfolding decimal
block_head part block =
    block_name part block ++ field ", from statement " (start_of part block) ++ ascii "\n"
    ++ cond (ltb (start_of part block) (end_of part block)) [] empty_block

unfoldable pub behind : List ℕ → List ℕ
unfolding decimal
behind part =
    cond (eqb ((length part - code_at part) % 4) 0) []
    (field "  bytes behind the last whole statement: " ((length part - code_at part) % 4) ++ ascii "\n")

-- so many blocks from one on, then the bytes that are no whole statement
unfoldable pub blocks_text : List ℕ → ℕ → ℕ → List ℕ
unfolding block_head statements_text behind
blocks_text part block zero = behind part
blocks_text part block (suc n) =
    block_head part block ++ statements_text part (start_of part block) (end_of part block - start_of part block)
    ++ blocks_text part (suc block) n

-- ## Nodes

abbrev pub counts : List ℕ → List ℕ
counts part =
    field ": length " (length part) ++ field ", locations " (byte part 2) ++ field ", edges " (byte part 3)
    ++ field ", initial location " (byte part 4) ++ ascii "\n"

abbrev pub no_part : List ℕ
no_part = ascii ": its part lies outside the bytes, or has fewer than 6\n"

abbrev pub no_starts : List ℕ
no_starts = ascii "  the starts of its blocks lie outside its part\n"

unfoldable pub node_head : ℕ → List ℕ → List ℕ
unfolding decimal
node_head node part =
    field "node " node
    ++ cond (ltb (length part) 6) no_part (counts part ++ cond (ltb (length part) (code_at part)) no_starts [])

abbrev pub node_text : ℕ → List ℕ → List ℕ
node_text node part = node_head node part ++ cond (ltb (length part) (code_at part)) [] (blocks_text part 0 (blocks_of part))

-- "The part of the program bytes that belongs to one node can be had by its number"
abbrev pub part_in : List ℕ → ℕ → List ℕ
part_in program node = within (part_of program node) program

unfoldable pub nodes_text : List ℕ → ℕ → ℕ → List ℕ
unfolding node_head blocks_text part_of
nodes_text program node zero = []
nodes_text program node (suc n) = node_text node (part_in program node) ++ nodes_text program (suc node) n

-- ## The program

-- "Version 1; total length (2 bytes); component count; H (2 bytes)"
abbrev pub header : List ℕ → List ℕ
header program =
    field "version " (byte program 0) ++ field ", length " (word program 1) ++ field ", nodes " (byte program 3)
    ++ field ", horizon " (word program 4) ++ ascii "\n"

abbrev pub other_length : List ℕ → List ℕ
other_length program =
    cond (eqb (word program 1) (length program)) []
    (field "the length is not that of the bytes read: " (length program) ++ ascii "\n")

abbrev pub no_header : List ℕ
no_header = ascii "the header lies outside the bytes\n"

unfoldable pub program_head : List ℕ → List ℕ
unfolding decimal
program_head program = cond (ltb (length program) 6) no_header (header program ++ other_length program)

unfoldable pub listing_text : List ℕ → List ℕ
unfolding program_head nodes_text
listing_text program = program_head program ++ cond (ltb (length program) 6) [] (nodes_text program 0 (byte program 3))
