-- The program of a table: its length, its bytes decoded, and what a location's block does.
-- To cite: `Decode.location-code` and `edge-code` (decoding a node's part gives its blocks back), `BlockLaw.block_law` (a location's block keeps exactly the
-- schedule's edge and window), `Size.program_fits` (at most 24,576 bytes).
pub mod Statement
pub mod Size
pub mod Block
pub mod Inside
pub mod Node
pub mod Decode
pub mod NodeSize
pub mod Bytes
pub mod Trial
pub mod BlockLaw
