-- `blocks::put_pair` meets its contract. Assumes nothing.
use mathlib.Core.Path.{ap}
use mathlib.Core.List.{List}
use Prim.Native.Nat.{ℕ}
use Rattle.model.specs.Reader.{byte}
use Rattle.model.specs.Program.{quad}
use Rattle.blocks.proofs.Runs.{put_is}
use Rattle.blocks.proofs.put_pair.Goals as goal

pub returns : goal.returns
returns c =
    let args = c.args in
    put_is (ap {B = List ℕ} (λ (k : ℕ). quad 0x06 (byte args.bytes.now 0) k) c.wide16.ensures.0) c.put_quad.ensures
