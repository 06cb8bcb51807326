-- "An edge is one of three: internal (0), send (1) or receive (2)."
use Rattle.std.specs.Prelude.{ℕ, zero, suc}
use Rattle.parts.specs.declared.EdgeKind.{EdgeKind}
use Rattle.parts.specs.declared.EdgeKind.TheVariants.{Internal, Send, Receive}

-- by the first of its bytes, as the reading takes it
abbrev pub kind_of : ℕ → EdgeKind
kind_of zero = Internal
kind_of (suc zero) = Send
kind_of (suc (suc n)) = Receive

-- and back
abbrev pub kind_byte : EdgeKind → ℕ
kind_byte Internal = 0
kind_byte Send = 1
kind_byte Receive = 2
