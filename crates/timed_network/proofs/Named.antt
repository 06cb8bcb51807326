-- No two locations of a process that a table is written as have one name. Assumes nothing.
use mathlib.Core.Path.{sym, subst}
use mathlib.Core.List.{List, [], ◌∷◌, map}
use Prim.Native.Nat.{ℕ}
use Rattle.model.specs.Lists.{All, empty, more, ◌∈◌, here, there}
use Rattle.model.proofs.Basics.Members.{not_in}
use Rattle.model.proofs.Reader.Limits.{read_limits}
use Rattle.uppaal.specs.Xta.{Name, Location, Process}
use Rattle.uppaal.proofs.XtaPrinted.{SmallName, SmallProcess}
use Rattle.uppaal.proofs.XtaResolved.{name_same}
use Rattle.uppaal.proofs.XtaLimits.{system_small}
use Rattle.timed_network.specs.Names.{WrittenApart, NamesApart}

-- a name of locations whose numbers are small
small_in : (ls : List Location) (n : Name) → All (λ (l : Location). SmallName l.name) ls → n ∈ map (λ (l : Location). l.name) ls → SmallName n
small_in [] n a k = absurd (not_in k)
small_in (l ∷ ls) n (more h a) (here e) = subst SmallName (sym e) h
small_in (l ∷ ls) n (more h a) (there k) = small_in ls n a k

written_apart : (P : Process) → SmallProcess P → WrittenApart P
written_apart P s n m i j e = name_same n m (small_in P.locations n s.names i) (small_in P.locations m s.names j) e

each_apart : {Ps : List Process} → All SmallProcess Ps → All WrittenApart Ps
each_apart empty = empty
each_apart (more {x = P} s a) = more (written_apart P s) (each_apart a)

pub names_apart : (table : List ℕ) → NamesApart table
names_apart table t r = each_apart (system_small t (read_limits table t r)).processes
