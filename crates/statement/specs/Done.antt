-- A statement carried out on the words of node c.
use Rattle.std.specs.Prelude.{◌≡◌, List, ℕ, ℤ}
use Rattle.model.specs.Machine.{finish}
use Rattle.node.specs.declared.Node.{Node}
use Rattle.node.specs.Views.{node_of, Executed, Grown}
use Rattle.registers.specs.Words.{node_in, held_in, Stored}

-- the statement at the front of h, which leads to no other place
pub record Carried (h l : List ℕ) (v : List ℤ) (c : ℕ) (l' : List ℕ) (v' : List ℤ) : Type 0 where
  pub node : Node
  pub executed : Executed h (held_in l c) (node_in l v c) node
  pub grown : Grown (node_in l v c) node
  pub place : node.pc ≡ (node_in l v c).pc
  pub stored : Stored l v c node l' v'

-- the statement at which the node stands in its part p; the next one stands at pc
pub record Finished (p l : List ℕ) (v : List ℤ) (c pc : ℕ) (l' : List ℕ) (v' : List ℤ) : Type 0 where
  pub node : Node
  pub finished : node_of p (held_in l c) node ≡ finish p (node_of p (held_in l c) (node_in l v c)) (node_of p (held_in l c) (node_in l v c)).rest
  pub grown : Grown (node_in l v c) node
  pub place : pc ≡ node.pc
  pub stored : Stored l v c node l' v'
