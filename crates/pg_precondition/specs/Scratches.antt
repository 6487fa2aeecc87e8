-- The numbers of a precondition's nodes, and for how many there is room.
use Rattle.std.specs.Prelude.{◌≡◌, ℕ, ℤ, List, Option, drop, length}
use Rattle.pg_precondition.specs.declared.node.Node.{Node}
use Rattle.pg_precondition.specs.Values.{numbers_behind, numbers_of}

pub record Numbers : Type 0 where
  pub numbers : List (Option ℕ)
  pub room : ℕ

-- the numbers of the first nodes: with those of the other nodes behind them they are the numbers of all
pub record AreFirst (input : List ℤ) (nodes : List Node) (known : List (Option ℕ)) : Type 0 where
  pub first : numbers_behind input known (drop (length known) nodes) ≡ numbers_of input nodes
