-- Lists of nodes and of checks, each of which names nodes before it.
use Rattle.std.specs.Prelude.{ℕ, ◌≤◌, ◌<◌, List, length, IfSome, slice_get, slice_index}
use Rattle.pg_num.specs.Numbers.{width_bits}
use Rattle.pg_num.specs.declared.width.Width.{Width}
use Rattle.pg_precondition.specs.declared.node.CastKind.{CastKind}
use Rattle.pg_precondition.specs.declared.node.CastKind.TheVariants.{Trunc, Zext, Sext}
use Rattle.pg_precondition.specs.declared.node.Node.{Node}
use Rattle.pg_precondition.specs.declared.node.Node.TheVariants as node
use Rattle.pg_precondition.specs.declared.check.Check.{Check}

abbrev pub NodeList : Type 0
NodeList = List Node

-- a cast by trunc doesn't widen, one by zext or sext doesn't narrow
abbrev pub FitsCast : CastKind → Width → Width → Type 0
FitsCast Trunc from to = width_bits to ≤ width_bits from
FitsCast Zext from to = width_bits from ≤ width_bits to
FitsCast Sext from to = width_bits from ≤ width_bits to

-- the first parts of a join name nodes below k
pub record NamesParts (k : ℕ) (parts : List ℕ) (count : ℕ) : Type 0 where
  pub names : (i : ℕ) → i < count → slice_index parts i < k

-- a node that names only nodes below k
abbrev pub IsNode : ℕ → Node → Type 0
IsNode k (node.Const n) = Unit {0}
IsNode k (node.In a) = a < k
IsNode k node.InLen = Unit {0}
IsNode k (node.Op op w a b) = (a < k) × (b < k)
IsNode k (node.Cast cast from to a) = (a < k) × FitsCast cast from to
IsNode k (node.Select c a b) = (c < k) × (a < k) × (b < k)
IsNode k (node.Gep base delta) = (base < k) × (delta < k)
IsNode k (node.Byte a at) = (a < k) × (at ≤ 7)
IsNode k (node.Join parts count) = NamesParts k parts count × (1 ≤ count) × (count ≤ 8)

-- each node of a list names only nodes before it
pub record AreNodes (nodes : List Node) : Type 0 where
  pub names : (i : ℕ) → IfSome (slice_get nodes i) (λ n. IsNode i n)

-- nodes, and the checks of their numbers
pub record Conditions : Type 0 where
  pub nodes : List Node
  pub checks : List Check

-- each check names one of the nodes
pub record AreChecks (nodes : List Node) (checks : List Check) : Type 0 where
  pub names : (i : ℕ) → IfSome (slice_get checks i) (λ (c : Check). c.node < length nodes)
