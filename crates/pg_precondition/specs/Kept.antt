-- The marked nodes, renumbered.
use Rattle.std.specs.Prelude.{ℕ, ◌≤◌, length, List, [], ◌∷◌, ◌++◌, drop, map, take, Bool, if◌then◌else◌}
use Rattle.pg_precondition.specs.declared.check.Check.{Check}
use Rattle.pg_precondition.specs.declared.node.Node.{Node}
use Rattle.pg_precondition.specs.declared.node.Node.TheVariants as node

-- a node that names other numbers for the nodes that it named
abbrev pub renamed : (ℕ → ℕ) → Node → Node
renamed f (node.Const n) = node.Const n
renamed f (node.In a) = node.In (f a)
renamed f node.InLen = node.InLen
renamed f (node.Op op w a b) = node.Op op w (f a) (f b)
renamed f (node.Cast cast from to a) = node.Cast cast from to (f a)
renamed f (node.Select c a b) = node.Select (f c) (f a) (f b)
renamed f (node.Gep base delta) = node.Gep (f base) (f delta)
renamed f (node.Byte a at) = node.Byte (f a) at
renamed f (node.Join parts count) = node.Join (map f (take count parts) ++ drop count parts) count

-- a join has as many parts as it counts
abbrev pub HasParts : Node → Type 0
HasParts (node.Join parts count) = count ≤ length parts
HasParts n = Unit {0}

abbrev pub renamed_check : (ℕ → ℕ) → Check → Check
renamed_check f c = record { node = f c.node; test = c.test }

-- those of some nodes whose marks are set, renamed
abbrev pub kept : (ℕ → ℕ) → List Bool → List Node → List Node
kept f [] nodes = []
kept f (m ∷ marks) [] = []
kept f (m ∷ marks) (n ∷ nodes) = if m then renamed f n ∷ kept f marks nodes else kept f marks nodes
