-- The nodes of a full binary tree: node 1 is its root, and below node v lie nodes 2 * v and 2 * v + 1.
use Rattle.std.specs.Prelude.{ℕ, zero, suc, ◌+◌, ◌-◌, ◌/◌, ◌%◌, ◌==◌, nat_lt, List, [], ◌∷◌, ◌++◌, Bool, if◌then◌else◌}

-- a node and those above it, so many
abbrev pub path : ℕ → ℕ → List ℕ
path zero v = []
path (suc n) v = v ∷ path n (v / 2)

abbrev pub only_if : Bool → ℕ → List ℕ
only_if b v = if b then v ∷ [] else []

-- of the nodes from low to before high, which lie side by side, the first and the last if its sibling isn't one of them
abbrev pub ends : ℕ → ℕ → List ℕ
ends low high = if nat_lt low high then only_if (low % 2 == 1) low ++ only_if (high % 2 == 1) (high - 1) else []

-- nodes that have below them just the nodes from low to before high, in so many levels
abbrev pub span : ℕ → ℕ → ℕ → List ℕ
span zero low high = []
span (suc n) low high = ends low high ++ span n (low / 2 + low % 2) (high / 2)
