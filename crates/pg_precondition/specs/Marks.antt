-- Marks on the nodes that are needed.
use Rattle.std.specs.Prelude.{◌≡◌, ℕ, zero, suc, ◌||◌, ◌<◌, List, [], ◌∷◌, length, Bool, true, false, Option, Some, None, slice_get, slice_index, slice_index_or}
use Rattle.std.specs.Prelude.{if◌then◌else◌}
use Rattle.pg_precondition.specs.declared.check.Check.{Check}
use Rattle.pg_precondition.specs.declared.node.Node.{Node}
use Rattle.pg_precondition.specs.Nodes.{Conditions}
use Rattle.pg_precondition.specs.Names.{IsChecked, IsNeeded, is_among, names_of}

abbrev pub is_set : List Bool → ℕ → Bool
is_set marks i = slice_index_or marks i false

-- marks with those of these nodes set too
abbrev pub Marked : List Bool → List Bool → List ℕ → Type 0
Marked old marked names = (i : ℕ) → is_set marked i ≡ (is_set old i || is_among i names)

-- from node k on, the nodes that a marked node names are marked
abbrev pub AreClosed : List Node → List Bool → ℕ → Type 0
AreClosed nodes marks k = (i : ℕ) (n : Node) → slice_get nodes i ≡ Some n → is_set marks i ≡ true → (k < suc i) → (a : ℕ) → is_among a (names_of n) ≡ true
    → is_set marks a ≡ true

-- marks of needed nodes, which the checks name or marked nodes from node k on
pub record AreMarks (c : Conditions) (marks : List Bool) (k : ℕ) : Type 0 where
  pub as_many : length marks ≡ length c.nodes
  pub sound : (i : ℕ) → is_set marks i ≡ true → IsNeeded c i
  pub checks : (i : ℕ) → IsChecked c.checks i → is_set marks i ≡ true
  pub closed : AreClosed c.nodes marks k

-- how many of the first i marks are set
abbrev pub place : List Bool → ℕ → ℕ
place [] i = 0
place (m ∷ marks) zero = 0
place (m ∷ marks) (suc i) = if m then suc (place marks i) else place marks i

abbrev pub node_of : Check → ℕ
node_of k = k.node

-- what a node names, if it is marked
abbrev pub names_if : Bool → Option Node → List ℕ
names_if b None = []
names_if b (Some n) = if b then names_of n else []

-- the place of each mark
pub record ArePlaces (marks : List Bool) (places : List ℕ) : Type 0 where
  pub as_many : length places ≡ length marks
  pub each : (i : ℕ) → i < length marks → slice_index places i ≡ place marks i
