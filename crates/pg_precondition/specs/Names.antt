-- Which nodes a check needs: the one that it names, and those that a node that it needs names.
use Rattle.std.specs.Prelude.{◌≡◌, ℕ, ℤ, zero, suc, ◌==◌, ◌<◌, List, [], ◌∷◌, length, take, Bool, true, Some, slice_get}
use Rattle.std.specs.List.{list_any}
use Rattle.pg_precondition.specs.declared.check.Check.{Check}
use Rattle.pg_precondition.specs.declared.node.Node.{Node}
use Rattle.pg_precondition.specs.declared.node.Node.TheVariants as node
use Rattle.pg_precondition.specs.Nodes.{Conditions}
use Rattle.pg_precondition.specs.Values.{is_admitted}

-- the nodes that a node names
abbrev pub names_of : Node → List ℕ
names_of (node.Const n) = []
names_of (node.In a) = a ∷ []
names_of node.InLen = []
names_of (node.Op op w a b) = a ∷ b ∷ []
names_of (node.Cast cast from to a) = a ∷ []
names_of (node.Select c a b) = c ∷ a ∷ b ∷ []
names_of (node.Gep base delta) = base ∷ delta ∷ []
names_of (node.Byte a at) = a ∷ []
names_of (node.Join parts count) = take count parts

abbrev pub is_among : ℕ → List ℕ → Bool
is_among i names = list_any (λ a. a == i) names

-- a check names the node
pub record IsChecked (checks : List Check) (i : ℕ) : Type 0 where
  pub number : ℕ
  pub check : Check
  pub at : slice_get checks number ≡ Some check
  pub names : check.node ≡ i

-- node j names node i
pub record IsNamedBy (nodes : List Node) (i j : ℕ) : Type 0 where
  pub by_node : Node
  pub at : slice_get nodes j ≡ Some by_node
  pub names : is_among i (names_of by_node) ≡ true

-- so many names lead from a check to the node
abbrev pub IsNeededIn : ℕ → Conditions → ℕ → Type 0
IsNeededIn zero c i = IsChecked c.checks i
IsNeededIn (suc k) c i = (j : ℕ) × IsNeededIn k c j × IsNamedBy c.nodes i j

abbrev pub IsNeeded : Conditions → ℕ → Type 0
IsNeeded c i = (k : ℕ) × IsNeededIn k c i

-- each node is needed
abbrev pub AreNeeded : Conditions → Type 0
AreNeeded c = (i : ℕ) → i < length c.nodes → IsNeeded c i

-- the same checks over only the nodes that they need
pub record IsNeededPart (c r : Conditions) : Type 0 where
  pub admits : (input : List ℤ) → is_admitted input r ≡ is_admitted input c
  pub needed : AreNeeded r
  pub checks : length r.checks ≡ length c.checks
