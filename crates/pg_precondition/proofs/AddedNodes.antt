-- A node behind those that it names.
use Rattle.std.proofs.Common.{ℕ, zero, suc, List, [], ◌∷◌, ◌++◌, length, IfSome, slice_get}
use Rattle.pg_precondition.specs.declared.node.Node.{Node}
use Rattle.pg_precondition.specs.Nodes.{IsNode, AreNodes}

each_added : (P : ℕ → Node → Type 0) (xs : List Node) (n : Node) → ((i : ℕ) → IfSome (slice_get xs i) (λ x. P i x)) → P (length xs) n → (i : ℕ)
    → IfSome (slice_get (xs ++ n ∷ []) i) (λ x. P i x)
each_added P [] n h k zero = k
each_added P [] n h k (suc i) = tt
each_added P (x ∷ xs) n h k zero = h 0
each_added P (x ∷ xs) n h k (suc i) = each_added (λ j. P (suc j)) xs n (λ j. h (suc j)) k i

pub one_more : (xs : List Node) (n : Node) → AreNodes xs → IsNode (length xs) n → AreNodes (xs ++ n ∷ [])
one_more xs n h k = record { names = each_added (λ i x. IsNode i x) xs n h.names k }
