use Rattle.std.proofs.Common.{◌≡◌, ◌<◌, ℕ, ◌⊎◌, inl, inr, subst}
use Rattle.pg_slice_rules.specs.declared.decision.Decision.{Decision}
use Rattle.pg_slice_values.specs.declared.symbolic_node.SymbolicNode.{SymbolicNode}
use Rattle.pg_slice_values.specs.declared.symbolic_node.SymbolicNode.TheVariants as symbolic_node
use Rattle.pg_slice_values.specs.SymbolicNodes.{IsSymbolicNode}
use Rattle.pg_slice_values.proofs.symbolic_node.SymbolicNode.moved.Goals as goal

-- the node of the bounds is one of the symbolic value's
bounds_below : (n bounds : ℕ) (s : SymbolicNode) → ((v : ℕ) × (s ≡ symbolic_node.Known v bounds)) ⊎ ((x : Decision) × (s ≡ symbolic_node.Bounded bounds x)) → IsSymbolicNode n s → bounds < n
bounds_below n bounds s (inl q) h = let k : IsSymbolicNode n (symbolic_node.Known q.0 bounds) = subst (λ (z : SymbolicNode). IsSymbolicNode n z) q.1 h in k.1
bounds_below n bounds s (inr q) h = subst (λ (z : SymbolicNode). IsSymbolicNode n z) q.1 h

pub returns-in-Known-clause-is : goal.returns-in-Known-clause-is
returns-in-Known-clause-is c = λ n b s. c.with_bounds.ensures.is n (bounds_below n c.in-Known.bounds c.args.base c.in-Known.is b) s
