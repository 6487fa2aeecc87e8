use Rattle.std.proofs.Common.{◌≤◌, Some}
use Rattle.pg_slice_walk.specs.Chains.{IsLeft}
use Rattle.pg_slice_walk.proofs.holders.left_at.Given as goal

abbrev pub invariant-loop-left : goal.invariant-loop-left
invariant-loop-left l = IsLeft l.reference l.holders l.depth (Some l.block) l.inner l.left × (l.left ≤ l.inner)

abbrev pub decreases-loop-left : goal.decreases-loop-left
decreases-loop-left l = l.left
