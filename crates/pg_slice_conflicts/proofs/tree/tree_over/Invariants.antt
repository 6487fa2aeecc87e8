use Rattle.std.proofs.Common.{◌≡◌, ◌⊎◌, ◌<◌, ◌-◌, ◌*◌, ◌^◌}
use Rattle.pg_slice_conflicts.proofs.tree.tree_over.Given as goal

abbrev pub invariant-loop-levels : goal.invariant-loop-levels
invariant-loop-levels l = (2 * l.leaves ≡ 2 ^ l.levels) × ((l.levels ≡ 1) ⊎ (2 ^ (l.levels - 2) < l.count))
