use Rattle.std.proofs.Common.{[], arith, sym, ◌∙◌}
use Rattle.pg_slice_conflicts.proofs.Joining.{none_asked}
use Rattle.pg_slice_conflicts.proofs.SmallTrees.{few_leaves}
use Rattle.pg_slice_conflicts.proofs.table.answered_before.Goals as goal

pub overflow_mul-tree : goal.overflow_mul-tree
overflow_mul-tree c = let f = few_leaves c.args.tree c.requires.tree in omega (arith, f)

pub returns-then-not-is_asked : goal.returns-then-not-is_asked
returns-then-not-is_asked c = c.in_ok-answered.ensures ∙ none_asked [] c.args.touches.now (sym c.is_asked.ensures ∙ c.if-not-is_asked.true)
