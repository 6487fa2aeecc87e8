use Rattle.std.proofs.Common.{◌≡◌, ◌++◌, [], drop, take}
use Rattle.pg_slice_conflicts.specs.Passes.{answers, before_by}
use Rattle.pg_slice_conflicts.specs.Tables.{Keeps, spanned, started}
use Rattle.pg_slice_conflicts.proofs.table.answer_all.Given as goal

abbrev pub invariant-loop-i : goal.invariant-loop-i
invariant-loop-i l = record {
  answered : take l.i l.answered ++ before_by answers (take l.i l.touches) (drop l.i l.touches) ≡ before_by answers [] l.touches;
  spans : Keeps (spanned l.tree) l.spans (take l.i l.touches);
  starts : Keeps (started l.tree) l.starts (take l.i l.touches);
}
