use Rattle.std.proofs.Common.{◌-◌, ◌*◌, ◌<◌, ◌≤◌}
use Rattle.pg_stamps.specs.declared.stamps.TheConstants.{PLACE_COUNT}
use Rattle.pg_stamps.specs.Marks.{mark_of}
use Rattle.pg_stamps.proofs.Levels.{Raised}
use Rattle.pg_stamps.proofs.stamps.Stamps.stamp.Given as goal

abbrev pub invariant-loop-level : goal.invariant-loop-level
invariant-loop-level l = record {
  raised : Raised (mark_of l.fn.self) (mark_of l.self) l.fn.start l.fn.end l.fn.number l._level l.left l.right;
  room : 2 * (27 - l._level) ≤ l.self.marks.room;
  some : 0 < l.left;
  small : l.left ≤ 2 * PLACE_COUNT;
}
