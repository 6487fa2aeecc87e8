use Rattle.std.proofs.Common.{◌≡◌, ◌++◌, drop, take}
use Rattle.pg_slice_conflicts.specs.Joined.{or_each}
use Rattle.pg_slice_conflicts.proofs.fast.join.Given as goal

abbrev pub invariant-loop-i : goal.invariant-loop-i
invariant-loop-i l = take l.i l.marks ++ or_each (drop l.i l.marks) (drop l.i l.others) ≡ or_each l.initial.marks l.others
