use Rattle.std.proofs.Common.{◌≡◌, ◌++◌, drop}
use Rattle.pg_slice_decisions.specs.Marks.{members_from}
use Rattle.pg_slice_decisions.proofs.marks.members.Given as goal

abbrev pub invariant-loop-n : goal.invariant-loop-n
invariant-loop-n l = l.members.items ++ members_from l.n (drop l.n l.set) ≡ members_from 0 l.set
