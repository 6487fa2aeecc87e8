use Rattle.std.proofs.Common.{◌≡◌, ◌++◌, drop}
use Rattle.pg_cfg.specs.Searches.{members_from}
use Rattle.pg_cfg.proofs.marks.members.Given as goal

abbrev pub invariant-loop-vertex : goal.invariant-loop-vertex
invariant-loop-vertex l = l.members.items ++ members_from l.vertex (drop l.vertex l.set) ≡ members_from 0 l.set
