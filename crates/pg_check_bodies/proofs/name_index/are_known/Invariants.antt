use Rattle.std.proofs.Common.{◌≡◌, drop}
use Rattle.pg_check_rules.specs.Starts.{names_behind}
use Rattle.pg_check_bodies.specs.BodyBlocks.{are_known}
use Rattle.pg_check_bodies.proofs.name_index.are_known.Given as goal

abbrev pub invariant-loop-name : goal.invariant-loop-name
invariant-loop-name l = are_known l.index (names_behind l.names) ≡ are_known l.index (names_behind (drop l.name-index l.names))
