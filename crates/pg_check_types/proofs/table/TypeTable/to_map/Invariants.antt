use Rattle.std.proofs.Common.{◌≡◌, take}
use Rattle.pg_check_types.proofs.table.TypeTable.to_map.Given as goal

abbrev pub invariant-loop-number : goal.invariant-loop-number
invariant-loop-number l = l.shapes.entries ≡ take l.number l.self
