use Rattle.std.proofs.Common.{◌≡◌, ◌≤◌, ◌^◌, drop}
use Rattle.pg_ir.specs.PlaceTests.{lie_from}
use Rattle.pg_ir.proofs.build.lie_from.Given as goal

abbrev pub invariant-loop-g : goal.invariant-loop-g
invariant-loop-g l = (lie_from l.at (drop l.g-index l.globals) ≡ lie_from l.start l.globals) × (l.at ≤ 2 ^ 33)
