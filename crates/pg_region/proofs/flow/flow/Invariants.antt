use Rattle.std.proofs.Common.{◌≡◌}
use Rattle.pg_region.specs.Regions.{flow_between}
use Rattle.pg_region.proofs.flow.flow.Given as goal

abbrev pub invariant-loop-b : goal.invariant-loop-b
invariant-loop-b l = l.graph ≡ flow_between l.p l.b
