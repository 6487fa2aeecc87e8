use Rattle.std.proofs.Common.{◌≡◌, ◌∷◌, map, take}
use Rattle.pg_ir.specs.declared.edge.Case.{Case}
use Rattle.pg_region.proofs.flow.switch_targets.Given as goal

abbrev pub invariant-loop-case : goal.invariant-loop-case
invariant-loop-case l = l.targets.items ≡ l.other ∷ map (λ (c : Case). c.to.0) (take l.case-index l.cases)
