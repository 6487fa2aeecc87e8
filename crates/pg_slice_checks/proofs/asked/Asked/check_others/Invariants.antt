use Rattle.std.proofs.Common.{◌≡◌, ◌++◌, drop, map}
use Rattle.pg_slice_checks.specs.Asks.{other_than}
use Rattle.pg_slice_checks.proofs.asked.Asked.check_others.Given as goal

abbrev pub invariant-loop-case : goal.invariant-loop-case
invariant-loop-case l = (l.initial.self.checks.items ++ map (other_than l.node) l.cases ≡ l.self.checks.items ++ map (other_than l.node) (drop l.case-index l.cases))
    × (l.self.missing ≡ l.initial.self.missing)
