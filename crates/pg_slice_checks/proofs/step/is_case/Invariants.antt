use Rattle.std.proofs.Common.{◌≡◌, drop}
use Rattle.pg_slice_memory.specs.pg_slice_rules.Rules as rules
use Rattle.pg_slice_checks.proofs.step.is_case.Given as goal

abbrev pub invariant-loop-case : goal.invariant-loop-case
invariant-loop-case l = rules.is_case l.n l.cases ≡ rules.is_case l.n (drop l.case-index l.cases)
