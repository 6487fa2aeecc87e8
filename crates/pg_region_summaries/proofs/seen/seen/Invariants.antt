use Rattle.std.proofs.Common.{◌≡◌, drop, Some}
use Rattle.pg_region_accesses.specs.Accesses.{both}
use Rattle.pg_region_summaries.specs.Summaries.{seen}
use Rattle.pg_region_summaries.proofs.seen.seen.Given as goal

abbrev pub invariant-loop-access : goal.invariant-loop-access
invariant-loop-access l = seen l.params l.accesses ≡ both (Some l.seen.items) (seen l.params (drop l.access-index l.accesses))
