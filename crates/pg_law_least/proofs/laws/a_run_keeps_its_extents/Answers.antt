use Rattle.pg_law_least.specs.Kept.{kept}
use Rattle.pg_law_least.proofs.ExampleExtents.{kept_goes}
use Rattle.pg_law_least.proofs.HeldAlongMoments.{goes_keep}
use Rattle.pg_law_least.proofs.laws.a_run_keeps_its_extents.Goals as goal

pub returns-clause-along : goal.returns-clause-along
returns-clause-along c = kept_goes

pub returns-clause-kept : goal.returns-clause-kept
returns-clause-kept c = goes_keep kept kept_goes
