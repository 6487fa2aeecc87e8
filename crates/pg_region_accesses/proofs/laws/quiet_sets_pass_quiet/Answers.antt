use Rattle.pg_region_accesses.proofs.QuietInstructions.{set_quiet}
use Rattle.pg_region_accesses.proofs.laws.quiet_sets_pass_quiet.Goals as goal

pub returns : goal.returns
returns c = λ m p gated sums blocks accesses h b k x c at. set_quiet m p gated sums blocks accesses h b k x c at
