use Rattle.pg_region_accesses.proofs.QuietInstructions.{set_outside}
use Rattle.pg_region_accesses.proofs.laws.roots_are_outside.Goals as goal

pub returns : goal.returns
returns c = λ m p gated sums blocks accesses h a c. set_outside m p gated sums blocks accesses h a c
