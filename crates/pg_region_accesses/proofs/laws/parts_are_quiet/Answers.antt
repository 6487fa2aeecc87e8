use Rattle.pg_region_accesses.proofs.QuietInParts.{quiet_part, same_part}
use Rattle.pg_region_accesses.proofs.laws.parts_are_quiet.Goals as goal

pub returns : goal.returns
returns c = λ m p gated sums blocks part accesses h k. record { quiet = quiet_part m p gated sums blocks part accesses h k; same = same_part m p gated sums blocks part accesses h k }
