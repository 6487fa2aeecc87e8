use Rattle.std.proofs.Common.{true}
use Rattle.pg_slice_rules.specs.Rules as rules
use Rattle.pg_law_least.proofs.AskedByFootprints.{by_footprints}
use Rattle.pg_law_least.proofs.laws.disturbed_by_footprints.Goals as goal

pub returns : goal.returns
returns c = λ all x. by_footprints true x (rules.region_footprints x) all
