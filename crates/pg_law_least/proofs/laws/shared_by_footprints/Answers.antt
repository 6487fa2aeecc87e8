use Rattle.std.proofs.Common.{false, ap}
use Rattle.std.specs.Prelude.{◌&&◌}
use Rattle.pg_slice_rules.specs.Rules as rules
use Rattle.pg_law_least.proofs.AskedByFootprints.{by_footprints}
use Rattle.pg_law_least.proofs.laws.shared_by_footprints.Goals as goal

pub returns : goal.returns
returns c = λ all x. ap (λ b. rules.is_plain (rules.kind_in x) && b) (by_footprints false x (rules.access_footprint x) all)
