use Rattle.pg_law_reference.proofs.BranchRegions.{regions_are}
use Rattle.pg_law_reference.proofs.laws.regions_exist.Goals as goal

pub returns : goal.returns
returns c = regions_are
