use Rattle.pg_region_accesses.specs.Accesses.{summary_of}
use Rattle.pg_region_accesses.specs.Tables.{in_table}
use Rattle.pg_region.specs.Regions.{block_of}
use Rattle.pg_slice_replay.proofs.SoughtRegions.{region_within}
use Rattle.pg_slice_replay.proofs.seek.seek_own.Goals as goal

pub added-requires : goal.added-requires
added-requires c =
    region_within c.args.p.now (in_table c.args.finder.now.gated) (summary_of c.args.sums.now) c.args.finder.now
    (block_of c.args.p.now c.args.branch.0) c.in_ok-region.region c.requires.finder c.in_ok-region.ensures.region

pub returns-clause-known : goal.returns-clause-known
returns-clause-known c = c.in_ok-sought.ensures.known (in_table c.args.finder.now.gated) (summary_of c.args.sums.now) (block_of c.args.p.now c.args.branch.0) c.requires.found c.in_ok-region.ensures.region
