use Rattle.pg_region_accesses.specs.Accesses.{summary_of}
use Rattle.pg_region_accesses.specs.Tables.{in_table}
use Rattle.pg_region.proofs.PreparedFinders.{if_ok}
use Rattle.pg_region.specs.Alike.{HasRegionOf}
use Rattle.pg_region.specs.Regions.{RegionOf, block_of}
use Rattle.pg_slice_replay.proofs.SoughtRegions.{region_within}
use Rattle.pg_slice_replay.proofs.seek.known_as.Goals as goal

pub added-requires : goal.added-requires
added-requires c =
    let r : RegionOf c.args.p.now (in_table c.args.finder.now.gated) (summary_of c.args.sums.now) (block_of c.args.p.now c.args.branch.0) c.in-Of.region = rw c.in-Of.is at c.requires.found in
    region_within c.args.p.now (in_table c.args.finder.now.gated) (summary_of c.args.sums.now) c.args.finder.now (block_of c.args.p.now c.args.branch.0) c.in-Of.region c.requires.finder r

pub returns-in-Of-clause-known : goal.returns-in-Of-clause-known
returns-in-Of-clause-known c =
    let r : RegionOf c.args.p.now (in_table c.args.finder.now.gated) (summary_of c.args.sums.now) (block_of c.args.p.now c.args.branch.0) c.in-Of.region = rw c.in-Of.is at c.requires.found in
    if_ok c.added.result (λ s k. k (in_table c.args.finder.now.gated) (summary_of c.args.sums.now) (block_of c.args.p.now c.args.branch.0) c.requires.before r) c.added.ensures.known

pub known_like-requires-clause-other : goal.known_like-requires-clause-other
known_like-requires-clause-other c =
    let k : HasRegionOf c.args.p.now (in_table c.args.finder.now.gated) (summary_of c.args.sums.now) c.in-Like.other (block_of c.args.p.now c.args.branch.0) = rw c.in-Like.is at c.requires.found in
    k.0

pub known_like-requires-clause-like : goal.known_like-requires-clause-like
known_like-requires-clause-like c = rw c.in-Like.is at c.requires.found
