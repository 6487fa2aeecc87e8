use Rattle.pg_slice_replay.proofs.SoughtRegions.{added_known}
use Rattle.pg_slice_replay.proofs.seek.added.Goals as goal

pub returns-clause-known : goal.returns-clause-known
returns-clause-known c = λ gated sums d h r.
    added_known c.args.p.now gated sums c.args.region c.args.known.now.blocks.items c.args.known.now.regions.items c.in_ok-sought.sought c.add_region.new.regions.items d h c.in_ok-sought.ensures r
