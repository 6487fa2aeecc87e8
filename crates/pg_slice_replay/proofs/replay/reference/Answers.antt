use Rattle.pg_region_accesses.specs.Accesses.{is_gated, summary_of}
use Rattle.pg_slice_replay.proofs.ToldLandmarks.{landmark_each, row_count}
use Rattle.pg_slice_replay.proofs.replay.reference.Goals as goal

pub returns-clause-landmarks : goal.returns-clause-landmarks
returns-clause-landmarks c = λ regions are n.
    landmark_each c.args.p.now c.in_ok-regions.regions.blocks.items c.in_ok-regions.regions.regions.items c.args.gated.now c.args.input.now c.args.t.now.steps c.in_ok-kept.kept.0.items
    c.in_ok-kept.kept.1.items c.in_ok-kept.ensures
    (is_gated c.args.gated.now) (summary_of c.args.sums.now) c.in_ok-regions.ensures.found c.in_ok-regions.ensures.sought regions are n

pub returns-clause-count : goal.returns-clause-count
returns-clause-count c = row_count c.args.p.now c.in_ok-regions.regions.blocks.items c.in_ok-regions.regions.regions.items c.args.gated.now c.args.input.now c.args.t.now.steps
    c.in_ok-kept.kept.0.items c.in_ok-kept.kept.1.items c.in_ok-kept.ensures
