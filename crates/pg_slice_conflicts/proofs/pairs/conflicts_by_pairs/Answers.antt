use Rattle.std.proofs.Common.{◌∷◌, [], ◌++◌, ap, ◌∙◌}
use Rattle.pg_slice_conflicts.specs.Meets.{is_met}
use Rattle.pg_slice_conflicts.proofs.ListWalks.{mapped_more}
use Rattle.pg_slice_conflicts.proofs.pairs.conflicts_by_pairs.Goals as goal

pub loop-i-preserved : goal.loop-i-preserved
loop-i-preserved c =
    c.in_ok-push.ensures.items ∙ ap (λ b. c.loop-i.met.items ++ b ∷ []) c.is_met.ensures
    ∙ mapped_more (is_met c.args.footprints.now) c.args.footprints.now c.loop-i.i c.footprint_at.result c.loop-i.met.items c.footprint_at.ensures c.loop-i.invariant
