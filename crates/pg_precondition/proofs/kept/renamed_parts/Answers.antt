use Rattle.std.proofs.Common.{arith, ap, ◌∙◌}
use Rattle.std.specs.Prelude.{slice_index, slice_set}
use Rattle.pg_precondition.proofs.RenamedNodes.{part_next}
use Rattle.pg_precondition.proofs.kept.renamed_parts.Goals as goal

pub loop-i-preserved : goal.loop-i-preserved
loop-i-preserved c =
    ap (λ v. slice_set c.loop-i.renamed c.loop-i.i v) c.place_of.ensures
    ∙ ap (λ r. slice_set r c.loop-i.i (slice_index c.args.places.now (slice_index c.args.parts c.loop-i.i))) c.loop-i.invariant
    ∙ part_next (slice_index c.args.places.now) c.loop-i.i c.args.parts (omega arith)
