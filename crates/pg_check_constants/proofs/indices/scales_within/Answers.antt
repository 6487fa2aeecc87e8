use Rattle.std.proofs.Common.{◌++◌, ◌+◌, drop, refl, ap, ◌∙◌}
use Rattle.pg_check_types.specs.Known.{denoted}
use Rattle.pg_check_types.specs.NumberedTypes.{table_of}
use Rattle.pg_check_constants.specs.Indices.{scales_within}
use Rattle.pg_check_constants.proofs.ScaleSteps.{scale_step, scales_end}
use Rattle.pg_check_constants.proofs.Sizes.{inner_fits, written_fits}
use Rattle.pg_check_constants.proofs.indices.scales_within.Goals as goal

pub loop-index-preserved : goal.loop-index-preserved
loop-index-preserved c =
    let table = table_of c.args.types.now in
    let next = denoted table c.step-step.result.next in
    record {
      within = c.step-step.ensures.within;
      fits = written_fits next _ c.step-step.ensures.next (inner_fits (denoted table c.loop-index.current) _ c.loop-index.invariant.fits);
      whole =
          ap (λ ss. ss ++ scales_within next (drop (c.loop-index.index-index + 1) c.args.indices.now)) c.in_ok-push.ensures.items
          ∙ scale_step (denoted table c.loop-index.current) next c.loop-index.scales.items c.step-step.result.scale c.args.indices.now c.loop-index.index-index _ _
          c.loop-index-test.true refl c.step-step.ensures.scale c.step-step.ensures.next
          ∙ c.loop-index.invariant.whole;
    }

pub returns : goal.returns
returns c =
    scales_end (denoted (table_of c.args.types.now) c.loop-index.current) c.loop-index.scales.items c.args.indices.now c.loop-index.index-index c.loop-index-test.false
    ∙ c.loop-index.invariant.whole
