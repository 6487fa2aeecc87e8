use Rattle.std.proofs.Common.{refl, sym, ◌∙◌}
use Rattle.pg_check_types.specs.Known.{denoted}
use Rattle.pg_check_types.specs.NumberedTypes.{table_of}
use Rattle.pg_check_values.proofs.IndexSteps.{step_found, step_end}
use Rattle.pg_check_values.proofs.indices.wrong_steps.Goals as goal

pub loop-place-preserved : goal.loop-place-preserved
loop-place-preserved c =
    let table = table_of c.args.types.now in
    record {
      within = c.step-step.ensures.within;
      whole =
          step_found (denoted table c.loop-place.current) (denoted table c.step-step.result.next) c.args.chosen.now c.args.indices.now c.loop-place.place _ _ c.index-indices-place.result
          c.index-indices-place.result
          c.loop-place.found c.step-step.result.place c.earlier-found.result _
          c.requires.same c.loop-place-test.true refl c.index-indices-place.is c.step-step.ensures.next c.step-step.ensures.place c.earlier-found.ensures c.loop-place.invariant.whole;
    }

pub returns : goal.returns
returns c =
    sym (step_end (denoted (table_of c.args.types.now) c.loop-place.current) c.args.chosen.now c.args.indices.now c.loop-place.place c.loop-place.found c.loop-place-test.false)
    ∙ c.loop-place.invariant.whole
