use Rattle.pg_check_types.specs.NumberedTypes.{named_types}
use Rattle.pg_check_rules.specs.Numbered.{scalar_in}
use Rattle.pg_check_names.specs.Registers.{register_type}
use Rattle.pg_check_program.proofs.Scalars.{kept_step, kept_all}
use Rattle.pg_check_program.proofs.function_rows.register_scalars.Goals as goal

pub loop-place-preserved : goal.loop-place-preserved
loop-place-preserved c =
    kept_step (λ t. scalar_in (register_type (named_types c.args.types.now) t)) c.args.all.now c.loop-place.place c.index-all-place.result _ c.loop-place.found.items _ c.in_ok-one.one
    c.loop-place-test.true c.index-all-place.is
    c.in_ok-push_some.ensures c.loop-place.invariant
    (c.in_ok-one.ensures.scalar)

pub returns : goal.returns
returns c = record {
  scalars =
      kept_all (λ t. scalar_in (register_type (named_types c.args.types.now) t)) c.args.all.now c.loop-place.place c.loop-place.found.items c.loop-place-test.false c.loop-place.invariant;
}
