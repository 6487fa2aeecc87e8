use Rattle.std.proofs.Common.{◌≡◌, [], drop, true, length, rules, arith, sym, ap, ◌∙◌}
use Rattle.pg_read_ast.specs.Views.{ty_of}
use Rattle.pg_check_types.specs.NumberedTypes.{named_types}
use Rattle.pg_check_rules.specs.CallConditions.{fits_params}
use Rattle.pg_check_calls.specs.Headers.{param_behind, params_behind}
use Rattle.pg_check_calls.proofs.Params.{fits_step, fits_end}
use Rattle.pg_check_calls.proofs.calls.fits_params.Goals as goal

pub loop-place-preserved : goal.loop-place-preserved
loop-place-preserved c =
    let place = c.loop-place.place in
    let ty = c.index-written-place.result in
    let passed : true ≡ c.in_ok-agrees_at.field-0 = search rules in
    let agrees = passed ∙ c.in_ok-agrees_at.ensures.same in
    sym (fits_step (named_types c.args.types.now) param_behind ty_of c.args.params.now c.args.written.now place ty c.args.dots c.loop-place-test.true c.index-written-place.is agrees)
    ∙ c.loop-place.invariant

pub returns : goal.returns
returns c = record {
  same =
      let types = named_types c.args.types.now in
      let place = c.loop-place.place in
      let qs = params_behind (drop place c.args.params.now) in
      let all : place ≡ length c.args.written.now = omega arith in
      c.ends_at.ensures types
      ∙ ap (λ n. fits_params types (params_behind (drop n c.args.params.now)) [] c.args.dots) (sym all)
      ∙ sym (fits_end types ty_of qs c.args.written.now place c.args.dots c.loop-place-test.false)
      ∙ c.loop-place.invariant;
}
