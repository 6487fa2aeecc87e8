use Rattle.std.proofs.Common.{◌<◌, ◌≤◌, min, length, refl, arith, ap, ◌∙◌}
use Rattle.std.specs.List.{flat_map}
use Rattle.pg_read_ast.specs.Views.{typed_of}
use Rattle.pg_check_types.specs.NumberedTypes.{named_types}
use Rattle.pg_check_rules.specs.Nodes.{ty_behind}
use Rattle.pg_check_rules.specs.Earliest.{earliest}
use Rattle.pg_check_rules.specs.TypeConditions.{unmet}
use Rattle.pg_check_calls.proofs.Arguments.{demands_step, demands_whole}
use Rattle.pg_check_calls.proofs.calls.argument_demands.Goals as goal

pub loop-place-init : goal.loop-place-init
unfolding earliest
loop-place-init c = refl

pub loop-place-preserved : goal.loop-place-preserved
loop-place-preserved c =
    let ps = c.args.params.now in
    let all = c.args.arguments.now in
    let place = c.loop-place.place in
    let p = c.index-params-place.result in
    let a = c.index-arguments-place.result in
    let k : place < length ps = omega (arith, c.loop-place-test.true, c.min-place-end.ensures) in
    let l : place < length all = omega (arith, c.loop-place-test.true, c.min-place-end.ensures) in
    let own = c.in_ok-own.ensures.place in
    demands_step (named_types c.args.types.now) ty_behind typed_of ps all place p a c.loop-place.found c.in_ok-own.own c.earlier-found.result
    k l c.index-params-place.is c.index-arguments-place.is c.loop-place.invariant own c.earlier-found.ensures

pub returns : goal.returns
returns c = record {
  place =
      let types = named_types c.args.types.now in
      let ps = c.args.params.now in
      let all = c.args.arguments.now in
      let place = c.loop-place.place in
      let done : min (length ps) (length all) ≤ place = omega (arith, c.loop-place-test.false, c.min-place-end.ensures) in
      c.loop-place.invariant ∙ ap (λ ds. earliest (flat_map (unmet types) ds)) (demands_whole types ty_behind typed_of ps all place done);
}
