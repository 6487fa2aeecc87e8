use Rattle.std.proofs.Common.{◌<◌, ◌+◌, ◌++◌, length, map, drop, refl, ap, ◌∙◌, arith}
use Rattle.pg_read_ast.specs.Views.{typed_of}
use Rattle.pg_check_rules.specs.Numbered.{indices_at}
use Rattle.pg_check_program.specs.ScopeNames.{scope_in}
use Rattle.pg_check_program.proofs.IndexLists.{index_step, indices_end}
use Rattle.pg_check_program.specs.ScopeSizes.{TypedIsSmall}
use Rattle.pg_check_program.proofs.BoundedNumbers.{one_fits}
use Rattle.pg_check_program.proofs.index_operands.scaled_indices.Goals as goal

pub index_at-requires : goal.index_at-requires
index_at-requires c =
    let l : c.loop-place.place < length c.args.indices.now = omega (arith, c.requires.lengths, c.loop-place-test.true) in
    record {
      value = one_fits (TypedIsSmall c.args.scope.now) typed_of c.args.indices.now c.loop-place.place c.index-indices-place.result _ c.requires.values l c.index-indices-place.is;
    }

pub loop-place-preserved : goal.loop-place-preserved
loop-place-preserved c = λ names.
    let g = scope_in c.args.scope.now names in
    ap (λ xs. xs ++ indices_at g (map typed_of (drop (c.loop-place.place + 1) c.args.indices.now)) (drop (c.loop-place.place + 1) c.args.scales.now)) c.in_ok-push.ensures.items
    ∙ index_step g c.loop-place.found.items c.in_ok-one.one c.args.indices.now c.args.scales.now c.loop-place.place c.index-indices-place.result _ _ _
    c.requires.lengths c.loop-place-test.true c.index-indices-place.is refl (c.in_ok-one.ensures.index names)
    ∙ c.loop-place.invariant names

pub returns : goal.returns
returns c = record {
  indices = λ names.
      indices_end (scope_in c.args.scope.now names) c.loop-place.found.items c.args.indices.now c.args.scales.now c.loop-place.place c.loop-place-test.false
      ∙ c.loop-place.invariant names;
}
