use Rattle.std.proofs.Common.{[]}
use Rattle.pg_read_ast.specs.Views.{typed_of}
use Rattle.pg_check_rules.specs.Numbered.{typed_value}
use Rattle.pg_check_program.specs.ScopeNames.{scope_in}
use Rattle.pg_check_program.specs.ScopeSizes.{TypedIsSmall}
use Rattle.pg_check_program.proofs.BoundedNumbers.{one_fits}
use Rattle.pg_check_rules.proofs.MappedLists.{mapped_more, mapped_all}
use Rattle.pg_check_program.proofs.operands.values_at.Goals as goal

pub typed_value-requires : goal.typed_value-requires
typed_value-requires c = record {
  value = one_fits (TypedIsSmall c.args.scope.now) typed_of c.args.values.now c.loop-value.value-index c.value-item.result _ c.requires.values c.loop-value-test.true c.value-item.is;
}

pub loop-value-preserved : goal.loop-value-preserved
loop-value-preserved c = λ names.
    mapped_more (typed_value (scope_in c.args.scope.now names)) typed_of [] c.args.values.now c.loop-value.value-index c.value-item.result _ c.loop-value.found.items _ c.in_ok-one.one
    c.loop-value-test.true c.value-item.is (c.loop-value.invariant names) (c.in_ok-one.ensures.value names) c.in_ok-push.ensures.items

pub returns : goal.returns
returns c = record {
  values = λ names.
      mapped_all (typed_value (scope_in c.args.scope.now names)) typed_of [] c.args.values.now c.loop-value.value-index c.loop-value.found.items c.loop-value-test.false (c.loop-value.invariant names);
}
