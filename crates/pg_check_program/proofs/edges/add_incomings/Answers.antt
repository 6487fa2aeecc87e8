use Rattle.pg_read_ast.specs.Views.{ty_of, incoming_of}
use Rattle.pg_check_rules.specs.Numbered.{incoming_at}
use Rattle.pg_check_program.specs.ScopeNames.{scope_in}
use Rattle.pg_check_program.specs.ScopeSizes.{IncomingIsSmall}
use Rattle.pg_check_program.proofs.BoundedNumbers.{one_fits}
use Rattle.pg_check_rules.proofs.MappedLists.{mapped_more, mapped_all}
use Rattle.pg_check_program.proofs.edges.add_incomings.Goals as goal

pub incoming_at-requires : goal.incoming_at-requires
incoming_at-requires c = record {
  value =
      one_fits (IncomingIsSmall c.args.scope.now) incoming_of c.args.all.now c.loop-incoming.incoming-index c.incoming-item.result _ c.requires.values c.loop-incoming-test.true c.incoming-item.is;
}

pub loop-incoming-preserved : goal.loop-incoming-preserved
loop-incoming-preserved c = λ names.
    mapped_more (incoming_at (scope_in c.args.scope.now names) c.args.scope.now.first (ty_of c.args.ty.now)) incoming_of c.args.found.now.items c.args.all.now c.loop-incoming.incoming-index
    c.incoming-item.result _ c.loop-incoming.found.items _ c.in_ok-one.one
    c.loop-incoming-test.true c.incoming-item.is (c.loop-incoming.invariant names) (c.in_ok-one.ensures.incoming names) c.in_ok-push.ensures.items

pub returns : goal.returns
returns c = record {
  incomings = λ names.
      mapped_all (incoming_at (scope_in c.args.scope.now names) c.args.scope.now.first (ty_of c.args.ty.now)) incoming_of c.args.found.now.items c.args.all.now c.loop-incoming.incoming-index
      c.loop-incoming.found.items c.loop-incoming-test.false (c.loop-incoming.invariant names);
}
