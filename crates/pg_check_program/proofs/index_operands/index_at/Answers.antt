use Rattle.pg_check_program.specs.ScopeNames.{scope_in}
use Rattle.pg_check_program.proofs.IndexLists.{index_made}
use Rattle.pg_check_program.proofs.index_operands.index_at.Goals as goal

pub returns : goal.returns
returns c = record {
  index = λ names.
      index_made (scope_in c.args.scope.now names) c.args.index.now c.args.scale c.in_ok-value.value c.in_ok-width.width (c.in_ok-value.ensures.value names) (c.in_ok-width.ensures.width names);
}
