use Rattle.std.proofs.Common.{true}
use Rattle.pg_read_ast.specs.Views.{ty_of}
use Rattle.pg_check_rules.specs.Nodes.{tys_behind}
use Rattle.pg_check_heads.specs.Initialisers.{use_behind, own_row}
use Rattle.pg_check_values.proofs.TypeRows.{row_added}
use Rattle.pg_check_heads.proofs.initialiser_rows.add_use_types.Goals as goal

pub loop-one-preserved : goal.loop-one-preserved
loop-one-preserved c =
    row_added own_row use_behind c.args.uses.now c.loop-one.one-index c.one-item.result c.one-item.result (tys_behind c.args.all.now.items) (tys_behind c.loop-one.all.items) _
    c.loop-one-test.true c.one-item.is c.loop-one.invariant (c.in_ok-add_own_types.ensures true (ty_of c.one-item.result.ty.now))
