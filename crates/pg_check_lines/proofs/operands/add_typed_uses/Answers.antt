use Rattle.pg_read_ast.specs.Views.{typed_of}
use Rattle.pg_check_rules.specs.Written.{typed_operand}
use Rattle.pg_check_lines.specs.Uses.{use_of, uses_of}
use Rattle.pg_check_rules.proofs.MappedLists.{mapped_all}
use Rattle.pg_check_lines.proofs.ListedParts.{listed_more}
use Rattle.pg_check_lines.proofs.operands.add_typed_uses.Goals as goal

pub loop-value-preserved : goal.loop-value-preserved
loop-value-preserved c =
    listed_more use_of typed_operand typed_of (uses_of c.args.all.now.items) c.args.values.now c.loop-value.value-index c.value-item.result _ c.loop-value.all.items _ _
    c.loop-value-test.true c.value-item.is c.loop-value.invariant c.typed_use.ensures c.in_ok-push.ensures.items

pub returns : goal.returns
returns c = mapped_all typed_operand typed_of (uses_of c.args.all.now.items) c.args.values.now c.loop-value.value-index (uses_of c.loop-value.all.items) c.loop-value-test.false c.loop-value.invariant
