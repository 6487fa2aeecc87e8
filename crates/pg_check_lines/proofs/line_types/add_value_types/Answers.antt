use Rattle.pg_read_ast.specs.Syntax.{Typed}
use Rattle.pg_read_ast.specs.Views.{typed_of}
use Rattle.pg_check_rules.specs.Nodes.{ty_behind, tys_behind}
use Rattle.pg_check_rules.proofs.MappedLists.{mapped_all}
use Rattle.pg_check_lines.proofs.ListedParts.{listed_more}
use Rattle.pg_check_lines.proofs.line_types.add_value_types.Goals as goal

pub loop-value-preserved : goal.loop-value-preserved
loop-value-preserved c =
    listed_more ty_behind (λ (i : Typed). i.ty) typed_of (tys_behind c.args.all.now.items) c.args.values.now c.loop-value.value-index c.value-item.result _ c.loop-value.all.items _ _
    c.loop-value-test.true c.value-item.is c.loop-value.invariant c.value_type.ensures c.in_ok-push.ensures.items

pub returns : goal.returns
returns c = mapped_all (λ (i : Typed). i.ty) typed_of (tys_behind c.args.all.now.items) c.args.values.now c.loop-value.value-index
    (tys_behind c.loop-value.all.items) c.loop-value-test.false c.loop-value.invariant
