use Rattle.std.proofs.Common.{◌≡◌, ◌++◌, OnOk, sym, subst}
use Rattle.pg_read_ast.specs.Views.{ty_of}
use Rattle.pg_check_rules.specs.Nodes.{tys_behind}
use Rattle.pg_check_lines.specs.declared.operands.UseNode.{UseNode}
use Rattle.pg_check_lines.specs.Uses.{use_of, type_row, row_within}
use Rattle.pg_check_lines.proofs.line_types.add_use_types.Goals as goal

pub returns-in-Value : goal.returns-in-Value
returns-in-Value c =
    let P : UseNode → Type 0 = λ u. OnOk c.add_own_types.result (tys_behind c.add_own_types.new.all.items ≡ tys_behind c.args.all.now.items ++ row_within type_row (use_of u)) in
    subst P (sym c.in-Value.is) (c.add_own_types.ensures c.in-Value.field-0 (ty_of c.in-Value.field-1.now))
