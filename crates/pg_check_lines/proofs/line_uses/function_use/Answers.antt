use Rattle.std.proofs.Common.{◌≡◌, sym, subst}
use Rattle.pg_read_ast.specs.Views.{ty_of}
use Rattle.pg_check_rules.specs.Earliest.{earliest}
use Rattle.pg_check_lines.specs.declared.operands.UseNode.{UseNode}
use Rattle.pg_check_lines.specs.Uses.{use_of, function_row, row_within}
use Rattle.pg_check_lines.proofs.line_uses.function_use.Goals as goal

pub returns-in-Value : goal.returns-in-Value
returns-in-Value c = λ g s.
    let P : UseNode → Type 0 = λ u. c.function_values.result ≡ earliest (row_within (function_row g) (use_of u)) in
    subst P (sym c.in-Value.is) (c.function_values.ensures g c.in-Value.field-0 (ty_of c.in-Value.field-1.now) s.values)
