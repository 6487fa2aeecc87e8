use Rattle.std.proofs.Common.{◌++◌, sym, ap, ◌∙◌}
use Rattle.pg_check_rules.specs.Nodes.{tys_behind}
use Rattle.pg_check_lines.specs.Uses.{uses_of, type_row, row_within}
use Rattle.pg_check_lines.proofs.UseRows.{rows_within, uses_done}
use Rattle.pg_check_lines.proofs.line_types.add_all_use_types.Goals as goal

pub returns : goal.returns
returns c =
    sym (uses_done (row_within type_row) (tys_behind c.loop-one.all.items) c.args.uses.now c.loop-one.one-index c.loop-one-test.false)
    ∙ c.loop-one.invariant
    ∙ ap (λ ts. tys_behind c.args.all.now.items ++ ts) (rows_within type_row (uses_of c.args.uses.now))
