use Rattle.std.proofs.Common.{length, sym, ap, ◌∙◌}
use Rattle.pg_read_ast.specs.Views.{ty_of, tree_of}
use Rattle.pg_check_constants.proofs.ScaleSteps.{written_count}
use Rattle.pg_check_program.proofs.index_operands.indices_at.Goals as goal

pub scaled_indices-requires-clause-lengths : goal.scaled_indices-requires-clause-lengths
scaled_indices-requires-clause-lengths c =
    sym (ap (λ xs. length xs) (c.as_slice.ensures.value ∙ c.in_ok-scales.ensures.scales)
    ∙ written_count (tree_of c.args.scope.now.globals.now.symbols.tree.now).types (ty_of c.args.ty.now) c.args.indices.now)
