use Rattle.std.proofs.Common.{ap, ◌∙◌}
use Rattle.pg_read_ast.specs.Views.{ty_of}
use Rattle.pg_check_types.specs.NumberedTypes.{items_of, named_types}
use Rattle.pg_check_types.specs.Resolved.{resolved}
use Rattle.pg_check_constants.proofs.Sizes.{size_fits, written_fits}
use Rattle.pg_check_program.proofs.operands.size_at.Goals as goal

pub size_or_none-requires-clause-fits : goal.size_or_none-requires-clause-fits
size_or_none-requires-clause-fits c =
    size_fits _ (written_fits _ _ (c.in_ok-number.ensures.value ∙ ap (λ k. resolved (named_types k) (ty_of c.args.ty.now)) c.new-known.ensures
    ∙ ap (λ its. resolved (items_of its) (ty_of c.args.ty.now)) c.args.scope.now.globals.now.items) c.requires.ty)
