use Rattle.std.proofs.Common.{ap, ◌∙◌}
use Rattle.pg_read_ast.specs.Views.{ty_of}
use Rattle.pg_check_types.specs.NumberedTypes.{items_of, named_types}
use Rattle.pg_check_types.specs.Resolved.{resolved}
use Rattle.pg_check_constants.proofs.Sizes.{size_fits, written_fits}
use Rattle.pg_check_constants.proofs.global_rows.info_from.Goals as goal

pub size_or_none-size-requires-clause-fits : goal.size_or_none-size-requires-clause-fits
size_or_none-size-requires-clause-fits c =
    size_fits _ (written_fits _ _ (c.in_ok-number.ensures.value ∙ ap (λ k. resolved (named_types k) (ty_of c.args.item.now.ty)) c.new-known.ensures
    ∙ ap (λ its. resolved (items_of its) (ty_of c.args.item.now.ty)) c.args.globals.now.items) c.requires.fits.ty)

pub initial_bytes-requires-clause-ty : goal.initial_bytes-requires-clause-ty
initial_bytes-requires-clause-ty c =
    written_fits _ _ (c.in_ok-number.ensures.value ∙ ap (λ k. resolved (named_types k) (ty_of c.args.item.now.ty)) c.new-known.ensures
    ∙ ap (λ its. resolved (items_of its) (ty_of c.args.item.now.ty)) c.args.globals.now.items) c.requires.fits.ty
