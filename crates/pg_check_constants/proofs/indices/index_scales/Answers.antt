use Rattle.std.proofs.Common.{ap, ◌∙◌}
use Rattle.pg_read_ast.specs.Views.{ty_of}
use Rattle.pg_check_types.specs.NumberedTypes.{named_types}
use Rattle.pg_check_types.specs.Resolved.{resolved}
use Rattle.pg_check_constants.proofs.Sizes.{size_fits, written_fits}
use Rattle.pg_check_constants.proofs.indices.index_scales.Goals as goal

pub size_or_none-size-requires-clause-fits : goal.size_or_none-size-requires-clause-fits
size_or_none-size-requires-clause-fits c =
    size_fits _ (written_fits _ _ (c.in_ok-number.ensures.value ∙ ap (λ k. resolved (named_types k) (ty_of c.args.ty.now)) c.new-known.ensures) c.requires)

pub scales_within-requires-clause-fits : goal.scales_within-requires-clause-fits
scales_within-requires-clause-fits c =
    written_fits _ _ (c.in_ok-number.ensures.value ∙ ap (λ k. resolved (named_types k) (ty_of c.args.ty.now)) c.new-known.ensures) c.requires
