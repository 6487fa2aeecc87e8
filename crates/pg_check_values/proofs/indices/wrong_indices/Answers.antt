use Rattle.std.proofs.Common.{length, ap, ◌∙◌}
use Rattle.pg_read_ast.specs.Views.{ty_of}
use Rattle.pg_check_types.specs.Resolved.{resolved}
use Rattle.pg_check_types.specs.NumberedTypes.{named_types}
use Rattle.pg_check_values.proofs.IndexSteps.{indices_found, number_count}
use Rattle.pg_check_values.proofs.indices.wrong_indices.Goals as goal

pub wrong_steps-requires-clause-same : goal.wrong_steps-requires-clause-same
wrong_steps-requires-clause-same c =
    ap (λ xs. length xs) (c.as_slice.ensures.value ∙ c.in_ok-chosen.ensures.numbers) ∙ number_count (named_types c.args.types.now) c.args.indices.now

pub returns : goal.returns
returns c = record {
  place =
      indices_found (named_types c.args.types.now) (ty_of c.args.ty.now) c.args.indices.now _ _ c.wrong_steps.result c.wrong_steps.ensures
      (c.as_slice.ensures.value ∙ c.in_ok-chosen.ensures.numbers)
      (c.in_ok-number.ensures.value ∙ ap (λ k. resolved (named_types k) (ty_of c.args.ty.now)) c.new-known.ensures);
}
