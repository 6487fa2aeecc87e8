use Rattle.std.proofs.Common.{◌+◌, ap, ◌∙◌}
use Rattle.pg_ir.specs.WellFormed.{granules_for}
use Rattle.pg_read_ast.specs.Views.{ty_of}
use Rattle.pg_check_types.specs.Resolved.{resolved}
use Rattle.pg_check_types.specs.Layout.{size_or_none}
use Rattle.pg_check_types.specs.NumberedTypes.{named_types}
use Rattle.pg_check_heads.specs.Ends.{ended}
use Rattle.pg_check_heads.proofs.GlobalEnds.{ended_second}
use Rattle.pg_check_heads.proofs.global_ends.end_after.Goals as goal

pub returns : goal.returns
returns c = record {
  count =
      c.sum_of.ensures
      ∙ ap (λ n. ended (c.args.start + n)) c.in_ok-size.ensures.count
      ∙ ended_second c.args.start (granules_for (size_or_none (resolved (named_types c.args.types.now) (ty_of c.args.ty.now))));
}
