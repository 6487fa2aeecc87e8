use Rattle.std.proofs.Common.{◌∙◌}
use Rattle.pg_read_ast.specs.Views.{ty_of}
use Rattle.pg_check_types.specs.Resolved.{resolved}
use Rattle.pg_check_types.specs.NumberedTypes.{named_types}
use Rattle.pg_check_names.proofs.Voids.{void_part_is}
use Rattle.pg_check_names.proofs.results.is_void.Goals as goal

pub returns : goal.returns
returns c = record {
  same =
      let types = named_types c.args.types.now in
      let ty = ty_of c.args.ty.now in
      c.is_void_kind.ensures (resolved types ty) c.in_ok-kind.ensures.kind ∙ void_part_is types ty;
}
