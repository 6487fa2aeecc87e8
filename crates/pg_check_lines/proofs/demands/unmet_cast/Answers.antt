use Rattle.std.proofs.Common.{[], ◌∷◌}
use Rattle.pg_read_ast.specs.Views.{ty_of, typed_of}
use Rattle.pg_check_types.specs.Resolved.{resolved}
use Rattle.pg_check_rules.specs.Written.{asks, asks_typed, cast_from, cast_to}
use Rattle.pg_check_values.proofs.JoinedRows.{two_demands}
use Rattle.pg_check_lines.proofs.demands.unmet_cast.Goals as goal

pub returns : goal.returns
returns c = record {
  place =
      two_demands c.args.types.now.items
      (λ types. asks_typed (cast_from c.args.op) (typed_of c.args.value.now) ∷ [])
      (λ types. asks (cast_to c.args.op (resolved types (typed_of c.args.value.now).ty)) (ty_of c.args.ty.now) ∷ [])
      c.in_ok-source.source c.in_ok-target.target c.earlier.result c.in_ok-source.ensures.place c.in_ok-target.ensures.place c.earlier.ensures;
}
