use Rattle.std.proofs.Common.{◌&&◌, not, sym, ap, ◌∙◌}
use Rattle.pg_read_ast.specs.Views.{declare_of}
use Rattle.pg_check_types.specs.NumberedTypes.{named_types}
use Rattle.pg_check_rules.specs.CallConditions.{declaration_header}
use Rattle.pg_check_rules.specs.Conditions.{has_header, head_types}
use Rattle.pg_check_heads.proofs.heads.declares_other.Goals as goal

pub returns-in_ok-same : goal.returns-in_ok-same
returns-in_ok-same c = record {
  same =
      let types = named_types c.args.types.now in
      let header = declaration_header (declare_of c.args.item.now) in
      ap (λ b. not b) c.in_ok-same.ensures.same
      ∙ ap (λ t. t && not (has_header types c.args.scalars.now c.args.returned header)) (sym c.if-types_exist.true ∙ c.types_exist.ensures (head_types header) c.requires);
}

pub returns-else-types_exist : goal.returns-else-types_exist
returns-else-types_exist c = record {
  same =
      let types = named_types c.args.types.now in
      let header = declaration_header (declare_of c.args.item.now) in
      ap (λ t. t && not (has_header types c.args.scalars.now c.args.returned header)) (sym c.if-types_exist.false ∙ c.types_exist.ensures (head_types header) c.requires);
}
