use Rattle.std.proofs.Common.{[], Some, ◌&&◌, sym, ap, ◌∙◌}
use Rattle.std.specs.Str.{bytes_eq}
use Rattle.pg_num.specs.declared.width.Width.TheVariants.{W32}
use Rattle.pg_ir.specs.declared.value.Scalar.TheVariants.{Int}
use Rattle.pg_read_ast.specs.Views.{declare_of}
use Rattle.pg_check_types.specs.NumberedTypes.{named_types}
use Rattle.pg_check_types.proofs.Resolutions.{if_ok}
use Rattle.pg_check_rules.specs.CallConditions.{declaration_header}
use Rattle.pg_check_rules.specs.Conditions.{main_name, declares_other}
use Rattle.pg_check_heads.proofs.heads.declares_other_main.Goals as goal

pub returns-then-is_main : goal.returns-then-is_main
returns-then-is_main c = record {
  same =
      let other = declares_other (named_types c.args.types.now) [] (Some (Int W32)) (declaration_header (declare_of c.args.item.now)) in
      if_ok c.declares_other.result
      (λ b h. h ∙ ap (λ t. t && other) (sym c.if-is_main.true ∙ c.is_main.ensures ∙ ap (λ t. bytes_eq t main_name) c.as_slice.ensures))
      c.declares_other.ensures.same;
}

pub returns-else-is_main : goal.returns-else-is_main
returns-else-is_main c = record {
  same =
      let other = declares_other (named_types c.args.types.now) [] (Some (Int W32)) (declaration_header (declare_of c.args.item.now)) in
      ap (λ t. t && other) (sym c.if-is_main.false ∙ c.is_main.ensures ∙ ap (λ t. bytes_eq t main_name) c.as_slice.ensures);
}
