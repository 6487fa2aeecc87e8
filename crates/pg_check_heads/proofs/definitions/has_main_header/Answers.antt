use Rattle.std.proofs.Common.{◌&&◌, [], map, sym, ap, ◌∙◌}
use Rattle.pg_read_ast.specs.Syntax.{Param, ParamOf}
use Rattle.pg_read_ast.specs.Views.{param_of}
use Rattle.pg_check_types.specs.NumberedTypes.{named_types}
use Rattle.pg_check_rules.specs.Conditions.{are_params}
use Rattle.pg_check_heads.proofs.definitions.has_main_header.Goals as goal

pub returns-then-branch : goal.returns-then-branch
returns-then-branch c = record {
  same =
      let types = named_types c.args.types.now in
      c.has_no_params.ensures types
      ∙ ap (λ ps. are_params types [] (map (λ (p : Param). ParamOf p) (map param_of ps))) c.as_slice.ensures.value
      ∙ ap (λ b. b && are_params types [] (map (λ (p : Param). ParamOf p) (map param_of c.args.item.now.params.items))) (sym c.if-branch.true ∙ c.in_ok-is_result.ensures.same);
}
