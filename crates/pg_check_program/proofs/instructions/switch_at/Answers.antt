use Rattle.pg_ir.specs.declared.instr.Op.TheVariants as operation
use Rattle.std.proofs.Common.{map, sym, ap, ◌∙◌}
use Rattle.pg_read_ast.specs.Views.{case_of}
use Rattle.pg_check_rules.specs.Numbered.{case_at}
use Rattle.pg_check_program.specs.ScopeNames.{scope_in}
use Rattle.pg_check_program.proofs.TypedValues.{typed_ty}
use Rattle.pg_check_program.proofs.EqualParts.{same_four}
use Rattle.pg_check_program.proofs.instructions.switch_at.Goals as goal

pub returns : goal.returns
returns c = record {
  op = λ names.
      same_four (λ w v b k. operation.Switch w v b k) (c.in_ok-width.ensures.width names) (c.in_ok-on.ensures.value names) (c.block_at-other.ensures names)
      (c.from_vec-cases.ensures.items ∙ c.in_ok-found.ensures.cases names
      ∙ ap (λ t. map (case_at (scope_in c.args.scope.now names) c.args.scope.now.first t) (map case_of c.args.cases.now)) (sym (typed_ty c.args.value.now)));
}
