use Rattle.std.proofs.Common.{◌≡◌, IfOk, sym, subst}
use Rattle.pg_check_rules.specs.Numbered.{type_in, width_in}
use Rattle.pg_check_program.specs.ScopeNames.{scope_in}
use Rattle.pg_check_program.proofs.TypedValues.{typed_ty}
use Rattle.pg_check_program.proofs.operands.typed_width.Goals as goal

pub returns : goal.returns
returns c = record {
  width = λ names.
      subst (λ t. IfOk c.width_at.result (λ w. w ≡ width_in (type_in (scope_in c.args.scope.now names) t))) (sym (typed_ty c.args.value.now)) (c.width_at.ensures.width names);
}
