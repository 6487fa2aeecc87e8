use Rattle.std.proofs.Common.{ap, ◌∙◌, sym, ◌∷◌, [], subst, true, false, ◌≡◌}
use Rattle.pg_precondition.specs.declared.check.Test.TheVariants as test
use Rattle.pg_slice_memory.specs.pg_slice_rules.Rules.{Value, edge_tests, is_case}
use Rattle.pg_slice_memory.specs.pg_slice_values.SymbolicNodes.{symbolic_by}
use Rattle.pg_slice_checks.specs.Asks.{Adds}
use Rattle.pg_slice_checks.proofs.AskedByCases.{case_tests, default_tests, other_tests}
use Rattle.pg_slice_checks.proofs.step.branch_needs.Goals as goal
use Rattle.pg_slice_checks.proofs.step.branch_needs.Goals.{in-Switch+else-not-is_case, in_default}

pub returns-then-not-is_case : goal.returns-then-not-is_case
returns-then-not-is_case c = λ ns h.
    let other : is_case c.args.condition c.in-Switch.cases ≡ false = ap (λ l. is_case c.args.condition l) (sym c.as_slice.ensures.items) ∙ sym c.is_case.ensures ∙ c.if-not-is_case.true in
    rw c.in-Switch.is (subst (λ ts. Adds ns (Value (symbolic_by ns c.args.on) ts ∷ []) c.args.asked.now c.need_none.new.self)
    (sym (default_tests c.in-Switch.width c.in-Switch.on c.in-Switch.other c.in-Switch.cases c.args.condition other))
    (rw c.as_slice-then-not-is_case.ensures.items at (c.in_ok-need_none.ensures ns h)))

pub returns : goal.returns
returns c = λ ns h.
    let tests : edge_tests c.args.op.now c.args.condition ≡ test.Eq c.args.condition ∷ [] = elim c.match-op.branch [
      | in-Switch+else-not-is_case w ↦
          let one : is_case c.args.condition w.in-Switch.cases ≡ true = ap (λ l. is_case c.args.condition l) (sym w.as_slice.ensures.items) ∙ sym w.is_case.ensures ∙ w.if-not-is_case.false in
          ap (λ o. edge_tests o c.args.condition) w.in-Switch.is ∙ case_tests w.in-Switch.width w.in-Switch.on w.in-Switch.other w.in-Switch.cases c.args.condition one
      | in_default w ↦ other_tests c.args.op.now c.args.condition w.in_default.not-Switch
    ] in
    subst (λ ts. Adds ns (Value (symbolic_by ns c.args.on) ts ∷ []) c.args.asked.now c.need_value.new.self) (sym tests) (c.in_ok-need_value.ensures ns h)
