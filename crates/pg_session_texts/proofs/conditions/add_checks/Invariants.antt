use Rattle.std.specs.Prelude.{◌≡◌, ◌++◌, drop}
use Rattle.pg_session_texts.specs.ConditionTexts.{check_lines}
use Rattle.pg_session_texts.proofs.conditions.add_checks.Given as goal

-- the lines so far and those of the checks that are left are the lines of all
abbrev pub invariant-loop-check : goal.invariant-loop-check
invariant-loop-check l =
    l.text.items ++ check_lines (drop l.check-index l.checks) ≡ l.fn.text.items ++ check_lines l.checks
