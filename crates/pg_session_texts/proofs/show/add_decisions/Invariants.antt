use Rattle.std.specs.Prelude.{◌≡◌, ◌++◌, drop}
use Rattle.pg_session_texts.specs.Shows.{decision_lines}
use Rattle.pg_session_texts.proofs.show.add_decisions.Given as goal

-- the lines so far and those of the decisions that are left are the lines of all
abbrev pub invariant-loop-step : goal.invariant-loop-step
invariant-loop-step l =
    l.text.items ++ decision_lines l.word l.ids (drop l.step-index l.steps) ≡ l.fn.text.items ++ decision_lines l.word l.ids l.steps
