use Rattle.std.specs.Prelude.{◌≡◌, ◌++◌, drop}
use Rattle.pg_session_texts.specs.ConditionTexts.{value_lines}
use Rattle.pg_session_texts.proofs.conditions.add_values.Given as goal

-- the lines so far and those of the nodes that are left are the lines of all
abbrev pub invariant-loop-i : goal.invariant-loop-i
invariant-loop-i l =
    l.text.items ++ value_lines l.i (drop l.i l.nodes) ≡ l.fn.text.items ++ value_lines 0 l.nodes
