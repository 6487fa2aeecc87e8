use Rattle.std.specs.Prelude.{◌≡◌, ◌++◌, drop}
use Rattle.pg_session_texts.specs.Shows.{turn_lines}
use Rattle.pg_session_texts.proofs.show.add_turns.Given as goal

-- the lines so far and those of the turns that are left are the lines of all
abbrev pub invariant-loop-i : goal.invariant-loop-i
invariant-loop-i l =
    l.text.items ++ turn_lines l.i (drop l.i l.turns) ≡ l.fn.text.items ++ turn_lines 0 l.turns
