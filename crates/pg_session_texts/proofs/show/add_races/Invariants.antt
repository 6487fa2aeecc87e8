use Rattle.std.specs.Prelude.{◌≡◌, ◌++◌, drop}
use Rattle.pg_session_texts.specs.Shows.{race_lines}
use Rattle.pg_session_texts.proofs.show.add_races.Given as goal

-- the lines so far and those of the races that are left are the lines of all
abbrev pub invariant-loop-race : goal.invariant-loop-race
invariant-loop-race l =
    l.text.items ++ race_lines (drop l.race-index l.races) ≡ l.fn.text.items ++ race_lines l.races
