use Rattle.std.proofs.Common.{◌≡◌, ◌≤◌, length, map, take}
use Rattle.pg_session_book.specs.pg_run_trace.Races.{with_gated}
use Rattle.pg_session_book.specs.pg_run_trace.Steps.{events}
use Rattle.pg_commands.proofs.turns.count_turns.Given as goal

abbrev pub invariant-loop-i : goal.invariant-loop-i
invariant-loop-i l = (l.count ≡ length (events (map (with_gated l.gated) (take l.i l.trace.steps)))) × (l.count ≤ l.i)
