use Rattle.std.proofs.Common.{◌≡◌, ◌≤◌, ◌==◌, [], length, map, take, true}
use Rattle.std.specs.List.{list_all}
use Rattle.pg_session_book.specs.pg_run_trace.declared.step.Step.{Step}
use Rattle.pg_session_book.specs.pg_run_trace.Races.{with_gated}
use Rattle.pg_session_book.specs.pg_run_trace.Steps.{events}
use Rattle.pg_commands.proofs.turns.turns_of_main.Given as goal

abbrev pub invariant-loop-i : goal.invariant-loop-i
invariant-loop-i l = (l.count ≡ length (events (map (with_gated []) (take l.i l.trace.steps)))) × (l.count ≤ l.i)
    × (list_all (λ (x : Step). x.thread.0 == 0) (take l.i l.trace.steps) ≡ true)
