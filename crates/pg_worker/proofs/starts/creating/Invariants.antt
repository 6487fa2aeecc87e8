use Rattle.std.proofs.Common.{◌≡◌, drop}
use Rattle.std.specs.List.{find}
use Rattle.pg_seats.specs.pg_law_course.Threads.{creates}
use Rattle.pg_worker.proofs.starts.creating.Given as goal

abbrev pub invariant-loop-turn : goal.invariant-loop-turn
invariant-loop-turn l = find (creates l.thread.0) l.turns ≡ find (creates l.thread.0) (drop l.turn-index l.turns)
