use Rattle.std.proofs.Common.{◌≡◌, ◌++◌, drop}
use Rattle.pg_seats.specs.pg_law_runs.Deeds.{owners_of}
use Rattle.pg_seats.specs.pg_law_course.Course.{turns_from, turns_of}
use Rattle.pg_worker.proofs.turn_lists.turns_of.Given as goal

abbrev pub invariant-loop-number : goal.invariant-loop-number
invariant-loop-number l = turns_of l.thread.0 l.turns ≡ l.numbers.items ++ turns_from l.thread.0 l.number (owners_of (drop l.number l.turns))
