use Rattle.std.proofs.Common.{◌≡◌, ◌⊎◌}
use Rattle.pg_room.specs.pg_worker.Standing.{run_in, table_in}
use Rattle.pg_room.specs.pg_crew.Workers.{AreWorkers, counted, turns_between}
use Rattle.pg_rounds.specs.Turns.{HaveDone, HavePaused, IsOver, IsPast}
use Rattle.pg_rounds.proofs.run.go.Given as goal

abbrev pub invariant-loop : goal.invariant-loop
invariant-loop g l = record {
  workers : AreWorkers (run_in l.shared) (table_in l.shared) l.workers;
  paused : HavePaused (run_in l.shared) l.workers;
  done : HaveDone l.fn.workers l.workers;
  counts : g.C.Crew.turns l.crew ≡ counted (g.C.Crew.turns l.fn.crew) (turns_between l.fn.workers l.workers);
  past : IsOver l.shared.program.now l.workers ⊎ IsPast l.counter l.workers;
}
