use Rattle.std.proofs.Common.{◌≤◌}
use Rattle.pg_io.specs.Faults.{Rose}
use Rattle.pg_free.specs.Crews.{AreWorkers}
use Rattle.pg_free.proofs.record.rounds.Given as goal

abbrev pub invariant-loop : goal.invariant-loop
invariant-loop g l = record {
  workers : AreWorkers l.workers;
  counts : Rose (g.C.FreeCrew.rounds l.fn.crew) (g.C.FreeCrew.rounds l.crew);
  never_falls : g.C.FreeCrew.rounds l.fn.crew ≤ g.C.FreeCrew.rounds l.crew;
}
