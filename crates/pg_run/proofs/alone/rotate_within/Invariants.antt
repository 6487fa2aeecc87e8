use Rattle.pg_run.proofs.AloneSteps.{SoFar}
use Rattle.pg_run.proofs.alone.rotate_within.Given as goal

abbrev pub invariant-loop : goal.invariant-loop
invariant-loop l = SoFar l.p l.input l.q l.limit l.counter l.state l.share l.events
