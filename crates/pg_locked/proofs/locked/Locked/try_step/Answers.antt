use Rattle.pg_locked.proofs.LockedSteps.{answers}
use Rattle.pg_locked.proofs.locked.Locked.try_step.Goals as goal

pub returns-in-Err : goal.returns-in-Err
returns-in-Err g c = record { answer = answers g.J.Named.run c.args.t.0 c.args.self.now c.in-Err.why c.in-Err.ensures.refused }
