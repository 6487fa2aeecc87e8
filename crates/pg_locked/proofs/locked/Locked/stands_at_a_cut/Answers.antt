use Rattle.std.proofs.Common.{subst}
use Rattle.pg_locked.specs.Standing.{StandsAtCut}
use Rattle.pg_locked.proofs.LockedSteps.{stands}
use Rattle.pg_locked.proofs.locked.Locked.stands_at_a_cut.Goals as goal

pub returns : goal.returns
returns g c =
    let l = c.self.inside in
    record { cut = subst (StandsAtCut g.J.Named.run) c.self.view_is (stands g.J.Named.run l.program.now l.schedule.now l.machine l.taken.items l.done c.self.invariant) }
