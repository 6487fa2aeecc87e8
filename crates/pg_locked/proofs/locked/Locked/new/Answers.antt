use Rattle.std.proofs.Common.{sym}
use Rattle.pg_locked.proofs.LockedSteps.{first}
use Rattle.pg_locked.proofs.locked.Locked.new.Goals as goal

pub invariant_of-result : goal.invariant_of-result
invariant_of-result g c = first g.J.Named.run c.args.program.now c.args.schedule.now c.args.input.now c.as_slice.result.now c.in_ok-machine.machine c.in_ok-taken.taken.items
    (sym c.requires.named) c.requires.can c.requires.good c.in_ok-machine.ensures.state c.as_slice.ensures.items c.in_ok-machine.ensures.of
    (c.in_ok-taken.ensures.items_if_clones_equal (λ y q. q))
