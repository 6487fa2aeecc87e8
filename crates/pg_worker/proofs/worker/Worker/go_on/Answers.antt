use Rattle.std.proofs.Common.{subst}
use Rattle.pg_worker.specs.declared.worker.Taken.{Taken}
use Rattle.pg_worker.specs.Standing.{HasDone, run_in}
use Rattle.pg_worker.proofs.Segments.{spent_pauses, trap_pauses, waiting_pauses}
use Rattle.pg_worker.proofs.worker.Worker.go_on.Goals as goal

pub returns-then-self-eq0-clause-paused : goal.returns-then-self-eq0-clause-paused
returns-then-self-eq0-clause-paused g c = spent_pauses (run_in c.args.shared.now) c.args.self.now c.requires.turn c.if-self-eq0.true

pub returns-in-Step-clause-steps : goal.returns-in-Step-clause-steps
returns-in-Step-clause-steps g c = subst (λ (x : Taken). HasDone (run_in c.args.shared.now) x c.args.self.now c.step.new.self) c.in-Step.is c.step.ensures.done

pub returns-in-Waits-clause-paused : goal.returns-in-Waits-clause-paused
returns-in-Waits-clause-paused g c = waiting_pauses (run_in c.args.shared.now) c.args.self.now c.step.new.self c.requires.turn
    (subst (λ (x : Taken). HasDone (run_in c.args.shared.now) x c.args.self.now c.step.new.self) c.in-Waits.is c.step.ensures.done)

pub returns-in-Traps-clause-paused : goal.returns-in-Traps-clause-paused
returns-in-Traps-clause-paused g c = trap_pauses (run_in c.args.shared.now) c.args.self.now c.step.new.self c.requires.turn
    (subst (λ (x : Taken). HasDone (run_in c.args.shared.now) x c.args.self.now c.step.new.self) c.in-Traps.is c.step.ensures.done)
