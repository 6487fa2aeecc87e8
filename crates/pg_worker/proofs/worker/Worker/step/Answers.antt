use Rattle.std.proofs.Common.{◌-◌, ◌∙◌, ap, refl, subst, sym, arith}
use Rattle.pg_seats.specs.pg_run_thread.Step.{next}
use Rattle.pg_worker.specs.declared.worker.Worker.{Worker}
use Rattle.pg_worker.specs.Standing.{HasDone, IsAt, run_in, table_in}
use Rattle.pg_worker.proofs.PlainSteps.{local_at, took}
use Rattle.pg_worker.proofs.Segments.{done_own, same_fiber}
use Rattle.pg_worker.proofs.worker.Worker.step.Goals as goal

pub asked-requires-clause-at : goal.asked-requires-clause-at
asked-requires-clause-at c = subst (IsAt (run_in c.args.shared.now) (table_in c.args.shared.now) 0) (sym (same_fiber c.args.self.now c.ask.new.fiber c.in-Some.ensures.asks.0)) c.requires.at

pub asked-requires-clause-next : goal.asked-requires-clause-next
asked-requires-clause-next c = ap (next c.args.shared.now.program.now) c.in-Some.ensures.asks.0 ∙ sym c.in-Some.ensures.asks.1

pub returns-in-Some-clause-done : goal.returns-in-Some-clause-done
returns-in-Some-clause-done c = subst (λ (w : Worker). HasDone (run_in c.args.shared.now) c.asked.result w c.asked.new.self) (same_fiber c.args.self.now c.ask.new.fiber c.in-Some.ensures.asks.0) c.asked.ensures.done

pub returns-in-None-clause-at : goal.returns-in-None-clause-at
returns-in-None-clause-at c = local_at (run_in c.args.shared.now) (table_in c.args.shared.now) c.args.self.now c.requires.at c.requires.left c.requires.turn c.in-None.ensures.does.0
    (record c.args.self.now { fiber = c.ask.new.fiber; left = c.args.self.now.left - 1 })
    (done_own c.args.shared.now.program.now c.args.self.now c.ask.new.fiber (c.args.self.now.left - 1) c.in-None.ensures.does.1 c.ask.ensures.of (let l = c.requires.left in omega (arith, l))) refl

pub returns-in-None-clause-done : goal.returns-in-None-clause-done
returns-in-None-clause-done c = took c.args.shared.now.program.now 0 c.args.self.now (record c.args.self.now { fiber = c.ask.new.fiber; left = c.args.self.now.left - 1 })
    (done_own c.args.shared.now.program.now c.args.self.now c.ask.new.fiber (c.args.self.now.left - 1) c.in-None.ensures.does.1 c.ask.ensures.of (let l = c.requires.left in omega (arith, l))) refl
