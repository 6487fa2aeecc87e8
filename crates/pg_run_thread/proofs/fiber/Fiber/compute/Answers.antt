use Rattle.std.proofs.Common.{◌∙◌, sym, ap}
use Rattle.pg_run_thread.specs.declared.action.Action.{Action}
use Rattle.pg_run_thread.specs.declared.advance.Advance.TheVariants.{Done, Asks}
use Rattle.pg_run_thread.specs.declared.advance.LocalStep.TheVariants.{Other}
use Rattle.pg_run_thread.specs.LocalState.{LocalState}
use Rattle.pg_run_thread.proofs.OperationSteps.{computes_done, computes_asks}
use Rattle.pg_run_thread.proofs.fiber.Fiber.compute.Goals as goal

pub returns-in-Some : goal.returns-in-Some
returns-in-Some c =
    ap (λ (m : LocalState). (m, Done Other)) c.put.ensures
    ∙ sym (computes_done c.args.p.now c.args.self.now c.args.instr.now c.requires.computes c.in-Some.n (sym (rw c.top.ensures at c.computed_if.ensures) ∙ c.in-Some.is))

pub returns-in-None : goal.returns-in-None
returns-in-None c =
    ap (λ (a : Action). (c.args.self.now, Asks a)) (rw
    (c.present.ensures.memory, c.present.ensures.halfway, c.present.ensures.registers, c.present.ensures.depth, c.present.ensures.used) at c.action_of.ensures)
    ∙ sym (computes_asks c.args.p.now c.args.self.now c.args.instr.now c.requires.computes (sym (rw c.top.ensures at c.computed_if.ensures) ∙ c.in-None.is))
