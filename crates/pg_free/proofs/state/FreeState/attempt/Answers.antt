use Rattle.std.proofs.Common.{◌≡◌, ◌∙◌, ◌∷◌, List, [], ap, sym, subst, rules, arith, length-append}
use Rattle.std.proofs.lemmas.Bool.Decides.{nat_tests}
use Rattle.pg_ir.specs.declared.ids.InstrId.{InstrId}
use Rattle.pg_run.specs.Bound.{stepped_as}
use Rattle.pg_run.specs.MachineStep.{Did, step}
use Rattle.pg_run.specs.State.{initial}
use Rattle.pg_free.proofs.Histories.{run_push}
use Rattle.pg_free.proofs.state.FreeState.attempt.Goals as goal

-- a step more of the run
pub invariant_of-self : goal.invariant_of-self
invariant_of-self c =
    let m = c.self.inside.machine in
    let p = c.self.inside.program.now in
    let h = c.self.invariant in
    let is = subst (λ (gs : List InstrId). step gs p m.input m.state c.args.t.0 ≡ Did c.in-Ok-Did.step c.step.new.self.state) h.plain
    (sym c.in-Ok-Did.ensures.step ∙ ap (λ r. stepped_as r c.step.new.self.state) c.in-Ok-Did.field-0-is) in
    let longer = run_push p m.input (initial p) m.state c.step.new.self.state c.args.t.0 c.self.inside.trace.steps c.in-Ok-Did.step h.run (sym c.ready.ensures.ready ∙ c.if-not-ready.false) is in
    record {
      run = rw c.push.ensures (rw c.step.ensures.input longer);
      plain = search rules;
      machine = search rules;
      room = search rules;
      short = rw c.push.ensures (grind (arith, nat_tests, length-append c.self.inside.trace.steps (c.in-Ok-Did.step ∷ []), c.room_left.ensures, c.if-room_left-eq0.false, h.room));
      noted = search rules;
    }
