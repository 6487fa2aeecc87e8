use Rattle.std.proofs.Common.{◌≡◌, ◌∙◌, None, ap, subst, sym}
use Rattle.std.specs.Prelude.{is_some}
use Rattle.pg_law_course.specs.pg_run.Bound.{stepped_as}
use Rattle.pg_law_course.specs.pg_run.MachineStep.{turn_of}
use Rattle.pg_locked.specs.Standing.{Standing}
use Rattle.pg_locked.specs.Tries.{Steps, refusal_of}
use Rattle.pg_locked.proofs.LockedSteps.{budget, done_there, few_more, is_there, one_step, ready_there, stepped}
use Rattle.pg_locked.proofs.OpenSteps.{IsDone}
use Rattle.pg_locked.proofs.locked.Locked.take.Goals as goal

pub step-requires-clause-ready : goal.step-requires-clause-ready
step-requires-clause-ready g c =
    let l = c.self.inside in
    ready_there g.J.Named.run l.program.now l.schedule.now l.machine l.taken.items l.done c.self.invariant c.args.t.0
    (subst (λ (v : Standing). refusal_of g.J.Named.run c.args.t.0 v ≡ None) (sym c.self.view_is) c.requires.may)

pub count_step-requires : goal.count_step-requires
count_step-requires g c =
    let l = c.self.inside in
    let may = subst (λ (v : Standing). refusal_of g.J.Named.run c.args.t.0 v ≡ None) (sym c.self.view_is) c.requires.may in
    record {
      there = is_there g.J.Named.run l.program.now l.schedule.now l.machine l.taken.items l.done c.self.invariant c.args.t.0 may;
      few = budget g.J.Named.run l.program.now l.schedule.now l.machine l.taken.items l.done c.self.invariant c.args.t.0 may;
    }

pub count_turn-done-requires : goal.count_turn-done-requires
count_turn-done-requires g c =
    let l = c.self.inside in
    few_more g.J.Named.run l.program.now l.schedule.now l.machine l.taken.items l.done c.self.invariant c.args.t.0
    (subst (λ (v : Standing). refusal_of g.J.Named.run c.args.t.0 v ≡ None) (sym c.self.view_is) c.requires.may)

pub invariant_of-self : goal.invariant_of-self
invariant_of-self g c =
    let l = c.self.inside in
    stepped g.J.Named.run l.program.now l.schedule.now l.machine l.taken.items l.done c.self.invariant c.args.t.0
    (subst (λ (v : Standing). refusal_of g.J.Named.run c.args.t.0 v ≡ None) (sym c.self.view_is) c.requires.may) c.step.new.self c.in-Ok-Did.field-0-0
    (sym c.in-Ok-Did.ensures.step ∙ ap (λ r. stepped_as r c.step.new.self.state) c.in-Ok-Did.field-0-is) c.step.ensures.input c.step.ensures.gated c.in-Ok-Did.ensures.of
    c.count_step.new.taken.items c.count_step.ensures c.args.is_event
    (subst (λ (v : Standing). is_some (turn_of g.J.Named.run.schedule.gated g.J.Named.run.program v.state c.args.t.0) ≡ c.args.is_event) (sym c.self.view_is) c.requires.event)
    c.count_turn-done.result c.count_turn-done.ensures

pub unreachable-requires : goal.unreachable-requires
unreachable-requires g c =
    let l = c.self.inside in
    subst IsDone (sym c.in-Ok-Trapped.ensures.step ∙ ap (λ r. stepped_as r c.step.new.self.state) c.in-Ok-Trapped.field-0-is)
    (done_there g.J.Named.run l.program.now l.schedule.now l.machine l.taken.items l.done c.self.invariant c.args.t.0
    (subst (λ (v : Standing). refusal_of g.J.Named.run c.args.t.0 v ≡ None) (sym c.self.view_is) c.requires.may))

pub returns-in-Ok-Did : goal.returns-in-Ok-Did
returns-in-Ok-Did g c =
    let l = c.self.inside in
    let may = subst (λ (v : Standing). refusal_of g.J.Named.run c.args.t.0 v ≡ None) (sym c.self.view_is) c.requires.may in
    let now : Standing = record { state = c.step.new.self.state; taken = c.count_step.new.taken.items; done = c.count_turn-done.result } in
    record {
      answer = (
        c.requires.may,
        subst (λ (v : Standing). Steps g.J.Named.run c.args.t.0 v now) c.self.view_is
            (one_step g.J.Named.run l.program.now l.schedule.now l.machine l.taken.items l.done c.self.invariant c.args.t.0 may c.step.new.self c.in-Ok-Did.field-0-0
            (sym c.in-Ok-Did.ensures.step ∙ ap (λ r. stepped_as r c.step.new.self.state) c.in-Ok-Did.field-0-is) c.step.ensures.input c.step.ensures.gated c.in-Ok-Did.ensures.of
            c.count_step.new.taken.items c.count_step.ensures c.args.is_event
            (subst (λ (v : Standing). is_some (turn_of g.J.Named.run.schedule.gated g.J.Named.run.program v.state c.args.t.0) ≡ c.args.is_event) (sym c.self.view_is) c.requires.event)
            c.count_turn-done.result c.count_turn-done.ensures),
      );
    }
