use Rattle.std.proofs.Common.{sym, ◌∙◌, subst}
use Rattle.pg_run.specs.Went.{WentRecorded}
use Rattle.pg_run.proofs.WithSteps.{owner_strays, owner_went}
use Rattle.pg_run.proofs.guided_walk.owner_step.Goals as goal

pub returns-then-is_over-clause-step : goal.returns-then-is_over-clause-step
returns-then-is_over-clause-step c = owner_strays c.args.run.now.gated.now c.args.run.now.program.now c.args.run.now.input.now c.args.turn.now c.args.state.now c.args.state.now c.args.records
    c.args.trace.now c.args.trace.now (sym c.is_over.ensures ∙ c.if-is_over.true)

pub returns-in-None-clause-step : goal.returns-in-None-clause-step
returns-in-None-clause-step c = owner_went c.args.run.now.gated.now c.args.run.now.program.now c.args.run.now.input.now c.args.turn.now c.args.state.now c.record_own.new.state c.args.records
    c.args.trace.now c.record_own.new.trace (sym c.is_over.ensures ∙ c.if-is_over.false)
    (subst (WentRecorded c.args.run.now.program.now c.args.state.now c.record_own.new.state c.args.turn.now.thread.0 c.args.records c.args.trace.now c.record_own.new.trace) c.in-None.is
    c.record_own.ensures.step)

pub asked_step-requires-clause-next : goal.asked_step-requires-clause-next
asked_step-requires-clause-next c =
    let w = subst (WentRecorded c.args.run.now.program.now c.args.state.now c.record_own.new.state c.args.turn.now.thread.0 c.args.records c.args.trace.now c.record_own.new.trace) c.in-Some.is
    c.record_own.ensures.step in
    rw w.1 w.0

pub asked_step-requires-clause-room : goal.asked_step-requires-clause-room
asked_step-requires-clause-room c =
    let w = subst (WentRecorded c.args.run.now.program.now c.args.state.now c.record_own.new.state c.args.turn.now.thread.0 c.args.records c.args.trace.now c.record_own.new.trace) c.in-Some.is
    c.record_own.ensures.step in
    rw w.2 c.requires.room

pub returns-in-Some-clause-step : goal.returns-in-Some-clause-step
returns-in-Some-clause-step c =
    let w = subst (WentRecorded c.args.run.now.program.now c.args.state.now c.record_own.new.state c.args.turn.now.thread.0 c.args.records c.args.trace.now c.record_own.new.trace) c.in-Some.is
    c.record_own.ensures.step in
    rw (w.1, w.2) at c.asked_step.ensures.step

pub returns-in-Some-clause-kept : goal.returns-in-Some-clause-kept
returns-in-Some-clause-kept c =
    let w = subst (WentRecorded c.args.run.now.program.now c.args.state.now c.record_own.new.state c.args.turn.now.thread.0 c.args.records c.args.trace.now c.record_own.new.trace) c.in-Some.is
    c.record_own.ensures.step in
    rw w.2 at c.asked_step.ensures.kept
