use Rattle.std.proofs.Common.{[], Ok, Err, Some, true, false, ap, ◌∙◌, arith, refl, subst}
use Rattle.pg_run.specs.WithSteps.{OwnerStepped}
use Rattle.pg_run.proofs.Walks.{walk_start}
use Rattle.pg_run.proofs.WithSteps.{with_none, on_more, on_turn, on_end, on_spent, on_before, on_full, before_less, stepped_room, stepped_fits}
use Rattle.pg_run.proofs.guided_walk.walk.Goals as goal

pub loop-spent-init : goal.loop-spent-init
loop-spent-init c = record {
  of = c.requires.of;
  room = refl;
  fits = c.requires.few;
  on = ([], walk_start c.args.run.now.gated.now c.args.run.now.program.now c.args.run.now.input.now c.args.turn.now c.args.left c.args.state.now, with_none c.args.records c.args.trace.now);
}

pub returns-then-is_full-clause-walk : goal.returns-then-is_full-clause-walk
returns-then-is_full-clause-walk c = on_before c.args.run.now.gated.now c.args.run.now.program.now c.args.run.now.input.now c.args.turn.now c.args.left c.loop-spent.spent _ c.args.records
    c.args.trace.now c.loop-spent.state c.loop-spent.trace c.end_before.result (omega arith) c.end_before.ensures c.loop-spent.invariant.on

pub returns-then-is_full-clause-full : goal.returns-then-is_full-clause-full
returns-then-is_full-clause-full c =
    let full = c.is_full.ensures.full c.if-is_full.true in
    on_full c.args.run.now.gated.now c.args.run.now.program.now c.args.run.now.input.now c.args.turn.now c.args.left c.loop-spent.spent _ c.args.records c.args.trace.now c.loop-spent.state
    c.loop-spent.trace c.end_before.result full.0 (omega arith) c.loop-spent.invariant.room full.1 c.end_before.ensures c.loop-spent.invariant.on

pub returns-then-is_full-clause-less : goal.returns-then-is_full-clause-less
returns-then-is_full-clause-less c = before_less c.args.run.now.gated.now c.args.run.now.program.now c.args.turn.now c.loop-spent.state _ c.args.left c.end_before.result c.end_before.ensures

pub owner_step-requires-clause-room : goal.owner_step-requires-clause-room
owner_step-requires-clause-room c = c.is_full.ensures.room c.if-is_full.false

pub returns-in-Err-clause-walk : goal.returns-in-Err-clause-walk
returns-in-Err-clause-walk c =
    on_end c.args.run.now.gated.now c.args.run.now.program.now c.args.run.now.input.now c.args.turn.now c.args.left c.loop-spent.spent _ c.args.records c.args.trace.now c.loop-spent.state
    c.owner_step.new.state c.loop-spent.trace c.owner_step.new.trace c.in-Err.end (omega arith)
    (subst (OwnerStepped c.args.run.now.gated.now c.args.run.now.program.now c.args.run.now.input.now c.args.turn.now c.loop-spent.state c.owner_step.new.state c.args.records c.loop-spent.trace
    c.owner_step.new.trace) c.in-Err.is c.in_ok-end.ensures.step) c.loop-spent.invariant.on

pub returns-in-Err-clause-room : goal.returns-in-Err-clause-room
returns-in-Err-clause-room c =
    let d = subst (OwnerStepped c.args.run.now.gated.now c.args.run.now.program.now c.args.run.now.input.now c.args.turn.now c.loop-spent.state c.owner_step.new.state c.args.records
    c.loop-spent.trace c.owner_step.new.trace) c.in-Err.is c.in_ok-end.ensures.step in
    rw d.2 c.loop-spent.invariant.room

pub returns-in-Err-clause-fits : goal.returns-in-Err-clause-fits
returns-in-Err-clause-fits c =
    let d = subst (OwnerStepped c.args.run.now.gated.now c.args.run.now.program.now c.args.run.now.input.now c.args.turn.now c.loop-spent.state c.owner_step.new.state c.args.records
    c.loop-spent.trace c.owner_step.new.trace) c.in-Err.is c.in_ok-end.ensures.step in
    rw d.2 c.loop-spent.invariant.fits

pub returns-then-is_turn-clause-walk : goal.returns-then-is_turn-clause-walk
returns-then-is_turn-clause-walk c =
    on_turn c.args.run.now.gated.now c.args.run.now.program.now c.args.run.now.input.now c.args.turn.now c.args.left c.loop-spent.spent _ c.args.records c.args.trace.now c.loop-spent.state
    c.owner_step.new.state c.loop-spent.trace c.owner_step.new.trace (omega arith)
    (subst (OwnerStepped c.args.run.now.gated.now c.args.run.now.program.now c.args.run.now.input.now c.args.turn.now c.loop-spent.state c.owner_step.new.state c.args.records c.loop-spent.trace
    c.owner_step.new.trace) (c.in-Ok.is ∙ ap Ok c.if-is_turn.true) c.in_ok-end.ensures.step) c.loop-spent.invariant.on

pub returns-then-is_turn-clause-room : goal.returns-then-is_turn-clause-room
returns-then-is_turn-clause-room c =
    let d = subst (OwnerStepped c.args.run.now.gated.now c.args.run.now.program.now c.args.run.now.input.now c.args.turn.now c.loop-spent.state c.owner_step.new.state c.args.records
    c.loop-spent.trace c.owner_step.new.trace) (c.in-Ok.is ∙ ap Ok c.if-is_turn.true) c.in_ok-end.ensures.step in
    stepped_room c.args.run.now.gated.now c.args.run.now.program.now c.args.run.now.input.now c.args.turn.now c.loop-spent.state c.owner_step.new.state c.args.records c.loop-spent.trace
    c.owner_step.new.trace true d ∙ c.loop-spent.invariant.room

pub returns-then-is_turn-clause-fits : goal.returns-then-is_turn-clause-fits
returns-then-is_turn-clause-fits c =
    let d = subst (OwnerStepped c.args.run.now.gated.now c.args.run.now.program.now c.args.run.now.input.now c.args.turn.now c.loop-spent.state c.owner_step.new.state c.args.records
    c.loop-spent.trace c.owner_step.new.trace) (c.in-Ok.is ∙ ap Ok c.if-is_turn.true) c.in_ok-end.ensures.step in
    stepped_fits c.args.run.now.gated.now c.args.run.now.program.now c.args.run.now.input.now c.args.turn.now c.loop-spent.state c.owner_step.new.state c.args.records c.loop-spent.trace
    c.owner_step.new.trace true (c.is_full.ensures.room c.if-is_full.false) c.loop-spent.invariant.fits d

pub loop-spent-preserved : goal.loop-spent-preserved
loop-spent-preserved c =
    let d = subst (OwnerStepped c.args.run.now.gated.now c.args.run.now.program.now c.args.run.now.input.now c.args.turn.now c.loop-spent.state c.owner_step.new.state c.args.records
    c.loop-spent.trace c.owner_step.new.trace) (c.in-Ok.is ∙ ap Ok c.if-is_turn.false) c.in_ok-end.ensures.step in
    record {
      of = c.in_ok-end.ensures.of;
      room = stepped_room c.args.run.now.gated.now c.args.run.now.program.now c.args.run.now.input.now c.args.turn.now c.loop-spent.state c.owner_step.new.state c.args.records c.loop-spent.trace
          c.owner_step.new.trace false d ∙ c.loop-spent.invariant.room;
      fits = stepped_fits c.args.run.now.gated.now c.args.run.now.program.now c.args.run.now.input.now c.args.turn.now c.loop-spent.state c.owner_step.new.state c.args.records c.loop-spent.trace
          c.owner_step.new.trace false (c.is_full.ensures.room c.if-is_full.false) c.loop-spent.invariant.fits d;
      on = on_more c.args.run.now.gated.now c.args.run.now.program.now c.args.run.now.input.now c.args.turn.now c.args.left c.loop-spent.spent _ c.args.records c.args.trace.now c.loop-spent.state
          c.owner_step.new.state c.loop-spent.trace c.owner_step.new.trace (omega arith) d c.loop-spent.invariant.on;
    }

pub returns-clause-walk : goal.returns-clause-walk
returns-clause-walk c = on_spent c.args.run.now.gated.now c.args.run.now.program.now c.args.run.now.input.now c.args.turn.now c.args.left c.loop-spent.spent _ c.args.records c.args.trace.now
    c.loop-spent.state c.loop-spent.trace c.spent.result (omega arith) c.spent.ensures c.loop-spent.invariant.on
