use Rattle.std.proofs.Common.{◌==◌, [], arith, sym, refl, ◌∙◌}
use Rattle.std.proofs.lemmas.Bool.{not-false}
use Rattle.pg_schedule.proofs.RaceTable.{all_more}
use Rattle.pg_session_book.specs.pg_run_trace.declared.step.Step.{Step}
use Rattle.pg_session_book.specs.pg_run_trace.Races.{with_gated}
use Rattle.pg_session_book.specs.pg_run_trace.Steps.{event_of}
use Rattle.pg_commands.proofs.TurnsCounted.{counted, passed}
use Rattle.pg_commands.proofs.turns.turns_of_main.Goals as goal
use Rattle.pg_commands.proofs.turns.turns_of_main.Goals.{then-is_event, else-is_event}

pub loop-i-preserved : goal.loop-i-preserved
loop-i-preserved c =
    let steps = c.args.trace.now.steps in
    let event = event_of (with_gated [] c.step-step.result) in
    let mains = all_more (λ (x : Step). x.thread.0 == 0) steps c.loop-i.i c.step-step.result c.loop-i.invariant.2 c.step-step.ensures
    (not-false (c.step-step.result.thread.0 == 0) (sym c.is_of_another.ensures ∙ c.if-is_of_another.false)) in
    elim c.if-is_event.branch [
      | then-is_event w ↦ (
        omega (arith, w.count-is, c.loop-i.invariant.0, counted [] steps c.loop-i.i c.step-step.result c.step-step.ensures event refl (sym c.is_event.ensures ∙ w.if-is_event.true)),
        omega (arith, w.count-is, c.loop-i.invariant.1),
        mains,
      )
      | else-is_event w ↦ (
        omega (arith, w.count-is, c.loop-i.invariant.0, passed [] steps c.loop-i.i c.step-step.result c.step-step.ensures event refl (sym c.is_event.ensures ∙ w.if-is_event.false)),
        omega (arith, w.count-is, c.loop-i.invariant.1),
        mains,
      )
    ]
