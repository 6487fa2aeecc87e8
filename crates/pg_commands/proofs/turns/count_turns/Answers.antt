use Rattle.std.proofs.Common.{arith, sym, refl, ◌∙◌}
use Rattle.pg_session_book.specs.pg_run_trace.Races.{with_gated}
use Rattle.pg_session_book.specs.pg_run_trace.Steps.{event_of}
use Rattle.pg_commands.proofs.TurnsCounted.{counted, passed}
use Rattle.pg_commands.proofs.turns.count_turns.Goals as goal
use Rattle.pg_commands.proofs.turns.count_turns.Goals.{then-is_turn, else-is_turn}

pub loop-i-preserved : goal.loop-i-preserved
loop-i-preserved c =
    let gated = c.args.gated.now in
    let steps = c.args.trace.now.steps in
    let event = event_of (with_gated gated c.step.result) in
    elim c.if-is_turn.branch [
      | then-is_turn w ↦ (
        omega (arith, w.count-is, c.loop-i.invariant.0, counted gated steps c.loop-i.i c.step.result c.step.ensures event refl (sym c.is_turn.ensures ∙ w.if-is_turn.true)),
        omega (arith, w.count-is, c.loop-i.invariant.1),
      )
      | else-is_turn w ↦ (
        omega (arith, w.count-is, c.loop-i.invariant.0, passed gated steps c.loop-i.i c.step.result c.step.ensures event refl (sym c.is_turn.ensures ∙ w.if-is_turn.false)),
        omega (arith, w.count-is, c.loop-i.invariant.1),
      )
    ]
