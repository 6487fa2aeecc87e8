use Rattle.std.proofs.Common.{◌-◌, List, Some, sym, ap, arith, ◌∙◌}
use Rattle.std.specs.Prelude.{slice_index_or}
use Rattle.pg_room.specs.pg_run_trace.declared.turn.Turn.{Turn}
use Rattle.pg_rounds.proofs.Notes.{turn_owner}
use Rattle.pg_rounds.proofs.run.owner_before.Goals as goal

pub returns : goal.returns
returns c =
    turn_owner c.args.shared.now.schedule.now.turns (c.args.number - 1) _ (omega (arith, c.requires.some, c.requires.within))
    ∙ ap (λ (us : List Turn). Some (slice_index_or us (c.args.number - 1) _).thread.0) (sym c.as_slice.ensures.items)
