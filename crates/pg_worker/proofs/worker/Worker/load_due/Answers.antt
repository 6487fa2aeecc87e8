use Rattle.std.proofs.Common.{◌∙◌, ap, refl, sym}
use Rattle.pg_seats.specs.pg_run_thread.declared.action.Action.TheVariants as actions
use Rattle.pg_seats.specs.Views.{number_there}
use Rattle.pg_worker.proofs.TurnKinds.{all_done, kept, kept_took, read_answered, read_may, turn_due}
use Rattle.pg_worker.proofs.worker.Worker.load_due.Goals as goal

pub load_due-number-requires-clause-next : goal.load_due-number-requires-clause-next
load_due-number-requires-clause-next c =
    let due = turn_due c.requires.at c.requires.turn c.requires.due c.requires.event in
    read_may due c.args.at c.requires.next

pub end_turn-requires-clause-at : goal.end_turn-requires-clause-at
end_turn-requires-clause-at c =
    let due = turn_due c.requires.at c.requires.turn c.requires.due c.requires.event in
    let read = kept due c.load_due-number.new.seat c.load_due-number.ensures.own.0 c.load_due-number.ensures.view in
    read_answered read c.args.at c.requires.next c.load_due-number.result (c.load_due-number.ensures.value ∙ ap (λ v. number_there v.0 c.args.at) (sym c.load_due-number.ensures.view))

pub end_turn-requires-clause-due : goal.end_turn-requires-clause-due
end_turn-requires-clause-due c =
    let due = turn_due c.requires.at c.requires.turn c.requires.due c.requires.event in
    let read = kept due c.load_due-number.new.seat c.load_due-number.ensures.own.0 c.load_due-number.ensures.view in
    read.due

pub end_turn-requires-clause-parts : goal.end_turn-requires-clause-parts
end_turn-requires-clause-parts c =
    let due = turn_due c.requires.at c.requires.turn c.requires.due c.requires.event in
    let read = kept due c.load_due-number.new.seat c.load_due-number.ensures.own.0 c.load_due-number.ensures.view in
    all_done read (actions.Load c.args.at) c.requires.next refl

pub returns-clause-took : goal.returns-clause-took
returns-clause-took c =
    let due = turn_due c.requires.at c.requires.turn c.requires.due c.requires.event in
    kept_took due c.load_due-number.new.seat c.load_due-number.ensures.own.0 c.load_due-number.ensures.view c.end_turn.new.self c.end_turn.ensures.took
