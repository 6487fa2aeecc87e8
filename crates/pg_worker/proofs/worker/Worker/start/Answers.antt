use Rattle.std.proofs.Common.{◌∙◌, ap, refl, sym}
use Rattle.pg_seats.specs.pg_run_thread.declared.action.Action.TheVariants as actions
use Rattle.pg_seats.specs.pg_ir.declared.request.Request.TheVariants as requests
use Rattle.pg_seats.specs.pg_run_thread.Told.{id_of}
use Rattle.pg_seats.specs.pg_law_runs.Deeds.{is_event_at}
use Rattle.pg_seats.specs.Views.{word_there}
use Rattle.pg_worker.proofs.TurnKinds.{all_done, event_due, kept, kept_took, start_answered, start_may, thread_inside}
use Rattle.pg_worker.proofs.worker.Worker.start.Goals as goal

pub get_word-argument-requires-clause-inside : goal.get_word-argument-requires-clause-inside
get_word-argument-requires-clause-inside c =
    let due = event_due c.requires.at c.requires.turn c.requires.due c.requires.next in
    thread_inside due

pub get_word-argument-requires-clause-next : goal.get_word-argument-requires-clause-next
get_word-argument-requires-clause-next c =
    let due = event_due c.requires.at c.requires.turn c.requires.due c.requires.next in
    start_may due c.requires.next refl

pub end_turn-requires-clause-at : goal.end_turn-requires-clause-at
end_turn-requires-clause-at c =
    let due = event_due c.requires.at c.requires.turn c.requires.due c.requires.next in
    let read = kept due c.get_word-argument.new.seat c.get_word-argument.ensures.own.0 c.get_word-argument.ensures.view in
    start_answered read c.requires.next c.get_word-argument.result (c.get_word-argument.ensures.value ∙ ap (λ v. word_there v.0 c.args.self.now.thread.0) (sym c.get_word-argument.ensures.view))

pub end_turn-requires-clause-due : goal.end_turn-requires-clause-due
end_turn-requires-clause-due c =
    let due = event_due c.requires.at c.requires.turn c.requires.due c.requires.next in
    let read = kept due c.get_word-argument.new.seat c.get_word-argument.ensures.own.0 c.get_word-argument.ensures.view in
    read.due

pub end_turn-requires-clause-event : goal.end_turn-requires-clause-event
end_turn-requires-clause-event c = ap (is_event_at c.args.shared.now.schedule.now.gated (id_of c.args.self.now.fiber)) c.requires.next

pub end_turn-requires-clause-parts : goal.end_turn-requires-clause-parts
end_turn-requires-clause-parts c =
    let due = event_due c.requires.at c.requires.turn c.requires.due c.requires.next in
    let read = kept due c.get_word-argument.new.seat c.get_word-argument.ensures.own.0 c.get_word-argument.ensures.view in
    all_done read (actions.Event requests.Start) c.requires.next refl

pub returns-clause-took : goal.returns-clause-took
returns-clause-took c =
    let due = event_due c.requires.at c.requires.turn c.requires.due c.requires.next in
    kept_took due c.get_word-argument.new.seat c.get_word-argument.ensures.own.0 c.get_word-argument.ensures.view c.end_turn.new.self c.end_turn.ensures.took
