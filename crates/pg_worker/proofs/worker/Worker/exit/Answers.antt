use Rattle.std.proofs.Common.{ap, refl}
use Rattle.pg_seats.specs.pg_run_thread.declared.action.Action.TheVariants as actions
use Rattle.pg_seats.specs.pg_ir.declared.request.Request.TheVariants as requests
use Rattle.pg_seats.specs.pg_run_thread.Told.{id_of}
use Rattle.pg_seats.specs.pg_law_runs.Deeds.{is_event_at}
use Rattle.pg_worker.proofs.TurnKinds.{all_done, event_due, exit_may, put, put_took, replied, thread_inside}
use Rattle.pg_worker.proofs.worker.Worker.exit.Goals as goal

pub put_word-requires-clause-inside : goal.put_word-requires-clause-inside
put_word-requires-clause-inside c =
    let due = event_due c.requires.at c.requires.turn c.requires.due c.requires.next in
    thread_inside due

pub put_word-requires-clause-next : goal.put_word-requires-clause-next
put_word-requires-clause-next c =
    let due = event_due c.requires.at c.requires.turn c.requires.due c.requires.next in
    exit_may due c.args.value c.args.is_return c.requires.next refl

pub end_turn-requires-clause-at : goal.end_turn-requires-clause-at
end_turn-requires-clause-at c =
    let due = event_due c.requires.at c.requires.turn c.requires.due c.requires.next in
    let left = put due c.put_word.new.seat c.put_word.ensures.own.0 c.put_word.ensures.view in
    replied left (actions.Event (requests.Exit c.args.value c.args.is_return)) c.requires.next c.reply-reply.result c.reply-reply.result c.reply-reply.ensures (λ input cells t. refl)

pub end_turn-requires-clause-due : goal.end_turn-requires-clause-due
end_turn-requires-clause-due c =
    let due = event_due c.requires.at c.requires.turn c.requires.due c.requires.next in
    let left = put due c.put_word.new.seat c.put_word.ensures.own.0 c.put_word.ensures.view in
    left.due

pub end_turn-requires-clause-event : goal.end_turn-requires-clause-event
end_turn-requires-clause-event c = ap (is_event_at c.args.shared.now.schedule.now.gated (id_of c.args.self.now.fiber)) c.requires.next

pub end_turn-requires-clause-parts : goal.end_turn-requires-clause-parts
end_turn-requires-clause-parts c =
    let due = event_due c.requires.at c.requires.turn c.requires.due c.requires.next in
    let left = put due c.put_word.new.seat c.put_word.ensures.own.0 c.put_word.ensures.view in
    all_done left (actions.Event (requests.Exit c.args.value c.args.is_return)) c.requires.next refl

pub returns-clause-took : goal.returns-clause-took
returns-clause-took c =
    let due = event_due c.requires.at c.requires.turn c.requires.due c.requires.next in
    put_took due c.put_word.new.seat c.put_word.ensures.own.0 c.put_word.ensures.view c.end_turn.new.self c.end_turn.ensures.took
