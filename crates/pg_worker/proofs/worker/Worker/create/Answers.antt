use Rattle.std.proofs.Common.{◌∙◌, ap, refl}
use Rattle.pg_seats.specs.pg_run_thread.declared.action.Action.TheVariants as actions
use Rattle.pg_seats.specs.pg_ir.declared.request.Request.TheVariants as requests
use Rattle.pg_seats.specs.pg_run_thread.Told.{id_of}
use Rattle.pg_seats.specs.pg_law_runs.Deeds.{is_event_at}
use Rattle.pg_worker.proofs.TurnKinds.{all_done, create_may, create_put, create_small, event_due, made_inside, put, put_took, replied}
use Rattle.pg_worker.proofs.worker.Worker.create.Goals as goal

pub thread_of-thread-requires : goal.thread_of-thread-requires
thread_of-thread-requires c =
    let due = event_due c.requires.at c.requires.turn c.requires.due c.requires.next in
    record { inside = made_inside due c.args.at c.args.function c.args.argument c.made-made.result c.requires.next c.made-made.ensures }

pub put_word-requires-clause-inside : goal.put_word-requires-clause-inside
put_word-requires-clause-inside c =
    let due = event_due c.requires.at c.requires.turn c.requires.due c.requires.next in
    made_inside due c.args.at c.args.function c.args.argument c.thread_of-thread.result.0 c.requires.next (λ g e. c.thread_of-thread.ensures ∙ c.made-made.ensures g e)

pub put_word-requires-clause-next : goal.put_word-requires-clause-next
put_word-requires-clause-next c =
    let due = event_due c.requires.at c.requires.turn c.requires.due c.requires.next in
    create_may due c.args.at c.args.function c.args.argument c.thread_of-thread.result.0 c.requires.next (λ g e. c.thread_of-thread.ensures ∙ c.made-made.ensures g e) refl

pub store_due-requires-clause-small : goal.store_due-requires-clause-small
store_due-requires-clause-small c =
    let due = event_due c.requires.at c.requires.turn c.requires.due c.requires.next in
    create_small due c.args.at c.args.function c.args.argument c.made-made.result c.requires.next c.made-made.ensures

pub store_due-requires-clause-next : goal.store_due-requires-clause-next
store_due-requires-clause-next c =
    let due = event_due c.requires.at c.requires.turn c.requires.due c.requires.next in
    let left = put due c.put_word.new.seat c.put_word.ensures.own.0 c.put_word.ensures.view in
    create_put left c.args.at c.args.function c.args.argument c.made-made.result c.requires.next c.made-made.ensures refl

pub end_turn-requires-clause-at : goal.end_turn-requires-clause-at
end_turn-requires-clause-at c =
    let due = event_due c.requires.at c.requires.turn c.requires.due c.requires.next in
    let left = put due c.put_word.new.seat c.put_word.ensures.own.0 c.put_word.ensures.view in
    let stored = put left c.store_due.new.seat c.store_due.ensures.own.0 c.store_due.ensures.view in
    replied stored (actions.Event (requests.Create c.args.at c.args.function c.args.argument)) c.requires.next c.reply-reply.result c.reply-reply.result c.reply-reply.ensures (λ input cells t. refl)

pub end_turn-requires-clause-due : goal.end_turn-requires-clause-due
end_turn-requires-clause-due c =
    let due = event_due c.requires.at c.requires.turn c.requires.due c.requires.next in
    let left = put due c.put_word.new.seat c.put_word.ensures.own.0 c.put_word.ensures.view in
    let stored = put left c.store_due.new.seat c.store_due.ensures.own.0 c.store_due.ensures.view in
    stored.due

pub end_turn-requires-clause-event : goal.end_turn-requires-clause-event
end_turn-requires-clause-event c = ap (is_event_at c.args.shared.now.schedule.now.gated (id_of c.args.self.now.fiber)) c.requires.next

pub end_turn-requires-clause-parts : goal.end_turn-requires-clause-parts
end_turn-requires-clause-parts c =
    let due = event_due c.requires.at c.requires.turn c.requires.due c.requires.next in
    let left = put due c.put_word.new.seat c.put_word.ensures.own.0 c.put_word.ensures.view in
    let stored = put left c.store_due.new.seat c.store_due.ensures.own.0 c.store_due.ensures.view in
    all_done stored (actions.Event (requests.Create c.args.at c.args.function c.args.argument)) c.requires.next refl

pub returns-clause-took : goal.returns-clause-took
returns-clause-took c =
    let due = event_due c.requires.at c.requires.turn c.requires.due c.requires.next in
    let left = put due c.put_word.new.seat c.put_word.ensures.own.0 c.put_word.ensures.view in
    put_took due c.put_word.new.seat c.put_word.ensures.own.0 c.put_word.ensures.view c.end_turn.new.self (put_took left c.store_due.new.seat c.store_due.ensures.own.0 c.store_due.ensures.view c.end_turn.new.self c.end_turn.ensures.took)
