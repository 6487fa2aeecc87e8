use Rattle.std.proofs.Common.{ℕ, ◌<◌, ◌∙◌, Some, ap, arith, refl, subst, sym}
use Rattle.pg_seats.specs.pg_num.declared.limits.TheConstants.{THREAD_LIMIT}
use Rattle.pg_seats.specs.pg_run_thread.declared.action.Action.TheVariants as actions
use Rattle.pg_seats.specs.pg_ir.declared.request.Request.TheVariants as requests
use Rattle.pg_seats.specs.pg_run_thread.Told.{id_of}
use Rattle.pg_seats.specs.pg_law_runs.Deeds.{is_event_at}
use Rattle.pg_seats.specs.Views.{may_hear, word_there}
use Rattle.pg_worker.proofs.TurnKinds.{all_done, event_due, join_inside, join_may, join_put, join_small, kept, kept_took, put, put_took, replied}
use Rattle.pg_worker.proofs.worker.Worker.join.Goals as goal

pub thread_of-thread-requires : goal.thread_of-thread-requires
thread_of-thread-requires c =
    let due = event_due c.requires.at c.requires.turn c.requires.due c.requires.next in
    record { inside = join_inside due c.args.target c.args.at c.requires.next }

pub get_word-value-requires-clause-inside : goal.get_word-value-requires-clause-inside
get_word-value-requires-clause-inside c =
    let due = event_due c.requires.at c.requires.turn c.requires.due c.requires.next in
    subst (λ (i : ℕ). i < THREAD_LIMIT) (sym c.thread_of-thread.ensures) (join_inside due c.args.target c.args.at c.requires.next)

pub get_word-value-requires-clause-next : goal.get_word-value-requires-clause-next
get_word-value-requires-clause-next c =
    let due = event_due c.requires.at c.requires.turn c.requires.due c.requires.next in
    ap (may_hear c.args.self.now.seat.me.0) c.thread_of-thread.ensures ∙ join_may due c.args.target c.args.at c.requires.next refl

pub store_due-requires-clause-small : goal.store_due-requires-clause-small
store_due-requires-clause-small c =
    let due = event_due c.requires.at c.requires.turn c.requires.due c.requires.next in
    join_small due c.args.target c.args.at c.requires.next c.get_word-value.result (omega (arith, c.get_word-value.type_inv))

pub store_due-requires-clause-next : goal.store_due-requires-clause-next
store_due-requires-clause-next c =
    let due = event_due c.requires.at c.requires.turn c.requires.due c.requires.next in
    let read = kept due c.get_word-value.new.seat c.get_word-value.ensures.own.0 c.get_word-value.ensures.view in
    join_put read c.args.target c.args.at c.requires.next refl c.get_word-value.result (c.get_word-value.ensures.value ∙ ap (word_there c.args.self.now.seat.me.0) c.thread_of-thread.ensures ∙ ap (λ v. word_there v.0 c.args.target) (sym c.get_word-value.ensures.view))

pub end_turn-requires-clause-at : goal.end_turn-requires-clause-at
end_turn-requires-clause-at c =
    let due = event_due c.requires.at c.requires.turn c.requires.due c.requires.next in
    let read = kept due c.get_word-value.new.seat c.get_word-value.ensures.own.0 c.get_word-value.ensures.view in
    let stored = put read c.store_due.new.seat c.store_due.ensures.own.0 c.store_due.ensures.view in
    replied stored (actions.Event (requests.Join c.args.target (Some c.args.at))) c.requires.next c.reply-reply.result c.reply-reply.result c.reply-reply.ensures (λ input cells t. refl)

pub end_turn-requires-clause-due : goal.end_turn-requires-clause-due
end_turn-requires-clause-due c =
    let due = event_due c.requires.at c.requires.turn c.requires.due c.requires.next in
    let read = kept due c.get_word-value.new.seat c.get_word-value.ensures.own.0 c.get_word-value.ensures.view in
    let stored = put read c.store_due.new.seat c.store_due.ensures.own.0 c.store_due.ensures.view in
    stored.due

pub end_turn-requires-clause-event : goal.end_turn-requires-clause-event
end_turn-requires-clause-event c = ap (is_event_at c.args.shared.now.schedule.now.gated (id_of c.args.self.now.fiber)) c.requires.next

pub end_turn-requires-clause-parts : goal.end_turn-requires-clause-parts
end_turn-requires-clause-parts c =
    let due = event_due c.requires.at c.requires.turn c.requires.due c.requires.next in
    let read = kept due c.get_word-value.new.seat c.get_word-value.ensures.own.0 c.get_word-value.ensures.view in
    let stored = put read c.store_due.new.seat c.store_due.ensures.own.0 c.store_due.ensures.view in
    all_done stored (actions.Event (requests.Join c.args.target (Some c.args.at))) c.requires.next refl

pub returns-clause-took : goal.returns-clause-took
returns-clause-took c =
    let due = event_due c.requires.at c.requires.turn c.requires.due c.requires.next in
    let read = kept due c.get_word-value.new.seat c.get_word-value.ensures.own.0 c.get_word-value.ensures.view in
    kept_took due c.get_word-value.new.seat c.get_word-value.ensures.own.0 c.get_word-value.ensures.view c.end_turn.new.self (put_took read c.store_due.new.seat c.store_due.ensures.own.0 c.store_due.ensures.view c.end_turn.new.self c.end_turn.ensures.took)
