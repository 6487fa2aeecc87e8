use Rattle.std.proofs.Common.{ap, sym}
use Rattle.pg_seats.specs.pg_run_thread.declared.action.Action.TheVariants as actions
use Rattle.pg_seats.specs.pg_run_thread.Told.{id_of}
use Rattle.pg_seats.specs.pg_law_runs.Deeds.{is_event_at}
use Rattle.pg_worker.proofs.TurnKinds.{all_done, bare_parts, event_due, replied}
use Rattle.pg_worker.proofs.worker.Worker.bare.Goals as goal

pub end_turn-requires-clause-at : goal.end_turn-requires-clause-at
end_turn-requires-clause-at c =
    let due = event_due c.requires.at c.requires.turn c.requires.due c.requires.next in
    replied due (actions.Event c.args.request) c.requires.next c.reply-reply.result c.answer_to-answer.result c.reply-reply.ensures c.answer_to-answer.ensures

pub end_turn-requires-clause-parts : goal.end_turn-requires-clause-parts
end_turn-requires-clause-parts c =
    let due = event_due c.requires.at c.requires.turn c.requires.due c.requires.next in
    all_done due (actions.Event c.args.request) c.requires.next (sym (bare_parts c.args.request c.requires.bare))

pub end_turn-requires-clause-event : goal.end_turn-requires-clause-event
end_turn-requires-clause-event c = ap (is_event_at c.args.shared.now.schedule.now.gated (id_of c.args.self.now.fiber)) c.requires.next
