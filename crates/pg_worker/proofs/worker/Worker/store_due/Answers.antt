use Rattle.std.proofs.Common.{refl}
use Rattle.pg_seats.specs.pg_run_thread.declared.action.Action.TheVariants as actions
use Rattle.pg_worker.proofs.TurnKinds.{all_done, put, put_answered, put_may, put_small, put_took, turn_due}
use Rattle.pg_worker.proofs.worker.Worker.store_due.Goals as goal

pub store_due-requires-clause-small : goal.store_due-requires-clause-small
store_due-requires-clause-small c =
    let due = turn_due c.requires.at c.requires.turn c.requires.due c.requires.event in
    put_small due c.args.at c.args.number c.requires.next

pub store_due-requires-clause-next : goal.store_due-requires-clause-next
store_due-requires-clause-next c =
    let due = turn_due c.requires.at c.requires.turn c.requires.due c.requires.event in
    put_may due c.args.at c.args.number c.requires.next refl

pub end_turn-requires-clause-at : goal.end_turn-requires-clause-at
end_turn-requires-clause-at c =
    let due = turn_due c.requires.at c.requires.turn c.requires.due c.requires.event in
    let stored = put due c.store_due.new.seat c.store_due.ensures.own.0 c.store_due.ensures.view in
    put_answered stored c.args.at c.args.number c.requires.next

pub end_turn-requires-clause-due : goal.end_turn-requires-clause-due
end_turn-requires-clause-due c =
    let due = turn_due c.requires.at c.requires.turn c.requires.due c.requires.event in
    let stored = put due c.store_due.new.seat c.store_due.ensures.own.0 c.store_due.ensures.view in
    stored.due

pub end_turn-requires-clause-parts : goal.end_turn-requires-clause-parts
end_turn-requires-clause-parts c =
    let due = turn_due c.requires.at c.requires.turn c.requires.due c.requires.event in
    let stored = put due c.store_due.new.seat c.store_due.ensures.own.0 c.store_due.ensures.view in
    all_done stored (actions.Store c.args.at c.args.number) c.requires.next refl

pub returns-clause-took : goal.returns-clause-took
returns-clause-took c =
    let due = turn_due c.requires.at c.requires.turn c.requires.due c.requires.event in
    put_took due c.store_due.new.seat c.store_due.ensures.own.0 c.store_due.ensures.view c.end_turn.new.self c.end_turn.ensures.took
