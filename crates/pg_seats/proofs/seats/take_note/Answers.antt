use Rattle.pg_seats.proofs.SeatSteps.{takes}
use Rattle.pg_seats.proofs.seats.take_note.Goals as goal

pub join-requires-clause-rule : goal.join-requires-clause-rule
join-requires-clause-rule c = takes c.args.seat.now.id c.args.seat.now.me.0 c.args.note.id c.args.note.me.0 c.requires.view
