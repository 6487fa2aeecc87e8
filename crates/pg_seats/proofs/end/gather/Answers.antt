use Rattle.pg_seats.proofs.SeatSteps.{gathers}
use Rattle.pg_seats.proofs.end.gather.Goals as goal

pub join-requires-clause-rule : goal.join-requires-clause-rule
join-requires-clause-rule c = gathers c.args.pool.now.id c.args.pool.now.me.0 c.args.seat.id c.args.seat.me.0 c.requires.view
