use Rattle.std.proofs.Common.{inr}
use Rattle.pg_seats.proofs.Stores.{finds, put_parts}
use Rattle.pg_seats.proofs.accesses.store_due.Goals as goal

pub store_part-requires-clause-find : goal.store_part-requires-clause-find
store_part-requires-clause-find c = finds c.args.seat.now.id c.args.seat.now.me c.args.at c.args.number c.start-start.ensures.place (inr c.requires.next)

pub store_part-requires-clause-rule : goal.store_part-requires-clause-rule
store_part-requires-clause-rule c = put_parts c.args.seat.now.id c.args.seat.now.me c.args.at c.args.number c.start-start.ensures.place c.requires.next
