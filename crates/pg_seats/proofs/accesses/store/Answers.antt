use Rattle.std.proofs.Common.{inl}
use Rattle.pg_seats.proofs.Stores.{finds, store_parts}
use Rattle.pg_seats.proofs.accesses.store.Goals as goal

pub store_part-requires-clause-find : goal.store_part-requires-clause-find
store_part-requires-clause-find c = finds c.args.seat.now.id c.args.seat.now.me c.args.at c.args.number c.start-start.ensures.place (inl c.requires.next)

pub store_part-requires-clause-rule : goal.store_part-requires-clause-rule
store_part-requires-clause-rule c = store_parts c.args.seat.now.id c.args.seat.now.me c.args.at c.args.number c.start-start.ensures.place c.requires.next
