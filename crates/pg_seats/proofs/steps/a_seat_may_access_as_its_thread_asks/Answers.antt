use Rattle.pg_seats.proofs.ThreadSteps.{gated_store, load, read, store}
use Rattle.pg_seats.proofs.steps.a_seat_may_access_as_its_thread_asks.Goals as goal

pub returns-clause-load : goal.returns-clause-load
returns-clause-load c = load

pub returns-clause-read : goal.returns-clause-read
returns-clause-read c = read

pub returns-clause-store : goal.returns-clause-store
returns-clause-store c = store

pub returns-clause-put : goal.returns-clause-put
returns-clause-put c = gated_store
