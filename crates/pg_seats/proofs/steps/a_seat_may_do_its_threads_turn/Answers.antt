use Rattle.pg_seats.proofs.ThreadSteps.{create, create_store, end, exit, join, join_store, start}
use Rattle.pg_seats.proofs.steps.a_seat_may_do_its_threads_turn.Goals as goal

pub returns-clause-start : goal.returns-clause-start
returns-clause-start c = start

pub returns-clause-create : goal.returns-clause-create
returns-clause-create c = create

pub returns-clause-number : goal.returns-clause-number
returns-clause-number c = create_store

pub returns-clause-join : goal.returns-clause-join
returns-clause-join c = join

pub returns-clause-value : goal.returns-clause-value
returns-clause-value c = join_store

pub returns-clause-exit : goal.returns-clause-exit
returns-clause-exit c = exit

pub returns-clause-end : goal.returns-clause-end
returns-clause-end c = λ w k l d h event. end w k l d h event
