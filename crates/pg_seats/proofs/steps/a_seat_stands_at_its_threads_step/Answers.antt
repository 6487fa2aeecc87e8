use Rattle.pg_seats.proofs.ThreadSteps.{due, next, number, word}
use Rattle.pg_seats.proofs.steps.a_seat_stands_at_its_threads_step.Goals as goal

pub returns-clause-next : goal.returns-clause-next
returns-clause-next c = next

pub returns-clause-due : goal.returns-clause-due
returns-clause-due c = due

pub returns-clause-number : goal.returns-clause-number
returns-clause-number c = number

pub returns-clause-word : goal.returns-clause-word
returns-clause-word c = word
