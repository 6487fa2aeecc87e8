use Rattle.pg_check_rules.specs.ValueConditions.{unknown_value}
use Rattle.pg_check_calls.proofs.ThreadFunctions.{thread_row, thread_none}
use Rattle.pg_check_calls.proofs.threads.unknown_thread.Goals as goal

pub returns-in-Some : goal.returns-in-Some
returns-in-Some c = λ g s. thread_row (unknown_value g) _ _ _ (c.in-Some.ensures g s) (c.unknown_value.ensures g s)

pub returns-in-None : goal.returns-in-None
returns-in-None c = λ g s. thread_none (unknown_value g) _ (c.in-None.ensures g s)
