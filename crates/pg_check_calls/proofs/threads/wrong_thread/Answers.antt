use Rattle.pg_check_types.proofs.Resolutions.{if_ok}
use Rattle.pg_check_rules.specs.CallConditions.{wrong_thread}
use Rattle.pg_check_calls.proofs.ThreadFunctions.{thread_row, thread_none}
use Rattle.pg_check_calls.proofs.threads.wrong_thread.Goals as goal

pub returns-in-Some : goal.returns-in-Some
returns-in-Some c = record {
  place = λ g s. if_ok c.wrong_value.result (λ o h. thread_row (wrong_thread g) _ _ _ (c.in-Some.ensures g s) h) (c.wrong_value.ensures.place g s);
}

pub returns-in-None : goal.returns-in-None
returns-in-None c = record {
  place = λ g s. thread_none (wrong_thread g) _ (c.in-None.ensures g s);
}
