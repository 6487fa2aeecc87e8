use Rattle.pg_law_reuse.proofs.EntryRecordings.{turns_good}
use Rattle.pg_session_entry.proofs.of_pg_law_order.GoodRunsServe.{serves}
use Rattle.pg_law_reuse.proofs.laws.an_entry_of_turns_serves_what_it_admits.Goals as goal

pub returns-clause-good : goal.returns-clause-good
returns-clause-good c p own input turns gated e can i small admitted = turns_good p own input turns gated e can i small admitted

pub returns-clause-served : goal.returns-clause-served
returns-clause-served c p own input turns gated e can i small admitted =
    serves p input e.schedule (record { program = can.program; bytes = can.bytes; small = small }) (turns_good p own input turns gated e can i small admitted)
