use Rattle.pg_law_reuse.proofs.EntryRecordings.{entry_good}
use Rattle.pg_session_entry.proofs.of_pg_law_order.GoodRunsServe.{serves}
use Rattle.pg_law_reuse.proofs.laws.an_entry_serves_what_it_admits.Goals as goal

pub returns-clause-good : goal.returns-clause-good
returns-clause-good c p own input xs z e can h i small admitted = entry_good p own input xs z e can h i small admitted

pub returns-clause-served : goal.returns-clause-served
returns-clause-served c p own input xs z e can h i small admitted =
    serves p input e.schedule (record { program = can.program; bytes = can.bytes; small = small }) (entry_good p own input xs z e can h i small admitted)
