use Rattle.pg_session_entry.proofs.EntriesOfOneRun.{one_entry}
use Rattle.pg_session_entry.proofs.laws.entries_of_one_run_are_alike.Goals as goal

pub returns : goal.returns
returns c = one_entry
