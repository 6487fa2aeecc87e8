pub use Rattle.pg_session_entry.specs.Entries
pub use Rattle.pg_session_entry.specs.Faults
pub use Rattle.pg_session_entry.specs.Records
pub use Rattle.pg_session_entry.specs.declared.turns.FromFault
pub use Rattle.pg_law_admitted.specs.pg_law_order
pub use Rattle.pg_law_admitted.specs.pg_law_runs
pub use Rattle.pg_precondition.specs as pg_precondition
pub use Rattle.pg_session_entry.specs.pg_slice_rules.pg_run
pub use Rattle.pg_session_entry.specs.pg_slice_rules.pg_run.pg_law_threads
pub use Rattle.pg_session_entry.specs.pg_slice_rules.pg_run.pg_run_trace
pub use Rattle.pg_session_entry.specs.pg_slice_rules.pg_run.pg_run_trace.pg_ir
