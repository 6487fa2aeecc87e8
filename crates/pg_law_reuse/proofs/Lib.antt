pub mod EntryRecordings
pub use Rattle.pg_session_entry.proofs.EntryParts
pub use Rattle.pg_session_entry.proofs.Slicing
pub use Rattle.pg_session_entry.proofs.EntriesOfOneRun
pub use Rattle.pg_law_admitted.proofs.of_pg_law_order
