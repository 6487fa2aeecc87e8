pub mod LoadedEntries
pub mod SavedEntries
pub mod Wants
pub mod OneReason
pub use Rattle.pg_session_runner.proofs.TurnCounts
