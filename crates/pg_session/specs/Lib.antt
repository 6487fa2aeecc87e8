pub mod Lines
pub mod Sessions
pub mod Recordings
pub mod Views
pub mod Progress
pub mod Texts
pub mod Faults
pub mod Trials
pub mod Counts
pub mod Shows
pub use Rattle.pg_session_texts.specs as pg_session_texts
