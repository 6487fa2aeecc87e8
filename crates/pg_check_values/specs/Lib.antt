pub mod Scopes
pub mod Tests
pub mod Steps
pub mod Uses
pub use Rattle.pg_check_names.specs as pg_check_names
