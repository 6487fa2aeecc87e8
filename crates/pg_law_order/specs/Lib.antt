pub mod Examples
pub mod Good
pub mod Schedules
pub mod Served
pub use Rattle.pg_law_runs.specs as pg_law_runs
