pub mod Given
pub mod Along
pub mod State
pub mod Footprints
pub mod Rows
pub mod Passes
pub mod Timed
pub mod Listed
pub mod Sliced
pub use Rattle.pg_slice_replay.specs.pg_law_effects
pub use Rattle.pg_slice_checks.specs as pg_slice_checks
pub use Rattle.pg_slice_decisions.specs as pg_slice_decisions
pub use Rattle.pg_slice_replay.specs as pg_slice_replay
pub use Rattle.pg_slice_rules.specs as pg_slice_rules
