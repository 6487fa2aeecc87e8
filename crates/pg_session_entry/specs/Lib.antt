pub mod Entries
pub mod Records
pub mod Replays
pub mod Faults
pub use Rattle.pg_law_reference.specs.pg_slice_replay.OfRegions
pub use Rattle.pg_law_order.specs as pg_law_order
pub use Rattle.pg_law_order.specs.pg_law_runs
pub use Rattle.pg_slice_rules.specs as pg_slice_rules
