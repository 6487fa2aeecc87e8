pub mod Leads
pub mod Inside
pub mod Stays
pub mod Free
pub mod Together
pub mod Moves
pub mod References
pub mod Inner
pub mod Alike
pub mod Instances
pub use Rattle.pg_law_least.specs as pg_law_least
pub use Rattle.pg_slice_replay.specs as pg_slice_replay
