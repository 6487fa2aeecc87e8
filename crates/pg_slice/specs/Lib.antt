pub mod Footprints
pub mod Rivals
pub mod Settled
pub use Rattle.pg_slice_decisions.specs as pg_slice_decisions
