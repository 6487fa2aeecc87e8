pub mod Sliceable
pub use Rattle.pg_slice_passes.specs.Given
pub use Rattle.pg_slice_passes.specs.Listed
pub use Rattle.pg_law_instances.specs.pg_slice_replay
