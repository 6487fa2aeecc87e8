pub mod Chains
pub mod Settled
pub mod Sets
pub mod Walks
pub mod Words
pub use Rattle.pg_slice_back.specs.pg_law_demands
pub use Rattle.pg_slice_back.specs.pg_law_least
pub use Rattle.pg_slice_back.specs as pg_slice_back
pub use Rattle.pg_slice_back.specs.pg_slice_passes
pub use Rattle.pg_slice_back.specs.pg_slice_replay
