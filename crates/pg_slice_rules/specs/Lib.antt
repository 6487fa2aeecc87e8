pub mod Moments
pub mod ExampleMoments
pub mod Freeable
pub mod SymbolicValues
pub mod Extents
pub mod Known
pub mod Rules
pub mod Closed
pub mod Sets
pub mod Rooted
pub mod Offset
pub mod Counted
pub mod Summed
pub use Rattle.pg_run.specs as pg_run
pub use Rattle.pg_run.specs.pg_run_memory
pub use Rattle.pg_run.specs.pg_run_thread
