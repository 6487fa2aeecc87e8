pub mod Asks
pub mod Steps
pub mod Paths
pub use Rattle.pg_slice_memory.specs as pg_slice_memory
