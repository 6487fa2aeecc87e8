pub mod Nodes
pub mod Values
pub mod Bounds
pub mod Scratches
pub mod Kept
pub mod Marks
pub mod Names
pub use Rattle.pg_num.specs as pg_num
