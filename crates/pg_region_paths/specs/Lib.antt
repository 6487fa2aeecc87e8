pub mod Paths
pub mod Registers
pub mod FollowedPaths
pub mod RootPaths
pub mod Fits
pub mod Relation
pub use Rattle.pg_ir.specs as pg_ir
pub use Rattle.pg_ir.specs.pg_num
