pub mod Accesses
pub mod Appends
pub mod Tables
pub mod Loud
pub mod Laws
pub use Rattle.pg_region_paths.specs as pg_region_paths
