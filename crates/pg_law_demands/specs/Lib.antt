pub mod Cells
pub mod Back
pub mod Passed
pub mod Demands
pub mod Along
pub mod Laws
pub use Rattle.pg_law_least.specs as pg_law_least
