pub mod Best
pub mod Cells
pub mod KindNames
pub mod Kinds
pub mod Lists
pub mod Races
pub mod Recording
pub mod Steps
pub use Rattle.pg_ir.specs as pg_ir
pub use Rattle.pg_law_threads.specs as pg_law_threads
pub use Rattle.pg_ir.specs.pg_num
