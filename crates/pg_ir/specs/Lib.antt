pub mod Edges
pub mod ErrorTexts
pub mod Lists
pub mod Operands
pub mod PlaceTests
pub mod Program
pub mod Signatures
pub mod Tables
pub mod TrapNames
pub mod TypeTests
pub mod WellFormed
pub use Rattle.pg_num.specs as pg_num
