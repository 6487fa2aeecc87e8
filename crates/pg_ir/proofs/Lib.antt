pub mod BlockParts
pub mod CaseTables
pub mod DecidedFacts
pub mod EdgesDecide
pub mod Globals
pub mod GlobalsDecide
pub mod LeadingElements
pub mod ReadableOperands
pub mod PlaceDecide
pub mod FunctionPlaces
pub mod PassingPrefix
pub mod ProgramDecide
pub mod GrowingTables
pub mod TypesDecide
pub use Rattle.pg_num.proofs as of_pg_num
