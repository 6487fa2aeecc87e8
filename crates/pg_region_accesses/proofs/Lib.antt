pub mod BlockCounts
pub mod QuietInParts
pub mod QuietInstructions
pub mod AddedAccesses
pub mod BlockInstructions
pub mod SetTables
pub mod LoudBlocks
pub mod AscendingSets
pub use Rattle.pg_region_paths.proofs as of_pg_region_paths
