pub mod RaceInstructions
pub mod FollowedSchedules
pub mod MappedLists
pub mod EntryParts
pub mod EntriesOfOneRun
pub use Rattle.pg_law_reference.proofs.BranchRegions
pub use Rattle.pg_law_reference.proofs.Slicing
pub use Rattle.pg_law_order.proofs as of_pg_law_order
