mod FunctionTables
mod MissingNumbers
mod ReachedVertices
mod BlockCounts
mod VecLists
mod AccessCounts
mod ShortSummaries
mod RegionsExist
pub mod SummariesExist
pub mod SummariesAreOne
pub mod BranchRegions
pub mod SlicesAdmitAlike
pub mod ExitingRuns
pub mod SliceableRuns
pub use Rattle.pg_slice_passes.proofs.Slicing
