pub mod PresentInstructions
pub mod RegionsAreUnique
pub mod PhiRegisters
pub mod SoughtRegions
pub mod Steps
pub mod ReplaysAreRuns
pub mod Replays
pub mod ShortSets
pub mod FreeableSteps
pub mod AddedRows
pub mod ToldLandmarks
pub mod KeptLandmarks
pub mod TargetsKept
pub mod FollowedPaths
pub mod PathsAgain
pub mod FramesApart
pub mod RegionAccessCounts
pub use Rattle.pg_law_effects.proofs as of_pg_law_effects
