pub mod StepMoments
pub mod OpenExtents
pub mod SettledWithMore
pub mod RegionSettings
pub mod StepsInExtents
pub mod PassedExtents
pub mod ThreadWords
pub mod EventKinds
pub mod WordsBack
pub mod PinnedBranches
pub mod SettledExtents
pub mod WalkSteps
pub use Rattle.pg_slice_back.proofs.of_pg_law_demands
pub use Rattle.pg_slice_back.proofs.of_pg_law_least
pub use Rattle.pg_slice_back.proofs as of_pg_slice_back
pub use Rattle.pg_slice_back.proofs.of_pg_slice_passes
