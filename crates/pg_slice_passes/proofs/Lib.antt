pub mod RunSteps
mod KindsFit
pub mod RunsFit
pub mod ThreadLists
pub mod KeptKnowledge
pub mod StoredBytes
pub mod LiveSteps
pub mod OperandNeeds
pub mod StepReads
pub mod RegionFootprints
pub mod OneStepMore
pub mod AllAsked
pub mod Slicing
pub mod AddedNodes
pub mod FixedPaths
pub mod RowsOfFootprints
pub mod FootprintOrder
pub mod TraceSteps
pub mod SliceOf
pub use Rattle.pg_slice_replay.proofs as of_pg_slice_replay
