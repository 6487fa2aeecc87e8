pub mod NeedsBackOverSteps
pub mod KnownBefore
pub mod RegisterCounts
pub mod KnownBackOverSteps
pub mod EnteredPhis
pub mod LiveAccesses
pub mod LiveEvents
pub mod LiveOperations
pub mod Dispatch
pub mod RegionWrites
pub mod EventOperands
pub mod RegionPathNeeds
pub mod CallRegisterCounts
pub mod ThreadRegisterCounts
pub use Rattle.pg_law_demands.proofs as of_pg_law_demands
pub use Rattle.pg_law_least.proofs as of_pg_law_least
pub use Rattle.pg_slice_passes.proofs as of_pg_slice_passes
