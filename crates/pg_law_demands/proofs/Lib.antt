-- Proofs of the laws.
pub mod ValuesBefore
pub mod DemandsBack
pub mod StepBack
pub mod OwnDemands
pub mod WalkBack
pub mod DueDemands
pub mod PassedByExtents
pub mod StepsInExtents
pub use Rattle.pg_law_least.proofs as of_pg_law_least
