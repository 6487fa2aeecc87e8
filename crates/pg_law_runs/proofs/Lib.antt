pub mod StepRules
pub mod DeedDependence
pub mod RunsAsDeeds
pub mod MaximalRuns
pub mod OrderedDeeds
pub mod ToldCells
pub mod AlikeStatesEqual
pub mod DeedLists
pub mod StepsWithTurnLeft
pub mod CutRuns
pub mod PermittedDeeds
pub mod PermittedRuns
pub mod FullRunEnds
pub mod UpToLastTurns
pub mod StrayedOwners
pub mod SharedBytes
pub use Rattle.pg_law_effects.proofs as of_pg_law_effects
