pub mod CoursePlaces
pub mod NamedOperands
pub mod RepliesSuffice
pub mod GuidedPlan
pub mod StepsInRun
pub mod StartFunctions
pub mod ActionCells
pub mod ToldActions
pub mod TurnNumbers
pub mod RepliesAlong
pub mod NamedThreads
pub mod StepFacts
pub mod CourseSteps
pub mod SharedPlaces
pub mod RestingThreads
pub mod PrintedTexts
pub mod MainWord
pub mod GuidedOutput
pub mod OutputByTurns
pub use Rattle.pg_law_runs.proofs.of_pg_law_effects
pub use Rattle.pg_law_order.proofs as of_pg_law_order
pub use Rattle.pg_law_runs.proofs as of_pg_law_runs
pub use Rattle.pg_law_threads.proofs as of_pg_law_threads
pub use Rattle.pg_num.proofs as of_pg_num
pub use Rattle.pg_run.proofs as of_pg_run
pub use Rattle.pg_run_memory.proofs as of_pg_run_memory
