mod PageMarks
mod AddedMarks
mod NamedStarts
mod MainCreates
mod StepLeaves
mod NextSteps
mod PlainSteps
mod DueTurns
mod FirstWorkers
pub mod Segments
mod TurnsLeft
pub mod WorkerRests
mod TurnKinds
pub use Rattle.pg_seats.proofs.of_pg_law_course
pub use Rattle.pg_seats.proofs.of_pg_law_order
pub use Rattle.pg_seats.proofs.of_pg_law_runs
pub use Rattle.pg_seats.proofs.of_pg_num
pub use Rattle.pg_seats.proofs.of_pg_run
pub use Rattle.pg_seats.proofs.of_pg_run_memory
