mod WordBytes
mod GlobalBytes
mod LaidGranules
mod SweptGranules
mod OwnedTurns
mod WrittenGranules
mod SeatLists
mod TurnOwners
pub use Rattle.pg_crew.proofs as of_pg_crew
pub use Rattle.pg_crew.proofs.of_pg_law_course
pub use Rattle.pg_crew.proofs.of_pg_law_order
pub use Rattle.pg_crew.proofs.of_pg_law_runs
pub use Rattle.pg_crew.proofs.of_pg_run
pub use Rattle.pg_crew.proofs.of_pg_worker
