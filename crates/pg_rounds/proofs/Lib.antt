mod TurnSums
mod RunTurns
mod WorkerTurns
mod RunEnds
mod Notes
mod NextRounds
mod PrintOrder
mod Merges
mod FirstTurns
mod Results
pub use Rattle.pg_room.proofs.of_pg_law_order
pub use Rattle.pg_room.proofs.of_pg_law_runs
pub use Rattle.pg_room.proofs.of_pg_run
