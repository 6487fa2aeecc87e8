pub mod WorkerLists
pub use Rattle.pg_worker.proofs.of_pg_law_course
pub use Rattle.pg_worker.proofs.of_pg_law_order
pub use Rattle.pg_worker.proofs.of_pg_law_runs
pub use Rattle.pg_worker.proofs.of_pg_num
pub use Rattle.pg_worker.proofs.of_pg_run
pub use Rattle.pg_worker.proofs.of_pg_run_memory
pub use Rattle.pg_worker.proofs as of_pg_worker
