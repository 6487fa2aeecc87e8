pub mod Workers
pub use Rattle.pg_worker.specs.pg_ir
pub use Rattle.pg_worker.specs.pg_law_course
pub use Rattle.pg_worker.specs.pg_law_effects
pub use Rattle.pg_worker.specs.pg_law_order
pub use Rattle.pg_worker.specs.pg_law_runs
pub use Rattle.pg_worker.specs.pg_law_threads
pub use Rattle.pg_worker.specs.pg_num
pub use Rattle.pg_worker.specs.pg_run
pub use Rattle.pg_worker.specs.pg_run_memory
pub use Rattle.pg_worker.specs.pg_run_thread
pub use Rattle.pg_worker.specs.pg_run_trace
pub use Rattle.pg_worker.specs.pg_seats
pub use Rattle.pg_worker.specs.pg_words
pub use Rattle.pg_worker.specs as pg_worker
