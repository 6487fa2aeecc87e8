pub mod Plan
pub mod Course
pub mod Threads
pub mod Prints
pub mod Steps
pub mod Rests
pub mod Examples
pub use Rattle.pg_ir.specs as pg_ir
pub use Rattle.pg_law_runs.specs.pg_law_effects
pub use Rattle.pg_law_order.specs as pg_law_order
pub use Rattle.pg_law_runs.specs as pg_law_runs
pub use Rattle.pg_law_threads.specs as pg_law_threads
pub use Rattle.pg_num.specs as pg_num
pub use Rattle.pg_run.specs as pg_run
pub use Rattle.pg_run_memory.specs as pg_run_memory
pub use Rattle.pg_run_thread.specs as pg_run_thread
pub use Rattle.pg_run_trace.specs as pg_run_trace
