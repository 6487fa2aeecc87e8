pub mod Threads
pub mod Workers
pub mod Laying
pub mod Ready
pub mod Sweeping
pub use Rattle.pg_crew.specs as pg_crew
pub use Rattle.pg_crew.specs.pg_ir
pub use Rattle.pg_crew.specs.pg_law_course
pub use Rattle.pg_crew.specs.pg_law_effects
pub use Rattle.pg_crew.specs.pg_law_order
pub use Rattle.pg_crew.specs.pg_law_runs
pub use Rattle.pg_crew.specs.pg_law_threads
pub use Rattle.pg_crew.specs.pg_num
pub use Rattle.pg_crew.specs.pg_run
pub use Rattle.pg_crew.specs.pg_run_thread
pub use Rattle.pg_crew.specs.pg_run_trace
pub use Rattle.pg_crew.specs.pg_seats
pub use Rattle.pg_crew.specs.pg_worker
