pub mod Plan
pub mod Views
pub mod Rule
pub mod Plays
pub mod Steps
pub use Rattle.pg_law_course.specs.pg_ir
pub use Rattle.pg_law_course.specs as pg_law_course
pub use Rattle.pg_law_course.specs.pg_law_effects
pub use Rattle.pg_law_course.specs.pg_law_order
pub use Rattle.pg_law_course.specs.pg_law_runs
pub use Rattle.pg_law_course.specs.pg_law_threads
pub use Rattle.pg_law_course.specs.pg_num
pub use Rattle.pg_law_course.specs.pg_run
pub use Rattle.pg_law_course.specs.pg_run_memory
pub use Rattle.pg_law_course.specs.pg_run_thread
pub use Rattle.pg_law_course.specs.pg_run_trace
pub use Rattle.pg_words.specs as pg_words
