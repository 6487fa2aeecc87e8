pub mod Given
pub use Rattle.pg_rounds.specs.pg_ir
pub use Rattle.pg_rounds.specs.pg_law_effects
pub use Rattle.pg_rounds.specs.pg_law_threads
pub use Rattle.pg_rounds.specs.pg_num
pub use Rattle.pg_rounds.specs.pg_run
pub use Rattle.pg_rounds.specs.pg_run_trace
