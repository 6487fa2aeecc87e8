pub mod Runs
pub mod Headline
pub mod Loading
pub mod Tested
pub mod Limits
pub use Rattle.pg_law_reuse.specs.Entries
pub use Rattle.pg_law_reuse.specs.Faults
pub use Rattle.pg_law_reuse.specs.FromFault
pub use Rattle.pg_cache.specs as pg_cache
pub use Rattle.pg_go.specs.pg_ir
pub use Rattle.pg_go.specs.pg_law_effects
pub use Rattle.pg_go.specs.pg_num
pub use Rattle.pg_law_reuse.specs.pg_law_order
pub use Rattle.pg_law_reuse.specs.pg_law_runs
pub use Rattle.pg_session.specs as pg_session
pub use Rattle.pg_go.specs.pg_run
pub use Rattle.pg_go.specs.pg_run_trace
