pub mod LoadedBooks
pub mod OpenedBooks
pub mod Refusals
pub mod SavedBooks
pub use Rattle.pg_session_runner.specs.Runs
pub use Rattle.pg_session_runner.specs.Entries
pub use Rattle.pg_session_runner.specs.Headline
pub use Rattle.pg_session_runner.specs.Tested
pub use Rattle.pg_session_runner.specs.Limits
pub use Rattle.pg_session_runner.specs.pg_law_effects
pub use Rattle.pg_session_runner.specs.pg_law_order
pub use Rattle.pg_session_runner.specs.pg_law_runs
pub use Rattle.pg_session_runner.specs.pg_run
pub use Rattle.pg_session_runner.specs.pg_run_trace
pub use Rattle.pg_session_runner.specs.pg_session
pub use Rattle.pg_book.specs as pg_book
