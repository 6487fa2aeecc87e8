mod RecordedRuns
pub use Rattle.pg_rounds.proofs.of_pg_law_runs.of_pg_law_effects
pub use Rattle.pg_rounds.proofs.of_pg_run
