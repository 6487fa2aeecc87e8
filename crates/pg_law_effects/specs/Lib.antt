pub mod Effect
pub mod Gates
pub mod Meets
pub mod PermittedSteps
pub mod Places
pub mod Reached
pub mod StatesAlong
pub mod Told
pub mod Views
pub use Rattle.pg_run.specs as pg_run
