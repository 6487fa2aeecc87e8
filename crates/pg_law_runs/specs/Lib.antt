pub mod Deeds
pub mod Cuts
pub mod LastTurns
pub mod Answered
pub use Rattle.pg_law_effects.specs as pg_law_effects
