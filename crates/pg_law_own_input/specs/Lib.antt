pub mod OwnInput
pub mod References
pub use Rattle.pg_law_effects.specs as pg_law_effects
