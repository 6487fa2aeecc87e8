pub mod OfRegions
pub mod Landmarks
pub mod Paths
pub mod Apart
pub mod Kept
pub mod Sought
pub mod Targets
pub mod Given
pub use Rattle.pg_law_effects.specs as pg_law_effects
pub use Rattle.pg_slice_rules.specs as pg_slice_rules
