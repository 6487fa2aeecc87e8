pub mod Keeps
pub mod Laws
pub mod Along
pub mod Kept
pub mod FootprintLaws
pub mod Footprints
pub use Rattle.pg_slice_rules.specs as pg_slice_rules
