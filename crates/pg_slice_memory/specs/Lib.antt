pub mod SymbolicNodes
pub mod Changes
pub mod Stamped
pub mod Loads
pub use Rattle.pg_slice_values.specs.pg_slice_rules
pub use Rattle.pg_slice_values.specs as pg_slice_values
