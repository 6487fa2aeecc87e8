pub mod SymbolicNodes
pub mod Forms
pub use Rattle.pg_slice_rules.specs as pg_slice_rules
