pub mod FunctionRows
pub mod LineRows
pub mod Room
pub mod ScopeNames
pub mod ScopeSizes
pub use Rattle.pg_law_numbering.specs as pg_law_numbering
