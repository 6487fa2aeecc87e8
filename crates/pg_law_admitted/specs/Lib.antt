pub mod Covered
pub mod Falls
pub mod Free
pub mod Invariant
pub mod Prefixes
pub mod Recorded
pub mod Unbroken
pub use Rattle.pg_law_order.specs as pg_law_order
pub use Rattle.pg_law_order.specs.pg_law_runs
