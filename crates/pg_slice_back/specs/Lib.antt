pub mod Met
pub mod Leaves
pub mod Made
pub mod Wanted
pub mod Bytes
pub mod Lens
pub mod Stacks
pub mod Counted
pub mod Steps
pub mod Edges
pub mod Events
pub mod Sets
pub mod Arguments
pub mod Cells
pub mod Owed
pub use Rattle.pg_law_demands.specs as pg_law_demands
pub use Rattle.pg_law_least.specs as pg_law_least
pub use Rattle.pg_slice_passes.specs.pg_slice_decisions
pub use Rattle.pg_slice_passes.specs as pg_slice_passes
pub use Rattle.pg_slice_passes.specs.pg_slice_replay
