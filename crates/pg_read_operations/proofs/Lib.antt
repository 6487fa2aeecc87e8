pub mod Longer
pub mod MoreLoops
pub mod Grouped
