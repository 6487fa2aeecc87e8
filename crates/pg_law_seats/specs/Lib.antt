pub mod Rows
pub mod Cuts
pub mod Halves
pub mod Sums
