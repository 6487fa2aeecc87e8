pub mod Pieces
pub mod Rows
pub mod Folded
mod Decimals
mod Voids
mod Counting
