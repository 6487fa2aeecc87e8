pub mod Deltas
pub mod InitialBytes
pub mod Padding
pub mod Paging
pub mod ReadsAndWrites
pub mod Parts
pub mod Places
