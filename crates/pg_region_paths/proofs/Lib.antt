pub mod Entries
pub mod Cases
pub mod Elements
