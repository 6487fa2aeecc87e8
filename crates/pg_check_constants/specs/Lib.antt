pub mod Indices
pub mod Initialisers
pub mod Sizes
pub mod Words
