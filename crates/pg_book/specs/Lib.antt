pub mod Parts
pub mod Texts
pub mod Values
pub mod Books
