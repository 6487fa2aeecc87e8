pub mod Bytes
pub mod Initial
pub mod Memory
pub mod Pages
pub mod Parts
pub mod Words
