pub mod KindNames
pub mod Kept
