pub mod Classes
pub mod Levels
