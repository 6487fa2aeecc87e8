pub mod Marks
pub mod Steps
pub mod Open
pub mod Places
