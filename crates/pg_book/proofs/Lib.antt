pub mod Each
pub mod Exact
pub mod Limits
pub mod Lines
pub mod RangedEntries
pub mod Written
