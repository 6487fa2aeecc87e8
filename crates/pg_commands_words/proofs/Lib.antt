pub mod Options
pub mod Walks
pub mod Rows
pub mod Lines
pub mod Mapped
pub mod Found
pub mod Meanings
