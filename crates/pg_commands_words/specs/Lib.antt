pub mod Clap
pub mod Commands
pub mod Lines
pub mod Pieces
pub mod Values
