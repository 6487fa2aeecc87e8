pub mod Standing
pub mod Tries
