pub mod Computed
pub mod Stood
