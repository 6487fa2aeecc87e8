pub mod Regions
pub mod Finders
pub mod Least
pub mod Alike
pub mod Laws
pub mod Examples
