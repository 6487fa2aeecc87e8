pub mod PartStores
pub mod Zeros
