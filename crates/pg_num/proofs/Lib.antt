pub mod Quotients
pub mod Digits
pub mod Granules
pub mod Moves
pub mod Accesses
