pub mod Circles
pub mod Ranks
pub mod Initialisers
pub mod Ends
pub mod ConstantParts
