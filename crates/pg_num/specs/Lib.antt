pub mod Decimal
pub mod Inputs
pub mod Numbers
pub mod Places
pub mod Pointers
