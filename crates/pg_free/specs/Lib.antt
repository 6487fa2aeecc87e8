pub mod States
pub mod Crews
