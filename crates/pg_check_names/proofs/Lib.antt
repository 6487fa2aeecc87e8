mod RegisterLists
pub mod Voids
