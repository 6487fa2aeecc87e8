pub mod SymbolicRegisterNodes
pub mod Steps
pub mod Events
pub mod Threads
