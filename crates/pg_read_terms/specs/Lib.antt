pub mod Sets
pub mod Ends
pub mod Pending
pub mod Tried
