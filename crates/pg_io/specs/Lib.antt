pub mod Faults
pub mod Memory
pub mod Adapter
pub mod Shelves
pub mod ShortSinks
pub mod Streams
