pub mod Graphs
pub mod Searches
pub mod Separators
pub mod Separator
pub mod Nested
pub mod Alike
