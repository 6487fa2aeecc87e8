pub mod Places
pub mod CellLists
pub mod Asked
