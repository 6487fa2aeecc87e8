pub mod NumberTables
pub mod OpenedExtents
