pub mod Intervals
pub mod Unordered
pub mod Touches
pub mod Cells
pub mod Firsts
pub mod Links
pub mod Partners
pub mod Touching
