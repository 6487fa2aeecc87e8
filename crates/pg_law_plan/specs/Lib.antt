pub mod Fits
pub mod Likes
pub mod Lists
pub mod Moves
pub mod Order
pub mod Units
pub use Rattle.pg_law_runs.specs as pg_law_runs
