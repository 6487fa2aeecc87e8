pub mod Calls
pub mod Headers
pub mod Threads
pub use Rattle.pg_check_values.specs.pg_check_names
pub use Rattle.pg_check_values.specs as pg_check_values
