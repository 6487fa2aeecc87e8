pub mod Arguments
pub mod Params
pub mod Registers
pub mod ThreadFunctions
pub use Rattle.pg_check_values.proofs as of_pg_check_values
