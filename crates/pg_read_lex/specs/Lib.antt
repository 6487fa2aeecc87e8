pub mod Bytes
pub mod Tokens
pub mod Places
pub mod Names
pub use Rattle.pg_num.specs as pg_num
