pub mod Syntax
pub mod Views
pub mod Text
pub mod Numbers
pub mod Digits
pub mod Resolving
pub use Rattle.pg_read_lex.specs.pg_num
pub use Rattle.pg_read_lex.specs as pg_read_lex
