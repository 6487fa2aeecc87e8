pub mod Checked
pub use Rattle.pg_check_rules.specs as pg_check_rules
