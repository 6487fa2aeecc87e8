pub mod Replies
pub mod Shows
pub mod JsonReplies
pub mod ReplyForms
pub mod ConditionTexts
pub use Rattle.pg_run.specs as pg_run
