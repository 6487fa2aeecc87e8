-- The text of a reply in the form that is asked for.
use Rattle.std.specs.Prelude.{ℕ, List, Option}
use Rattle.pg_session_texts.specs.declared.forms.ReplyForm.{ReplyForm}
use Rattle.pg_session_texts.specs.declared.forms.ReplyForm.TheVariants.{Lines, Json}
use Rattle.pg_session_texts.specs.declared.reply.EndLine.{EndLine}
use Rattle.pg_session_texts.specs.declared.reply.ReplyKind.{ReplyKind}
use Rattle.pg_session_texts.specs.JsonReplies.{json_reply_text}
use Rattle.pg_session_texts.specs.Replies.{reply_text}

abbrev pub text_in : ReplyForm → ReplyKind → List ℕ → Option EndLine → List ℕ
text_in Lines kind output end = reply_text kind output end
text_in Json kind output end = json_reply_text kind output end
