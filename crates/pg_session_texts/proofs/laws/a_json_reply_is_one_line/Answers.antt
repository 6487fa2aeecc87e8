use Rattle.pg_session_texts.specs.JsonReplies.{reply_value}
use Rattle.pg_session_texts.proofs.OneLine.{of_value}
use Rattle.pg_session_texts.proofs.laws.a_json_reply_is_one_line.Goals as goal

pub returns : goal.returns
returns c kind output end = of_value (reply_value kind output end)
