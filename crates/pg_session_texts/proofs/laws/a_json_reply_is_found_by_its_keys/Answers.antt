use Rattle.serde_json.specs.Data.{string}
use Rattle.pg_session_texts.specs.JsonReplies.{ended_value, entry_value, output_value, reply_word, turns_value}
use Rattle.pg_session_texts.proofs.Keys.{end_found, entry_found, output_found, reply_found, turns_found}
use Rattle.pg_session_texts.proofs.laws.a_json_reply_is_found_by_its_keys.Goals as goal

pub returns-clause-end : goal.returns-clause-end
returns-clause-end c kind output end = end_found (ended_value kind end) (entry_value kind) (turns_value end) (output_value output) (string (reply_word kind))

pub returns-clause-entry : goal.returns-clause-entry
returns-clause-entry c kind output end = entry_found (ended_value kind end) (entry_value kind) (turns_value end) (output_value output) (string (reply_word kind))

pub returns-clause-output : goal.returns-clause-output
returns-clause-output c kind output end = output_found (ended_value kind end) (entry_value kind) (turns_value end) (output_value output) (string (reply_word kind))

pub returns-clause-reply : goal.returns-clause-reply
returns-clause-reply c kind output end = reply_found (ended_value kind end) (entry_value kind) (turns_value end) (output_value output) (string (reply_word kind))

pub returns-clause-turns : goal.returns-clause-turns
returns-clause-turns c kind output end = turns_found (ended_value kind end) (entry_value kind) (turns_value end) (output_value output) (string (reply_word kind))
