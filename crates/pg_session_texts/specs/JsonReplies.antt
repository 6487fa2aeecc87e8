-- What is said of a line of input, as a JSON value and as its text.
use Rattle.std.specs.Prelude.{◌≡◌, ◌==◌, ℕ, Bool, IsUtf8, List, [], ◌∷◌, ◌++◌, codes, Option, Some, None, option_map, encode_utf8_all}
use Rattle.std.specs.List.{list_any}
use Rattle.serde_json.specs.Data.{Data, Members, member, no_members, number, object, put, string, unsigned}
use Rattle.serde_json.specs.Find.{of_integer}
use Rattle.serde_json.specs.Read.{read}
use Rattle.serde_json.specs.Written.{compact_text}
use Rattle.pg_ir.specs.declared.ids.InstrId.{InstrId}
use Rattle.pg_ir.specs.declared.request.TrapName.{TrapName}
use Rattle.pg_ir.specs.TrapNames.{trap_text}
use Rattle.pg_session_texts.specs.declared.reply.ReplyKind.{ReplyKind}
use Rattle.pg_session_texts.specs.declared.reply.ReplyKind.TheVariants.{Recorded, Reused, RefusedLine, RefusedTrap, RefusedBudget, RefusedUntested}
use Rattle.pg_session_texts.specs.declared.reply.EndLine.{EndLine}
use Rattle.pg_session_texts.specs.declared.reply.EndLine.TheVariants.{Exit, Trap, Budget}

-- what came of the line of input
abbrev pub reply_word : ReplyKind → List ℕ
reply_word (Recorded entry) = codes "recorded"
reply_word (Reused entry) = codes "reused"
reply_word RefusedLine = codes "refused line"
reply_word (RefusedTrap name id) = codes "refused trap"
reply_word RefusedBudget = codes "refused budget"
reply_word RefusedUntested = codes "refused untested"

-- the entry's number, where there is one
abbrev pub entry_value : ReplyKind → Option Data
entry_value (Recorded entry) = Some (number (unsigned entry))
entry_value (Reused entry) = Some (number (unsigned entry))
entry_value _ = None

abbrev pub trap_value : TrapName → InstrId → Data
trap_value name id = object (member (codes "at") (number (unsigned id.0)) (member (codes "trap") (string (trap_text name)) no_members))

-- how a run along a schedule ended
abbrev pub end_value : EndLine → Data
end_value (Exit value turns) = object (member (codes "exit") (number (of_integer value)) no_members)
end_value (Trap name id turns) = trap_value name id
end_value (Budget thread turns) = object (member (codes "budget") (number (unsigned thread.0)) no_members)

-- how the line of input ended: that of the run along a schedule, or the trap of its recording
abbrev pub ended_value : ReplyKind → Option EndLine → Option Data
ended_value (RefusedTrap name id) end = Some (trap_value name id)
ended_value _ end = option_map end_value end

-- after how many turns the run along a schedule ended
abbrev pub turns_of : EndLine → ℕ
turns_of (Exit value turns) = turns
turns_of (Trap name id turns) = turns
turns_of (Budget thread turns) = turns

abbrev pub turns_value : Option EndLine → Option Data
turns_value end = option_map (λ e. number (unsigned (turns_of e))) end

-- a member of this key, where there is a value
abbrev pub member_if : List ℕ → Option Data → Members → Members
member_if key None ms = ms
member_if key (Some d) ms = member key d ms

-- members with one more of this key, where there is a value
abbrev pub put_if : List ℕ → Option Data → Members → Members
put_if key None ms = ms
put_if key (Some d) ms = put key d ms

-- what was printed, each byte as the character of that number
abbrev pub output_value : List ℕ → Data
output_value output = string (encode_utf8_all output)

-- the members of a reply, in the order of their keys
abbrev pub reply_members : ReplyKind → List ℕ → Option EndLine → Members
reply_members kind output end =
    member_if (codes "end") (ended_value kind end) (member_if (codes "entry") (entry_value kind)
    (member (codes "output") (output_value output) (member (codes "reply") (string (reply_word kind))
    (member_if (codes "turns") (turns_value end) no_members))))

-- the whole reply
abbrev pub reply_value : ReplyKind → List ℕ → Option EndLine → Data
reply_value kind output end = object (reply_members kind output end)

-- the value's text without blanks, and a line feed
abbrev pub json_reply_text : ReplyKind → List ℕ → Option EndLine → List ℕ
json_reply_text kind output end = compact_text (reply_value kind output end) ++ 10 ∷ []

-- the text is JSON of this value
abbrev pub IsJson : List ℕ → Data → Type 0
IsJson text d = IsUtf8 text × (read text ≡ Some d)

abbrev pub has_line_feed : List ℕ → Bool
has_line_feed text = list_any (λ byte. byte == 10) text
