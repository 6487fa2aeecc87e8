-- Why a program text is refused, and the line that says so.
use Rattle.std.specs.Prelude.{ℕ, ◌<◌, ◌≤◌, List, [], ◌++◌, length, take, slice_range, codes, Option, Some, None}
use Rattle.std.specs.Fmt.{decimal}
use Rattle.pg_num.specs.declared.limits.TheConstants.{PROGRAM_TEXT_LIMIT}
use Rattle.pg_read_lex.specs.declared.token.Span.{Span}
use Rattle.pg_read_lex.specs.Places.{line_after, column_after}
use Rattle.pg_read_ast.specs.Syntax.{Tree}
use Rattle.pg_read_grammar.specs.declared.fault.ReadFault.{ReadFault}
use Rattle.pg_read_grammar.specs.declared.fault.ReadFault.TheVariants as reader
use Rattle.pg_read_grammar.specs.Accepted.{IsModule, IsUnread}
use Rattle.pg_check.specs.pg_check_rules.declared.fault.CheckKind.{CheckKind}
use Rattle.pg_check.specs.pg_check_rules.declared.fault.CheckKind.TheVariants as check
use Rattle.pg_check.specs.pg_check_rules.Conditions.{IsFirstRefusal}
use Rattle.pg_commands.specs.declared.refusals.TextRefusal.{TextRefusal}
use Rattle.pg_commands.specs.declared.refusals.TextRefusal.TheVariants.{TooLong, Read, Check}

-- ---- which texts are refused

-- a text that is no module: its first refusal by the reader
pub record IsUnreadText (text : List ℕ) (fault : ReadFault) : Type 0 where
  pub within : length text ≤ PROGRAM_TEXT_LIMIT
  pub refusal : IsUnread text fault

-- a text that is a module: its first refusal by the checks
pub record IsRefusedModule (text : List ℕ) (kind : CheckKind) (span : Span) : Type 0 where
  pub within : length text ≤ PROGRAM_TEXT_LIMIT
  pub tree : Tree
  pub is_module : IsModule text tree
  pub refusal : IsFirstRefusal tree kind span

-- the text is refused for this: its length is asked first, then whether it is a module, then what the checks refuse
abbrev pub IsRefusedFor : List ℕ → TextRefusal → Type 0
IsRefusedFor text TooLong = PROGRAM_TEXT_LIMIT < length text
IsRefusedFor text (Read fault) = IsUnreadText text fault
IsRefusedFor text (Check kind span) = IsRefusedModule text kind span

abbrev pub IsRefused : List ℕ → Type 0
IsRefused text = (refusal : TextRefusal) × IsRefusedFor text refusal

-- ---- its line

abbrev pub fault_name : ReadFault → List ℕ
fault_name (reader.BadByte at) = codes "BadByte"
fault_name (reader.OpenString at) = codes "OpenString"
fault_name (reader.Unexpected at) = codes "Unexpected"
fault_name (reader.Unsupported span) = codes "Unsupported"
fault_name (reader.TooDeep at) = codes "TooDeep"
fault_name reader.OutOfMemory = codes "OutOfMemory"

abbrev pub kind_name : CheckKind → List ℕ
kind_name check.UnknownName = codes "UnknownName"
kind_name check.Doubled = codes "Doubled"
kind_name check.WrongType = codes "WrongType"
kind_name check.NoBlock = codes "NoBlock"
kind_name check.BadPhi = codes "BadPhi"
kind_name check.Unsupported = codes "Unsupported"
kind_name check.BadSignature = codes "BadSignature"
kind_name check.TooLarge = codes "TooLarge"
kind_name check.NoMain = codes "NoMain"

abbrev pub refusal_name : TextRefusal → List ℕ
refusal_name TooLong = codes "TooLong"
refusal_name (Read fault) = fault_name fault
refusal_name (Check kind span) = kind_name kind

-- the place of the byte at which a text is refused; one that is too long is refused at its first
abbrev pub fault_place : ReadFault → ℕ
fault_place (reader.BadByte at) = at
fault_place (reader.OpenString at) = at
fault_place (reader.Unexpected at) = at
fault_place (reader.Unsupported span) = span.start
fault_place (reader.TooDeep at) = at
fault_place reader.OutOfMemory = 0

abbrev pub refusal_place : TextRefusal → ℕ
refusal_place TooLong = 0
refusal_place (Read fault) = fault_place fault
refusal_place (Check kind span) = span.start

-- the token whose text is told: that which isn't supported
abbrev pub fault_token : ReadFault → Option Span
fault_token (reader.Unsupported span) = Some span
fault_token _ = None

abbrev pub kind_token : CheckKind → Span → Option Span
kind_token check.Unsupported span = Some span
kind_token _ span = None

abbrev pub refusal_token : TextRefusal → Option Span
refusal_token TooLong = None
refusal_token (Read fault) = fault_token fault
refusal_token (Check kind span) = kind_token kind span

-- a blank and the token's bytes
abbrev pub token_text : List ℕ → Option Span → List ℕ
token_text text None = []
token_text text (Some span) = codes " " ++ slice_range text span.start span.end

-- program refused L:C NAME, where L:C are the line and the column of what comes after these bytes
abbrev pub refusal_head : List ℕ → List ℕ → List ℕ
refusal_head before name = codes "program refused " ++ (decimal (line_after before) ++ (codes ":" ++ (decimal (column_after before) ++ (codes " " ++ name))))

-- the line that refuses a text: its place and its name, then the text of a token that isn't supported
unfoldable pub refusal_line : List ℕ → TextRefusal → List ℕ
refusal_line text refusal = refusal_head (take (refusal_place refusal) text) (refusal_name refusal) ++ (token_text text (refusal_token refusal) ++ codes "\n")
