-- The command that the parser is given, and what its matches say.
use Rattle.std.specs.Prelude.{◌≡◌, Bool, true, false, if◌then◌else◌, List, [], codes, Option, Some, None, unwrap_or}
use Rattle.std.specs.Option.{option_map}
use Rattle.std.specs.Str.{bytes_eq}
use Rattle.clap.specs.Walk.{Row, Rule, Text, all_of, first_of}
use Rattle.clap.specs.Simple.{App, Shape, new_app, new_rule, new_shape, with_rule, with_subcommand}
use Rattle.clap.specs.declared.builder.action.ArgAction.TheVariants.{Append, Set, SetTrue}
use Rattle.pg_commands_words.specs.Commands.{HasValues, Meaning, Says, name_of}
use Rattle.pg_commands_words.specs.Pieces.{Given, Word, long_name}
use Rattle.pg_commands_words.specs.declared.matches.Options.{Options}
use Rattle.pg_commands_words.specs.declared.names.Name.{Name}
use Rattle.pg_commands_words.specs.declared.names.OptionName.{OptionName}
use Rattle.pg_commands_words.specs.declared.names.OptionName.TheVariants.{Quantum, Seed, Free, Book, Only, Json}

-- an option of this name, which takes a value or is a flag
abbrev pub option_rule : Text → Bool → Rule
option_rule name takes = record (new_rule name) { long = Some name; action = Some (if takes then Set else SetTrue) }

abbrev pub words_rule : Rule
words_rule = record (new_rule (codes "words")) { action = Some Append }

abbrev pub with_option : Text → Bool → App → App
with_option name takes app = with_rule app (option_rule name takes)

abbrev pub with_words : App → App
with_words app = with_rule app words_rule

-- the command of this name; each has the same options and takes any words
abbrev pub line_app : Text → App
line_app name =
    with_words (with_option (codes "json") false (with_option (codes "only") false (with_option (codes "book") true (with_option (codes "free") false
    (with_option (codes "seed") true (with_option (codes "quantum") true (new_app name)))))))

abbrev pub program_top : Shape
program_top = record (new_shape (codes "peregrine")) {
  no_binary_name = true;
  disable_help_flag = true;
  disable_help_subcommand = true;
  disable_version_flag = true;
}

abbrev pub with_line : Text → App → App
with_line name app = with_subcommand app (line_app name).top

abbrev pub program_app : App
program_app =
    with_line (codes "trial") (with_line (codes "conditions") (with_line (codes "show") (with_line (codes "book") (with_line (codes "serve") (with_line (codes "once")
    (record { top = program_top; subs = [] }))))))

-- ---- what the matches say

-- the positionals, in their order
abbrev pub words_in : List Row → List Word
words_in rows = unwrap_or (all_of (codes "words") rows) []

-- the text of an option
abbrev pub text_in : OptionName → List Row → Option Word
text_in option rows = first_of (long_name option) rows

-- a flag's text says that it is given
abbrev pub is_set : Option Word → Bool
is_set None = false
is_set (Some text) = bytes_eq text (codes "true")

abbrev pub given_of_rows : List Row → Given
given_of_rows rows = record {
  quantum = text_in Quantum rows;
  seed = text_in Seed rows;
  free = is_set (text_in Free rows);
  book = text_in Book rows;
  only = is_set (text_in Only rows);
  json = is_set (text_in Json rows);
}

-- they are this command of this name
abbrev pub SaysOf : Name → Given → List Word → Meaning → Type 0
SaysOf name given words meaning = (name_of meaning ≡ name) × Says given words meaning

-- they are no command of this name
abbrev pub SaysNone : Name → Given → List Word → Type 0
SaysNone name given words = (meaning : Meaning) → SaysOf name given words meaning → ⊥

-- the subcommand's matches are this command of this name
abbrev pub Reads : Name → Option (Text × List Row) → Meaning → Type 0
Reads name None meaning = ⊥
Reads name (Some found) meaning = SaysOf name (given_of_rows found.1) (words_in found.1) meaning

abbrev pub ReadsNone : Name → Option (Text × List Row) → Type 0
ReadsNone name found = (meaning : Meaning) → Reads name found meaning → ⊥

-- ---- what the code reads of them

abbrev pub given_of : Options → Given
given_of o = record {
  quantum = option_map (λ s. s.now) o.quantum;
  seed = option_map (λ s. s.now) o.seed;
  free = o.free;
  book = option_map (λ s. s.now) o.book;
  only = o.only;
  json = o.json;
}

-- they have the values of this command of this name
abbrev pub HasValuesOf : Name → Given → List Word → Meaning → Type 0
HasValuesOf name given words meaning = (name_of meaning ≡ name) × HasValues given words meaning

abbrev pub HasNoValues : Name → Given → List Word → Type 0
HasNoValues name given words = (meaning : Meaning) → HasValuesOf name given words meaning → ⊥
