-- The words of a command line behind the command's own word, as pieces. A word is its bytes.
use Rattle.std.specs.Prelude.{ℕ, Bool, true, false, not, ◌==◌, ◌&&◌, ◌||◌, if◌then◌else◌, List, [], ◌∷◌, ◌++◌, codes, flat_map, Option, Some, None, is_some}
use Rattle.std.specs.List.{filter_map}
use Rattle.std.specs.Str.{bytes_eq}
use Rattle.pg_commands_words.specs.declared.names.OptionName.{OptionName}
use Rattle.pg_commands_words.specs.declared.names.OptionName.TheVariants.{Quantum, Seed, Free, Book, Only, Json}

abbrev pub Word : Type 0
Word = List ℕ

-- the word begins with `-`
abbrev pub begins_with_hyphen : Word → Bool
begins_with_hyphen [] = false
begins_with_hyphen (byte ∷ bytes) = byte == 45

-- the word is `-`, or doesn't begin so
abbrev pub is_name : Word → Bool
is_name word = not (begins_with_hyphen word) || bytes_eq word (codes "-")

-- ---- options

-- an option's name
abbrev pub long_name : OptionName → Word
long_name Quantum = codes "quantum"
long_name Seed = codes "seed"
long_name Free = codes "free"
long_name Book = codes "book"
long_name Only = codes "only"
long_name Json = codes "json"

-- the word of an option
abbrev pub option_word : OptionName → Word
option_word Quantum = codes "--quantum"
option_word Seed = codes "--seed"
option_word Free = codes "--free"
option_word Book = codes "--book"
option_word Only = codes "--only"
option_word Json = codes "--json"

-- a value follows the option; the others are flags
abbrev pub takes_value : OptionName → Bool
takes_value Quantum = true
takes_value Seed = true
takes_value Free = false
takes_value Book = true
takes_value Only = false
takes_value Json = false

-- the options in an order
abbrev pub place_of : OptionName → ℕ
place_of Quantum = 0
place_of Seed = 1
place_of Free = 2
place_of Book = 3
place_of Only = 4
place_of Json = 5

abbrev pub same_option : OptionName → OptionName → Bool
same_option option other = place_of option == place_of other

-- ---- pieces

-- a positional, a flag, or an option with its value, as two words or as one
pub data Piece : Type 0 where
  positional : Word → Piece
  flag : OptionName → Piece
  apart : OptionName → Word → Piece
  joined : OptionName → Word → Piece

abbrev pub words_of_piece : Piece → List Word
words_of_piece (positional word) = word ∷ []
words_of_piece (flag option) = option_word option ∷ []
words_of_piece (apart option value) = option_word option ∷ value ∷ []
words_of_piece (joined option value) = (option_word option ++ (codes "=" ++ value)) ∷ []

-- a positional, and a value that is a word of its own, doesn't begin with `-`; a positional may be `-`
abbrev pub is_plain : Piece → Bool
is_plain (positional word) = is_name word
is_plain (flag option) = not (takes_value option)
is_plain (apart option value) = takes_value option && not (begins_with_hyphen value)
is_plain (joined option value) = takes_value option

abbrev pub positional_in : Piece → Option Word
positional_in (positional word) = Some word
positional_in _ = None

-- the value, where one option is the other
abbrev pub use_of : OptionName → OptionName → Word → Option Word
use_of option used value = if same_option option used then Some value else None

-- the value of an option in a piece that is one of its uses; that of a flag is empty
abbrev pub use_in : OptionName → Piece → Option Word
use_in option (positional word) = None
use_in option (flag used) = use_of option used []
use_in option (apart used value) = use_of option used value
use_in option (joined used value) = use_of option used value

-- `--` and the words after it, if it is there
abbrev pub words_of_end : Option (List Word) → List Word
words_of_end None = []
words_of_end (Some words) = codes "--" ∷ words

abbrev pub positionals_of_end : Option (List Word) → List Word
positionals_of_end None = []
positionals_of_end (Some words) = words

-- ---- lines

-- the words after the command word: pieces, and `--` with positionals
pub record Line : Type 0 where
  pub pieces : List Piece
  pub end : Option (List Word)

abbrev pub words_of : Line → List Word
words_of line = flat_map words_of_piece line.pieces ++ words_of_end line.end

abbrev pub positionals_of : Line → List Word
positionals_of line = filter_map positional_in line.pieces ++ positionals_of_end line.end

-- the values of an option's uses
abbrev pub uses_of : OptionName → List Piece → List Word
uses_of option pieces = filter_map (use_in option) pieces

-- which options are given: the text of each with a value, and which flags
pub record Given : Type 0 where
  pub quantum : Option Word
  pub seed : Option Word
  pub free : Bool
  pub book : Option Word
  pub only : Bool
  pub json : Bool

abbrev pub first_use : List Word → Option Word
first_use [] = None
first_use (value ∷ values) = Some value

abbrev pub given_in : Line → Given
given_in line = record {
  quantum = first_use (uses_of Quantum line.pieces);
  seed = first_use (uses_of Seed line.pieces);
  free = is_some (first_use (uses_of Free line.pieces));
  book = first_use (uses_of Book line.pieces);
  only = is_some (first_use (uses_of Only line.pieces));
  json = is_some (first_use (uses_of Json line.pieces));
}
