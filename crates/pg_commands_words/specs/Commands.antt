-- Which command words are, without the program's own name.
use Rattle.std.specs.Prelude.{◌≡◌, ℕ, ℤ, Bool, true, false, not, ◌&&◌, ◌||◌, ◌≤◌, ◌<◌, ◌^◌, List, [], ◌∷◌, codes, length, map, string_bytes, Option, Some, is_some}
use Rattle.std.specs.List.{list_all}
use Rattle.std.specs.Option.{option_map}
use Rattle.pg_num.specs.declared.limits.TheConstants.{NUMBERS_LIMIT, QUANTUM_LIMIT}
use Rattle.pg_session_trial.specs.declared.line.TheConstants.{TRIAL_LIMIT}
use Rattle.pg_commands_words.specs.Pieces.{Given, Line, Word, given_in, is_plain, positionals_of, uses_of, words_of}
use Rattle.pg_commands_words.specs.Values.{chosen_way, is_book_name, number_of, trial_of}
use Rattle.pg_commands_words.specs.declared.commands.Command.{Command}
use Rattle.pg_commands_words.specs.declared.commands.Command.TheVariants as commands
use Rattle.pg_commands_words.specs.declared.commands.RecordingWay.{RecordingWay}
use Rattle.pg_commands_words.specs.declared.commands.RecordingWay.TheVariants as ways
use Rattle.pg_commands_words.specs.declared.names.Name.{Name}
use Rattle.pg_commands_words.specs.declared.names.Name.TheVariants as names
use Rattle.pg_commands_words.specs.declared.names.OptionName.{OptionName}
use Rattle.pg_commands_words.specs.declared.names.OptionName.TheVariants as options

-- ---- which options a command has

-- the options that choose a way of recording
abbrev pub is_of_a_way : OptionName → Bool
is_of_a_way options.Quantum = true
is_of_a_way options.Seed = true
is_of_a_way options.Free = true
is_of_a_way _ = false

abbrev pub is_quantum : OptionName → Bool
is_quantum options.Quantum = true
is_quantum _ = false

abbrev pub allows : Name → OptionName → Bool
allows names.Once o = is_quantum o
allows names.Serve o = true
allows names.Book o = is_of_a_way o
allows names.Show o = is_of_a_way o
allows names.Conditions o = is_of_a_way o
allows names.Trial o = false

-- where the option is given, the command has it
abbrev pub fits : Name → OptionName → Bool → Bool
fits name o is_given = not is_given || allows name o

-- each option that is given is one of the command's
abbrev pub are_allowed : Name → Given → Bool
are_allowed name given =
    fits name options.Quantum (is_some given.quantum) && (fits name options.Seed (is_some given.seed) && (fits name options.Free given.free
    && (fits name options.Book (is_some given.book) && (fits name options.Only given.only && fits name options.Json given.json))))

-- `--only` stands beside `--book`, and beside no option of a way
abbrev pub only_fits : Given → Bool
only_fits given = not given.only || (is_some given.book && (not (is_some given.quantum) && (not (is_some given.seed) && not given.free)))

-- ---- commands

-- a command, with its values
pub data Meaning : Type 0 where
  once : (quantum : ℕ) → (numbers : List ℤ) → Meaning
  serve : (file : Word) → (way : RecordingWay) → (named : Option Word) → (only : Bool) → (json : Bool) → Meaning
  book : (file : Word) → (way : RecordingWay) → Meaning
  show : (file : Word) → (way : RecordingWay) → (numbers : List ℤ) → Meaning
  conditions : (file : Word) → (way : RecordingWay) → (numbers : List ℤ) → Meaning
  trial : (number : ℕ) → Meaning

abbrev pub name_of : Meaning → Name
name_of (once quantum numbers) = names.Once
name_of (serve file way named only json) = names.Serve
name_of (book file way) = names.Book
name_of (show file way numbers) = names.Show
name_of (conditions file way numbers) = names.Conditions
name_of (trial number) = names.Trial

-- a command's own word
abbrev pub name_word : Name → Word
name_word names.Once = codes "once"
name_word names.Serve = codes "serve"
name_word names.Book = codes "book"
name_word names.Show = codes "show"
name_word names.Conditions = codes "conditions"
name_word names.Trial = codes "trial"

-- the words write these numbers, of which there are not too many
pub record HasNumbers (words : List Word) (numbers : List ℤ) : Type 0 where
  pub has_numbers : map number_of words ≡ map Some numbers
  pub few : length numbers ≤ NUMBERS_LIMIT

-- the words are a file and then numbers
pub record HasFileAndNumbers (words : List Word) (file : Word) (numbers : List ℤ) : Type 0 where
  pub texts : List Word
  pub has_file : words ≡ file ∷ texts
  pub has_numbers : HasNumbers texts numbers

-- the words are the number of a trial
pub record HasTrial (words : List Word) (number : ℕ) : Type 0 where
  pub text : Word
  pub has_text : words ≡ text ∷ []
  pub has_number : trial_of text ≡ Some number

-- the options and the file of a session have these values
pub record HasSession (given : Given) (words : List Word) (file : Word) (chosen : RecordingWay) (named : Option Word) (only json : Bool) : Type 0 where
  pub has_way : chosen_way given ≡ Some chosen
  pub has_file : words ≡ file ∷ []
  pub has_book : given.book ≡ named
  pub is_named : is_book_name given.book ≡ true
  pub has_only : given.only ≡ only
  pub only_stands : only_fits given ≡ true
  pub has_json : given.json ≡ json

-- the options that are given and the positionals have these values
abbrev pub HasValues : Given → List Word → Meaning → Type 0
HasValues given words (once quantum numbers) = (chosen_way given ≡ Some (ways.Rotating quantum)) × HasNumbers words numbers
HasValues given words (serve file way named only json) = HasSession given words file way named only json
HasValues given words (book file way) = (chosen_way given ≡ Some way) × (words ≡ file ∷ [])
HasValues given words (show file way numbers) = (chosen_way given ≡ Some way) × HasFileAndNumbers words file numbers
HasValues given words (conditions file way numbers) = (chosen_way given ≡ Some way) × HasFileAndNumbers words file numbers
HasValues given words (trial number) = HasTrial words number

-- the options and the positionals are this command
pub record Says (given : Given) (words : List Word) (meaning : Meaning) : Type 0 where
  pub allowed : are_allowed (name_of meaning) given ≡ true
  pub has_values : HasValues given words meaning

-- the words are this command: its own word, and then a line with its values
pub record Means (words : List Word) (meaning : Meaning) : Type 0 where
  pub line : Line
  pub spelled : words ≡ name_word (name_of meaning) ∷ words_of line
  -- before `--`, a word other than `-` that begins with `-` is an option
  pub plain : list_all is_plain line.pieces ≡ true
  -- each option stands there at most once
  pub at_most_once : (o : OptionName) → length (uses_of o line.pieces) ≤ 1
  pub says : Says (given_in line) (positionals_of line) meaning

-- the words are no command
abbrev pub NoCommand : List Word → Type 0
NoCommand words = (meaning : Meaning) → Means words meaning → ⊥

abbrev pub meaning_of : Command → Meaning
meaning_of (commands.Once it) = once it.quantum it.numbers.items
meaning_of (commands.Serve it) = serve (string_bytes it.file) it.way (option_map string_bytes it.book) it.only it.json
meaning_of (commands.Book it) = book (string_bytes it.file) it.way
meaning_of (commands.Show it) = show (string_bytes it.file) it.way it.numbers.items
meaning_of (commands.Conditions it) = conditions (string_bytes it.file) it.way it.numbers.items
meaning_of (commands.Trial number) = trial number

-- the words are this command
abbrev pub IsCommand : List Word → Command → Type 0
IsCommand words command = Means words (meaning_of command)

-- a quantum is within its limits, and a seed has 64 bits
abbrev pub IsWay : RecordingWay → Type 0
IsWay (ways.Rotating quantum) = (1 ≤ quantum) × (quantum ≤ QUANTUM_LIMIT)
IsWay ways.Free = Unit {0}
IsWay (ways.Seeded seed) = seed < 2 ^ 64

-- the values are within their limits
abbrev pub IsWithin : Meaning → Type 0
IsWithin (once quantum numbers) = (1 ≤ quantum) × (quantum ≤ QUANTUM_LIMIT) × (length numbers ≤ NUMBERS_LIMIT)
IsWithin (serve file way named only json) = IsWay way
IsWithin (book file way) = IsWay way
IsWithin (show file way numbers) = IsWay way × (length numbers ≤ NUMBERS_LIMIT)
IsWithin (conditions file way numbers) = IsWay way × (length numbers ≤ NUMBERS_LIMIT)
IsWithin (trial number) = number ≤ TRIAL_LIMIT
