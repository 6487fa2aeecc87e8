-- Where in a command line each word stands, as a test of the words alone.
use Rattle.std.specs.Prelude.{◌≡◌, ◌≤◌, Bool, true, false, not, ◌&&◌, if◌then◌else◌, List, [], ◌∷◌, ◌++◌, codes, length, nat_eq, Option, Some, None}
use Rattle.std.specs.List.{list_all, starts_with}
use Rattle.std.specs.Option.{option_or}
use Rattle.std.specs.Str.{bytes_eq}
use Rattle.pg_commands_words.specs.Pieces.{Line, Word, begins_with_hyphen, is_name, is_plain, option_word, takes_value, uses_of, words_of}
use Rattle.pg_commands_words.specs.declared.names.Name.{Name}
use Rattle.pg_commands_words.specs.declared.names.Name.TheVariants as names
use Rattle.pg_commands_words.specs.declared.names.OptionName.{OptionName}
use Rattle.pg_commands_words.specs.declared.names.OptionName.TheVariants.{Quantum, Seed, Free, Book, Only, Json}
use Rattle.pg_commands_words.specs.declared.positions.Role.{Role}
use Rattle.pg_commands_words.specs.declared.positions.Role.TheVariants.{Plain, Whole, Opens}
use Rattle.pg_commands_words.specs.declared.positions.Seen.{Seen}
use Rattle.pg_commands_words.specs.declared.positions.Standing.{Standing}

-- ---- one word

-- what a word is where it is this option's word
abbrev pub opening : OptionName → Role
opening option = if takes_value option then Opens option else Whole option

-- the word is the option's, `=` and a value
abbrev pub is_joined : OptionName → Word → Bool
is_joined option word = takes_value option && starts_with nat_eq word (option_word option ++ codes "=")

-- what a word is of this option, if it is anything of it
abbrev pub role_as : OptionName → Word → Option Role
role_as option word =
    if bytes_eq word (option_word option) then Some (opening option)
    else if is_joined option word then Some (Whole option) else None

abbrev pub option_role : Word → Option Role
option_role word =
    option_or (option_or (option_or (option_or (option_or (role_as Quantum word) (role_as Seed word)) (role_as Free word)) (role_as Book word)) (role_as Only word)) (role_as Json word)

-- what a word is where no value is missing; none where it may not stand there
abbrev pub role_of : Word → Option Role
role_of word = if is_name word then Some Plain else option_role word

-- ---- the words before it

abbrev pub has_seen : Seen → OptionName → Bool
has_seen seen Quantum = seen.quantum
has_seen seen Seed = seen.seed
has_seen seen Free = seen.free
has_seen seen Book = seen.book
has_seen seen Only = seen.only
has_seen seen Json = seen.json

-- one option more was seen
abbrev pub seen_more : Seen → OptionName → Seen
seen_more seen Quantum = record seen { quantum = true }
seen_more seen Seed = record seen { seed = true }
seen_more seen Free = record seen { free = true }
seen_more seen Book = record seen { book = true }
seen_more seen Only = record seen { only = true }
seen_more seen Json = record seen { json = true }

abbrev pub nothing_seen : Seen
nothing_seen = record { quantum = false; seed = false; free = false; book = false; only = false; json = false }

abbrev pub standing : Seen → Bool → Standing
standing seen waits = record { seen = seen; waits = waits }

-- one option more, which wasn't seen before
abbrev pub after_option : Seen → OptionName → Bool → Option Standing
after_option seen option waits = if has_seen seen option then None else Some (standing (seen_more seen option) waits)

abbrev pub after_role : Seen → Option Role → Option Standing
after_role seen None = None
after_role seen (Some Plain) = Some (standing seen false)
after_role seen (Some (Whole option)) = after_option seen option false
after_role seen (Some (Opens option)) = after_option seen option true

-- where a value is missing, the word is it
abbrev pub after_value : Seen → Word → Option Standing
after_value seen word = if begins_with_hyphen word then None else Some (standing seen false)

-- how the line stands with one word more; none where the word may not stand there
abbrev pub stands_after : Standing → Word → Option Standing
stands_after s word = if s.waits then after_value s.seen word else after_role s.seen (role_of word)

-- the word ends the pieces: it is `--`, and no value
abbrev pub ends_pieces : Standing → Word → Bool
ends_pieces s word = not s.waits && bytes_eq word (codes "--")

abbrev pub goes_on : (Standing → Bool) → Option Standing → Bool
goes_on more None = false
goes_on more (Some s) = more s

-- words that stand so: no value is missing at their end
abbrev pub is_line_from : Standing → List Word → Bool
is_line_from s [] = not s.waits
is_line_from s (word ∷ words) = if ends_pieces s word then true else goes_on (λ next. is_line_from next words) (stands_after s word)

-- each word before `--` that begins with `-` is an option, which stands there at most once and has its value if it takes one
abbrev pub is_line : List Word → Bool
is_line words = is_line_from (standing nothing_seen false) words

-- a line in which each option stands at most once
pub record IsLine (words : List Word) : Type 0 where
  pub line : Line
  pub spelled : words ≡ words_of line
  pub plain : list_all is_plain line.pieces ≡ true
  pub once : (option : OptionName) → length (uses_of option line.pieces) ≤ 1

-- ---- the command's own word

-- the command that a word names
abbrev pub named : Word → Option Name
named word =
    if bytes_eq word (codes "once") then Some names.Once
    else if bytes_eq word (codes "serve") then Some names.Serve
    else if bytes_eq word (codes "book") then Some names.Book
    else if bytes_eq word (codes "show") then Some names.Show
    else if bytes_eq word (codes "conditions") then Some names.Conditions
    else if bytes_eq word (codes "trial") then Some names.Trial
    else None

-- the command whose word stands before a line
abbrev pub name_of_line : List Word → Option Name
name_of_line [] = None
name_of_line (word ∷ words) = if is_line words then named word else None
