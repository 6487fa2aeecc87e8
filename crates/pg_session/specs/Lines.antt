-- The lines of a session's input, and the numbers on each. A line is its bytes, without the line feed at its end.
use Rattle.std.specs.Prelude.{ℕ, ◌-◌, ◌^◌, Bool, ◌==◌, ◌||◌, nat_le, if◌then◌else◌, List, [], ◌∷◌, ◌++◌, length, ℤ, pos, negsuc, Option, Some, None}
use Rattle.std.specs.Option.{option_map}
use Rattle.pg_num.specs.Decimal.{decimal_between}
use Rattle.pg_num.specs.declared.limits.TheConstants.{LINE_LIMIT, NUMBERS_LIMIT}

-- ---- the lines of a text

-- the lines that end at a line feed, where these bytes stand before the first byte
abbrev pub ended_behind : List ℕ → List ℕ → List (List ℕ)
ended_behind begun [] = []
ended_behind begun (byte ∷ bytes) = if byte == 10 then begun ∷ ended_behind [] bytes else ended_behind (begun ++ byte ∷ []) bytes

-- the bytes behind the last line feed, where these stand before the first byte
abbrev pub begun_behind : List ℕ → List ℕ → List ℕ
begun_behind begun [] = begun
begun_behind begun (byte ∷ bytes) = if byte == 10 then begun_behind [] bytes else begun_behind (begun ++ byte ∷ []) bytes

-- the lines of a text that end at a line feed
abbrev pub ended_lines : List ℕ → List (List ℕ)
ended_lines text = ended_behind [] text

-- a line that the end of a text ends, if it has a byte
abbrev pub last_line : List ℕ → List (List ℕ)
last_line [] = []
last_line (byte ∷ bytes) = (byte ∷ bytes) ∷ []

-- all lines of a text
abbrev pub lines_of : List ℕ → List (List ℕ)
lines_of text = ended_lines text ++ last_line (begun_behind [] text)

-- ---- the numbers on a line

-- a space or a tab
abbrev pub is_blank : ℕ → Bool
is_blank byte = byte == 32 || byte == 9

-- the words between single blanks, where these bytes stand before the first byte
abbrev pub words_behind : List ℕ → List ℕ → List (List ℕ)
words_behind begun [] = begun ∷ []
words_behind begun (byte ∷ bytes) = if is_blank byte then begun ∷ words_behind [] bytes else words_behind (begun ++ byte ∷ []) bytes

-- the words of a line; an empty line has none
abbrev pub words_of : List ℕ → List (List ℕ)
words_of [] = []
words_of (byte ∷ bytes) = words_behind [] (byte ∷ bytes)

-- a number: an optional `-` and one or more digits, with a value in 64 bits with a sign
abbrev pub number_of : List ℕ → Option ℤ
number_of word = decimal_between (negsuc (2 ^ 63 - 1)) (pos (2 ^ 63 - 1)) word

-- a number before others, where all are there
abbrev pub number_before : Option ℤ → Option (List ℤ) → Option (List ℤ)
number_before None numbers = None
number_before (Some number) numbers = option_map (λ ns. number ∷ ns) numbers

-- the number of each word, where each is one
abbrev pub numbers_of : List (List ℕ) → Option (List ℤ)
numbers_of [] = Some []
numbers_of (word ∷ words) = number_before (number_of word) (numbers_of words)

-- numbers, where they are not too many
abbrev pub few : Option (List ℤ) → Option (List ℤ)
few None = None
few (Some numbers) = if nat_le (length numbers) NUMBERS_LIMIT then Some numbers else None

-- the input that a line is, or None where it is none
abbrev pub input_of : List ℕ → Option (List ℤ)
input_of line = if nat_le (length line) LINE_LIMIT then few (numbers_of (words_of line)) else None
