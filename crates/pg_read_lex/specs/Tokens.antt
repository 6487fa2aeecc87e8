-- The tokens of a text: at each place the longest one of the forms below, and no token in blank space and comments.
use Rattle.std.specs.Prelude.{ℕ, zero, suc, ◌+◌, ◌-◌, Bool, false, ◌&&◌, ◌||◌, ◌==◌, not, List, [], ◌∷◌, length, drop}
use Rattle.std.specs.Prelude.{Option, Some, None, if◌then◌else◌, take_while, position, Result, Ok, Err, ◌≤◌, ◌<◌}
use Rattle.std.specs.List.{list_all, list_any}
use Rattle.pg_num.specs.Decimal.{is_decimal}
use Rattle.pg_read_lex.specs.declared.token.TokenKind.{TokenKind}
use Rattle.pg_read_lex.specs.declared.token.TokenKind.TheVariants.{Label, Int, Dots, CStr, Word, Odd, Str, Local, Global}
use Rattle.pg_read_lex.specs.declared.token.TokenKind.TheVariants.{Meta, Attr, OpenRound, CloseRound, OpenBrace, CloseBrace}
use Rattle.pg_read_lex.specs.declared.token.TokenKind.TheVariants.{OpenSquare, CloseSquare, Less, Greater, Comma, Equals}
use Rattle.pg_read_lex.specs.declared.token.TokenKind.TheVariants.{Star, Bar, Colon}
use Rattle.pg_read_lex.specs.declared.token.Token.{Token}
use Rattle.pg_read_lex.specs.declared.token.LexFault.{LexFault}
use Rattle.pg_read_lex.specs.declared.token.LexFault.TheVariants.{BadByte, OpenString}
use Rattle.pg_read_lex.specs.declared.token.Piece.{Piece}
use Rattle.pg_read_lex.specs.declared.token.Piece.TheVariants.{Gap, Whole, Bad, Open}
use Rattle.pg_read_lex.specs.Bytes.{is_blank, is_line_feed, is_quote, is_colon, is_plus, is_letter, is_run_byte, begins}

-- the longest run that the bytes begin with
abbrev pub run : List ℕ → List ℕ
run bs = take_while is_run_byte bs

-- the length of the string that the bytes begin with, with both quotes
abbrev pub string_end : Option ℕ → Option ℕ
string_end (Some n) = Some (n + 2)
string_end None = None

abbrev pub string_length : List ℕ → Option ℕ
string_length [] = None
string_length (b ∷ bs) = string_end (position is_quote bs)

-- a run that is a name
abbrev pub is_name : List ℕ → Bool
is_name [] = false
is_name (b ∷ bs) = not (list_any is_plus (b ∷ bs))

-- ...
abbrev pub is_dots : List ℕ → Bool
is_dots r = length r == 3 && list_all (λ b. b == 46) r

-- c
abbrev pub is_c : List ℕ → Bool
is_c r = length r == 1 && list_all (λ b. b == 99) r

abbrev pub begins_word : ℕ → Bool
begins_word b = is_letter b || b == 95

-- a token with a string, of which so many bytes stand before the string
abbrev pub with_string : TokenKind → ℕ → Option ℕ → Piece
with_string kind before None = Open before
with_string kind before (Some n) = Whole kind (before + n)

-- the token that is a run, before what follows it
unfoldable pub run_piece : List ℕ → List ℕ → Piece
run_piece r after =
    if is_name r && begins is_colon after then Whole Label (length r + 1)
    else if is_decimal r then Whole Int (length r)
    else if is_dots r then Whole Dots (length r)
    else if is_c r && begins is_quote after then with_string CStr 1 (string_length after)
    else if begins begins_word r then Whole Word (length r)
    else Whole Odd (length r)

-- a string, or a label where a colon follows
abbrev pub string_piece : List ℕ → Option ℕ → Piece
string_piece bs None = Open 0
string_piece bs (Some n) = if begins is_colon (drop n bs) then Whole Label (n + 1) else Whole Str n

-- % or @ before these bytes
abbrev pub named_piece : TokenKind → List ℕ → Piece
named_piece kind bs =
    if begins is_quote bs then with_string kind 1 (string_length bs)
    else if is_name (run bs) then Whole kind (1 + length (run bs))
    else Bad

-- the punctuation marks
unfoldable pub mark_of : ℕ → Option TokenKind
mark_of b =
    if b == 40 then Some OpenRound else if b == 41 then Some CloseRound
    else if b == 123 then Some OpenBrace else if b == 125 then Some CloseBrace
    else if b == 91 then Some OpenSquare else if b == 93 then Some CloseSquare
    else if b == 60 then Some Less else if b == 62 then Some Greater
    else if b == 44 then Some Comma else if b == 61 then Some Equals
    else if b == 42 then Some Star else if b == 124 then Some Bar
    else if b == 58 then Some Colon
    else None

abbrev pub mark_piece : Option TokenKind → Piece
mark_piece (Some kind) = Whole kind 1
mark_piece None = Bad

-- bytes that begin with one that isn't blank and stands in no run
unfoldable pub marked_piece : ℕ → List ℕ → List ℕ → Piece
marked_piece b text rest =
    if is_quote b then string_piece text (string_length text)
    else if b == 37 then named_piece Local rest
    else if b == 64 then named_piece Global rest
    else if b == 33 then Whole Meta (1 + length (run rest))
    else if b == 35 then (if length (run rest) == 0 then Bad else Whole Attr (1 + length (run rest)))
    else mark_piece (mark_of b)

-- what the bytes begin with: a blank, a comment (; to the line's end), a run, or what its first byte says
unfoldable pub piece_of : List ℕ → Piece
piece_of [] = Bad
piece_of (b ∷ bs) =
    if is_blank b then Gap 1
    else if b == 59 then Gap (1 + length (take_while (λ c. not (is_line_feed c)) bs))
    else if is_run_byte b then run_piece (run (b ∷ bs)) (drop (length (run (b ∷ bs))) (b ∷ bs))
    else marked_piece b (b ∷ bs) bs

-- a gap and a token have a byte at least, and nothing reaches over the end
unfoldable pub IsWithin : Piece → ℕ → Type 0
IsWithin (Gap n) size = (1 ≤ n) × (n ≤ size)
IsWithin (Whole kind n) size = (1 ≤ n) × (n ≤ size)
IsWithin Bad size = Unit {0}
IsWithin (Open n) size = n ≤ size

abbrev pub ahead : Token → Result (List Token) LexFault → Result (List Token) LexFault
ahead t (Ok ts) = Ok (t ∷ ts)
ahead t (Err fault) = Err fault

-- a piece at a place, and what comes so many bytes later
abbrev pub placed : ℕ → Piece → (ℕ → Result (List Token) LexFault) → Result (List Token) LexFault
placed at (Gap n) later = later n
placed at (Whole kind n) later = ahead (record { kind = kind; span = record { start = at; end = at + n } }) (later n)
placed at Bad later = Err (BadByte at)
placed at (Open n) later = Err (OpenString (at + n))

-- the tokens of the bytes that stand at a place, where the first few belong to the piece before
unfoldable pub tokens_from : ℕ → ℕ → List ℕ → Result (List Token) LexFault
tokens_from skip at [] = Ok []
tokens_from (suc skip) at (b ∷ bs) = tokens_from skip (at + 1) bs
tokens_from zero at (b ∷ bs) = placed at (piece_of (b ∷ bs)) (λ n. tokens_from (n - 1) (at + 1) bs)

-- the tokens of a text, or its first fault
abbrev pub tokens : List ℕ → Result (List Token) LexFault
tokens text = tokens_from 0 0 text

-- each token has a byte at least, and ends before the next begins, all between two places
abbrev pub IsAscending : ℕ → List Token → ℕ → Type 0
IsAscending from [] to = from ≤ to
IsAscending from (t ∷ ts) to = (from ≤ t.span.start) × (t.span.start < t.span.end) × IsAscending t.span.end ts to
