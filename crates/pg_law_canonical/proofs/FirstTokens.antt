-- Which token a text begins with.
use Rattle.std.proofs.Common.{◌≡◌, ℕ, suc, ◌+◌, ◌/◌, ◌%◌, ◌<◌, ◌≤◌, List, [], ◌∷◌, ◌++◌, length, take, drop, drop_at, append_assoc, length-append}
use Rattle.std.proofs.Common.{refl, sym, ap, subst, ◌∙◌, arith, Some, None, Bool, true, false, not, ◌||◌, ◌&&◌, ◌==◌, eqb-true, lt-ltb, if◌then◌else◌, codes}
use Rattle.std.proofs.Common.{flat_map, position, nat_lt, nat_le}
use Rattle.std.specs.List.{list_all, list_any, prefix_len}
use Rattle.std.proofs.lemmas.List.Folds.{list_all-append}
use Rattle.pg_num.specs.Decimal.{is_digit, are_digits, is_decimal}
use Rattle.pg_read_lex.specs.declared.token.TokenKind.{TokenKind}
use Rattle.pg_read_lex.specs.declared.token.TokenKind.TheVariants.{Label, Int, Dots, CStr, Word, Str, Local, Global}
use Rattle.pg_read_lex.specs.declared.token.Piece.TheVariants.{Whole, Bad}
use Rattle.pg_read_lex.specs.Bytes.{is_blank, is_quote, is_colon, is_plus, is_letter, is_name_byte, is_run_byte, begins}
use Rattle.pg_read_lex.specs.Tokens.{run, string_end, string_length, is_name, is_dots, is_c, begins_word, with_string, run_piece, string_piece, named_piece, marked_piece, piece_of}
use Rattle.pg_read_ast.specs.Text.{hexadecimal, is_escaped, escaped_byte, quoted, is_bare, name_text}
use Rattle.pg_law_canonical.proofs.TokenTexts.{stops}

-- ---- tests

pub if_true : {A : Type 0} (c : Bool) (x y : A) → c ≡ true → (if c then x else y) ≡ x
if_true true x y h = refl
if_true false x y h = absurd cc

pub if_false : {A : Type 0} (c : Bool) (x y : A) → c ≡ false → (if c then x else y) ≡ y
if_false true x y h = absurd cc
if_false false x y h = refl

pub fore : (a b : Bool) → (a && b) ≡ true → a ≡ true
fore true b h = refl
fore false b h = absurd cc

pub aft : (a b : Bool) → (a && b) ≡ true → b ≡ true
aft true b h = h
aft false b h = absurd cc

pub both : (a b : Bool) → a ≡ true → b ≡ true → (a && b) ≡ true
both true b h k = k
both false b h k = absurd cc

pub none_left : (a b : Bool) → (a || b) ≡ false → a ≡ false
none_left true b h = absurd cc
none_left false b h = refl

pub none_right : (a b : Bool) → (a || b) ≡ false → b ≡ false
none_right true b h = absurd cc
none_right false b h = h

pub one_left : (a b : Bool) → a ≡ true → (a || b) ≡ true
one_left true b h = refl
one_left false b h = absurd cc

pub one_right : (a b : Bool) → b ≡ true → (a || b) ≡ true
one_right true b h = refl
one_right false b h = h

pub is_not : (a : Bool) → not a ≡ true → a ≡ false
is_not true h = absurd cc
is_not false h = refl

and_not : (a b : Bool) → b ≡ false → (a && b) ≡ false
and_not true b h = h
and_not false b h = refl

-- two bytes of which a test tells one from the other
pub apart_byte : (p : ℕ → Bool) (b n : ℕ) → p b ≡ true → p n ≡ false → (b == n) ≡ false
apart_byte p b n h k = by (b == n) refl
  where
    by : (c : Bool) → (b == n) ≡ c → (b == n) ≡ false
    by false e = e
    by true e = let z : b ≡ n = eqb-true b n e in absurd (let w : true ≡ false = sym h ∙ ap p z ∙ k in cc)

-- ---- runs

pub stops_run : (rest : List ℕ) → stops rest ≡ true → begins is_run_byte rest ≡ false
stops_run [] h = refl
stops_run (b ∷ bs) h = none_left (is_run_byte b) (is_quote b || is_colon b) (is_not (is_run_byte b || (is_quote b || is_colon b)) h)

pub stops_quote : (rest : List ℕ) → stops rest ≡ true → begins is_quote rest ≡ false
stops_quote [] h = refl
stops_quote (b ∷ bs) h = none_left (is_quote b) (is_colon b) (none_right (is_run_byte b) (is_quote b || is_colon b) (is_not (is_run_byte b || (is_quote b || is_colon b)) h))

pub stops_colon : (rest : List ℕ) → stops rest ≡ true → begins is_colon rest ≡ false
stops_colon [] h = refl
stops_colon (b ∷ bs) h = none_right (is_quote b) (is_colon b) (none_right (is_run_byte b) (is_quote b || is_colon b) (is_not (is_run_byte b || (is_quote b || is_colon b)) h))

no_blank : (b : ℕ) → is_run_byte b ≡ true → is_blank b ≡ false
no_blank b h = rw (apart_byte is_run_byte b 32 h refl, apart_byte is_run_byte b 9 h refl, apart_byte is_run_byte b 13 h refl, apart_byte is_run_byte b 10 h refl) refl

run_none : (rest : List ℕ) → begins is_run_byte rest ≡ false → run rest ≡ []
run_none [] h = refl
run_none (b ∷ bs) h = rw h refl

run_more : (b : ℕ) (bs : List ℕ) → is_run_byte b ≡ true → run (b ∷ bs) ≡ b ∷ run bs
run_more b bs h = ap (λ n. take n (b ∷ bs)) (if_true (is_run_byte b) (1 + prefix_len is_run_byte bs) 0 h ∙ one-more (prefix_len is_run_byte bs))
  where
    one-more : (n : ℕ) → 1 + n ≡ suc n
    one-more n = omega arith

pub run_is : (w rest : List ℕ) → list_all is_run_byte w ≡ true → begins is_run_byte rest ≡ false → run (w ++ rest) ≡ w
run_is [] rest h k = run_none rest k
run_is (b ∷ w) rest h k = run_more b (w ++ rest) (fore (is_run_byte b) (list_all is_run_byte w) h) ∙ ap (λ xs. b ∷ xs) (run_is w rest (aft (is_run_byte b) (list_all is_run_byte w) h) k)

piece_run : (w rest : List ℕ) → list_all is_run_byte w ≡ true → 0 < length w → begins is_run_byte rest ≡ false → piece_of (w ++ rest) ≡ run_piece w rest
unfolding piece_of
piece_run [] rest h l k = absurd (omega (arith, l))
piece_run (b ∷ w) rest h l k =
    let i : is_run_byte b ≡ true = fore (is_run_byte b) (list_all is_run_byte w) h in
    if_false (is_blank b) _ _ (no_blank b i) ∙ if_false (b == 59) _ _ (apart_byte is_run_byte b 59 i refl) ∙ if_true (is_run_byte b) _ _ i
    ∙ ap (λ r. run_piece r (drop (length r) ((b ∷ w) ++ rest))) (run_is (b ∷ w) rest h k) ∙ ap (λ a. run_piece (b ∷ w) a) (drop_at (b ∷ w) rest (length (b ∷ w)) refl)

-- ---- words, integers, dots

abbrev pub is_word_text : List ℕ → Bool
is_word_text w = list_all is_run_byte w && (not (is_decimal w) && (not (is_dots w) && begins begins_word w))

begun : (w : List ℕ) → begins begins_word w ≡ true → 0 < length w
begun [] h = absurd cc
begun (b ∷ w) h = omega arith

pub word_piece : (w rest : List ℕ) → is_word_text w ≡ true → stops rest ≡ true → piece_of (w ++ rest) ≡ Whole Word (length w)
unfolding run_piece
word_piece w rest h s =
    let a = fore (list_all is_run_byte w) (not (is_decimal w) && (not (is_dots w) && begins begins_word w)) h in
    let b = aft (list_all is_run_byte w) (not (is_decimal w) && (not (is_dots w) && begins begins_word w)) h in
    let c = aft (not (is_decimal w)) (not (is_dots w) && begins begins_word w) b in
    let d = aft (not (is_dots w)) (begins begins_word w) c in
    piece_run w rest a (begun w d) (stops_run rest s)
    ∙ if_false (is_name w && begins is_colon rest) _ _ (and_not (is_name w) (begins is_colon rest) (stops_colon rest s))
    ∙ if_false (is_decimal w) _ _ (is_not (is_decimal w) (fore (not (is_decimal w)) (not (is_dots w) && begins begins_word w) b))
    ∙ if_false (is_dots w) _ _ (is_not (is_dots w) (fore (not (is_dots w)) (begins begins_word w) c))
    ∙ if_false (is_c w && begins is_quote rest) _ _ (and_not (is_c w) (begins is_quote rest) (stops_quote rest s))
    ∙ if_true (begins begins_word w) _ _ d

pub dots_piece : (rest : List ℕ) → stops rest ≡ true → piece_of (codes "..." ++ rest) ≡ Whole Dots 3
unfolding run_piece
dots_piece rest s = piece_run (codes "...") rest refl (omega arith) (stops_run rest s) ∙ if_false (begins is_colon rest) _ _ (stops_colon rest s)

name_run : (b : ℕ) → is_name_byte b ≡ true → is_run_byte b ≡ true
name_run b h = one_left (is_name_byte b) (is_plus b) h

digit_run : (b : ℕ) → is_digit b ≡ true → is_run_byte b ≡ true
digit_run b h = name_run b (one_left (is_letter b || is_digit b || b == 45 || b == 36 || b == 46) (b == 95)
    (one_left (is_letter b || is_digit b || b == 45 || b == 36) (b == 46)
    (one_left (is_letter b || is_digit b || b == 45) (b == 36) (one_left (is_letter b || is_digit b) (b == 45) (one_right (is_letter b) (is_digit b) h)))))

pub all_more : (p q : ℕ → Bool) → ((b : ℕ) → p b ≡ true → q b ≡ true) → (w : List ℕ) → list_all p w ≡ true → list_all q w ≡ true
all_more p q f [] h = refl
all_more p q f (b ∷ w) h = both (q b) (list_all q w) (f b (fore (p b) (list_all p w) h)) (all_more p q f w (aft (p b) (list_all p w) h))

digits_run : (w : List ℕ) → are_digits w ≡ true → list_all is_run_byte w ≡ true
digits_run w h = all_more is_digit is_run_byte digit_run w (aft (not (length w == 0)) (list_all is_digit w) h)

decimal_run : (w : List ℕ) → is_decimal w ≡ true → list_all is_run_byte w ≡ true
decimal_run [] h = absurd cc
decimal_run (b ∷ w) h = by (b == 45) refl
  where
    by : (c : Bool) → (b == 45) ≡ c → list_all is_run_byte (b ∷ w) ≡ true
    by true e = both (is_run_byte b) (list_all is_run_byte w) (let z : b ≡ 45 = eqb-true b 45 e in subst (λ n. is_run_byte n ≡ true) (sym z) refl)
        (digits_run w (subst (λ xs. are_digits xs ≡ true) (if_true (b == 45) w (b ∷ w) e) h))
    by false e = digits_run (b ∷ w) (subst (λ xs. are_digits xs ≡ true) (if_false (b == 45) w (b ∷ w) e) h)

decimal_some : (w : List ℕ) → is_decimal w ≡ true → 0 < length w
decimal_some [] h = absurd cc
decimal_some (b ∷ w) h = omega arith

pub int_some : (w : List ℕ) → is_decimal w ≡ true → 0 < length w
int_some w h = decimal_some w h

pub int_piece : (w rest : List ℕ) → is_decimal w ≡ true → stops rest ≡ true → piece_of (w ++ rest) ≡ Whole Int (length w)
unfolding run_piece
int_piece w rest h s =
    piece_run w rest (decimal_run w h) (decimal_some w h) (stops_run rest s)
    ∙ if_false (is_name w && begins is_colon rest) _ _ (and_not (is_name w) (begins is_colon rest) (stops_colon rest s))
    ∙ if_true (is_decimal w) _ _ h

-- ---- strings

no_quote : (d : ℕ) → is_quote (hexadecimal d) ≡ false
no_quote d = by (nat_lt d 10) refl
  where
    far : (n : ℕ) → 48 ≤ n → is_quote n ≡ false
    far n h = apart_byte (λ m. nat_le 48 m) n 34 (search arith) refl

    by : (c : Bool) → nat_lt d 10 ≡ c → is_quote (if c then 48 + d else 55 + d) ≡ false
    by true e = far (48 + d) (omega arith)
    by false e = far (55 + d) (omega arith)

abbrev is_other : ℕ → Bool
is_other b = not (is_quote b)

escaped_plain : (b : ℕ) → list_all is_other (escaped_byte b) ≡ true
escaped_plain b = by (is_escaped b) refl
  where
    by : (c : Bool) → is_escaped b ≡ c → list_all is_other (if c then 92 ∷ hexadecimal (b / 16) ∷ hexadecimal (b % 16) ∷ [] else b ∷ []) ≡ true
    by true e = rw (no_quote (b / 16), no_quote (b % 16)) refl
    by false e = rw (none_left (b == 34) (b == 92) (none_left (b == 34 || b == 92) (not (nat_le 32 b && nat_le b 126)) e)) refl

all_plain : (s : List ℕ) → list_all is_other (flat_map escaped_byte s) ≡ true
all_plain [] = refl
all_plain (b ∷ s) = list_all-append is_other (escaped_byte b) (flat_map escaped_byte s)
    ∙ both (list_all is_other (escaped_byte b)) (list_all is_other (flat_map escaped_byte s)) (escaped_plain b) (all_plain s)

others : (e rest : List ℕ) → list_all is_other e ≡ true → prefix_len is_other (e ++ 34 ∷ rest) ≡ length e
others [] rest h = refl
others (b ∷ e) rest h = if_true (is_other b) (1 + prefix_len is_other (e ++ 34 ∷ rest)) 0 (fore (is_other b) (list_all is_other e) h)
    ∙ ap (λ n. 1 + n) (others e rest (aft (is_other b) (list_all is_other e) h)) ∙ omega arith

first_quote : (e rest : List ℕ) → list_all is_other e ≡ true → position is_quote (e ++ 34 ∷ rest) ≡ Some (length e)
first_quote e rest h = ap (λ n. if nat_lt n (length (e ++ 34 ∷ rest)) then Some n else None) (others e rest h)
    ∙ if_true (nat_lt (length e) (length (e ++ 34 ∷ rest))) _ _ (lt-ltb (length e) (length (e ++ 34 ∷ rest)) (omega (arith, length-append e (34 ∷ rest))))

-- the text between the quotes
abbrev pub inside : List ℕ → List ℕ
inside s = flat_map escaped_byte s

pub quoted_length : (s : List ℕ) → length (quoted s) ≡ length (inside s) + 2
quoted_length s = omega (arith, length-append (inside s) (34 ∷ []))

string_is : (s rest : List ℕ) → string_length (quoted s ++ rest) ≡ Some (length (quoted s))
string_is s rest = ap (λ bs. string_end (position is_quote bs)) (append_assoc (inside s) (34 ∷ []) rest) ∙ ap string_end (first_quote (inside s) rest (all_plain s))
    ∙ ap Some (sym (quoted_length s))

-- ---- names

bare_all : (w : List ℕ) → is_bare w ≡ true → list_all is_name_byte w ≡ true
bare_all [] h = absurd cc
bare_all (b ∷ w) h = h

bare_some : (w : List ℕ) → is_bare w ≡ true → 0 < length w
bare_some [] h = absurd cc
bare_some (b ∷ w) h = omega arith

no_plus : (w : List ℕ) → list_all is_name_byte w ≡ true → list_any is_plus w ≡ false
no_plus [] h = refl
no_plus (b ∷ w) h = rw (apart_byte is_name_byte b 43 (fore (is_name_byte b) (list_all is_name_byte w) h) refl) (no_plus w (aft (is_name_byte b) (list_all is_name_byte w) h))

bare_name : (w : List ℕ) → is_bare w ≡ true → is_name w ≡ true
bare_name [] h = absurd cc
bare_name (b ∷ w) h = rw (no_plus (b ∷ w) h) refl

pub bare_unquoted : (w : List ℕ) → is_bare w ≡ true → begins is_quote w ≡ false
bare_unquoted [] h = absurd cc
bare_unquoted (b ∷ w) h = apart_byte is_name_byte b 34 (fore (is_name_byte b) (list_all is_name_byte w) h) refl

unquoted_more : (w rest : List ℕ) → is_bare w ≡ true → begins is_quote (w ++ rest) ≡ false
unquoted_more [] rest h = absurd cc
unquoted_more (b ∷ w) rest h = bare_unquoted (b ∷ w) h

named_bare : (kind : TokenKind) (w rest : List ℕ) → is_bare w ≡ true → begins is_run_byte rest ≡ false → named_piece kind (w ++ rest) ≡ Whole kind (1 + length w)
named_bare kind w rest h k =
    if_false (begins is_quote (w ++ rest)) _ _ (unquoted_more w rest h)
    ∙ ap (λ r. if is_name r then Whole kind (1 + length r) else Bad) (run_is w rest (all_more is_name_byte is_run_byte name_run w (bare_all w h)) k)
    ∙ if_true (is_name w) _ _ (bare_name w h)

named_quoted : (kind : TokenKind) (s rest : List ℕ) → named_piece kind (quoted s ++ rest) ≡ Whole kind (1 + length (quoted s))
named_quoted kind s rest = ap (λ o. with_string kind 1 o) (string_is s rest)

named_text : (kind : TokenKind) (s rest : List ℕ) → stops rest ≡ true → named_piece kind (name_text s ++ rest) ≡ Whole kind (1 + length (name_text s))
unfolding name_text
named_text kind s rest t = by (is_bare s) refl
  where
    by : (c : Bool) → is_bare s ≡ c → named_piece kind ((if c then s else quoted s) ++ rest) ≡ Whole kind (1 + length (if c then s else quoted s))
    by true e = named_bare kind s rest e (stops_run rest t)
    by false e = named_quoted kind s rest

pub local_piece : (s rest : List ℕ) → stops rest ≡ true → piece_of ((37 ∷ name_text s) ++ rest) ≡ Whole Local (length (37 ∷ name_text s))
unfolding piece_of marked_piece
local_piece s rest t = named_text Local s rest t ∙ ap (λ n. Whole Local n) (omega arith)

pub global_piece : (s rest : List ℕ) → stops rest ≡ true → piece_of ((64 ∷ name_text s) ++ rest) ≡ Whole Global (length (64 ∷ name_text s))
unfolding piece_of marked_piece
global_piece s rest t = named_text Global s rest t ∙ ap (λ n. Whole Global n) (omega arith)

pub bytes_piece : (s rest : List ℕ) → piece_of ((99 ∷ quoted s) ++ rest) ≡ Whole CStr (length (99 ∷ quoted s))
unfolding run_piece
bytes_piece s rest = piece_run (99 ∷ []) (quoted s ++ rest) refl (omega arith) refl ∙ ap (λ o. with_string CStr 1 o) (string_is s rest) ∙ ap (λ n. Whole CStr n) (omega arith)

label_bare : (w rest : List ℕ) → is_bare w ≡ true → piece_of (w ++ 58 ∷ rest) ≡ Whole Label (length w + 1)
unfolding run_piece
label_bare w rest h = piece_run w (58 ∷ rest) (all_more is_name_byte is_run_byte name_run w (bare_all w h)) (bare_some w h) refl
    ∙ if_true (is_name w && true) _ _ (both (is_name w) true (bare_name w h) refl)

label_quoted : (s rest : List ℕ) → piece_of (quoted s ++ 58 ∷ rest) ≡ Whole Label (length (quoted s) + 1)
unfolding piece_of marked_piece
label_quoted s rest = ap (λ o. string_piece (quoted s ++ 58 ∷ rest) o) (string_is s (58 ∷ rest))
    ∙ ap (λ bs. if begins is_colon bs then Whole Label (length (quoted s) + 1) else Whole Str (length (quoted s))) (drop_at (quoted s) (58 ∷ rest) (length (quoted s)) refl)

pub label_piece : (s rest : List ℕ) → piece_of ((name_text s ++ 58 ∷ []) ++ rest) ≡ Whole Label (length (name_text s ++ 58 ∷ []))
unfolding name_text
label_piece s rest = ap piece_of (append_assoc (name_text s) (58 ∷ []) rest) ∙ by (is_bare s) refl ∙ ap (λ n. Whole Label n) (sym (length-append (name_text s) (58 ∷ [])))
  where
    by : (c : Bool) → is_bare s ≡ c → piece_of ((if c then s else quoted s) ++ 58 ∷ rest) ≡ Whole Label (length (if c then s else quoted s) + 1)
    by true e = label_bare s rest e
    by false e = label_quoted s rest
