-- The tokens of a text of bytes: their bytes, and what stands in integers and globals.
use Rattle.std.proofs.Common.{◌≡◌, ℕ, zero, suc, ◌+◌, ◌-◌, ◌*◌, ◌<◌, ◌≤◌, List, [], ◌∷◌, ◌++◌, length, take, drop, drop_at, append_assoc}
use Rattle.std.proofs.Common.{length-append, refl, sym, ap, subst, ◌∙◌, arith, Result, Ok, Err, Option, Some, None, unwrap_or, option_map, find, bytes_eq, Bool, true, false, not}
use Rattle.std.proofs.Common.{◌||◌, ◌&&◌, ◌==◌, if◌then◌else◌, IsTrue, nat_le, lt-ltb, leb-true, ltb-true}
use Rattle.std.specs.List.{list_all}
use Rattle.std.proofs.lemmas.List.Folds.{length-prefix_len}
use Rattle.pg_num.specs.Decimal.{is_digit, is_decimal}
use Rattle.pg_read_lex.specs.declared.token.TokenKind.{TokenKind}
use Rattle.pg_read_lex.specs.declared.token.TokenKind.TheVariants as kinds
use Rattle.pg_read_lex.specs.declared.token.Token.{Token as Lexed}
use Rattle.pg_read_lex.specs.declared.token.LexFault.{LexFault}
use Rattle.pg_read_lex.specs.declared.token.LexFault.TheVariants.{BadByte, OpenString}
use Rattle.pg_read_lex.specs.declared.token.Piece.{Piece}
use Rattle.pg_read_lex.specs.declared.token.Piece.TheVariants.{Gap, Whole, Bad, Open}
use Rattle.pg_read_lex.specs.Bytes.{is_blank, is_quote, is_colon, is_run_byte, begins}
use Rattle.pg_read_lex.specs.Names.{is_hexadecimal, hexadecimal_value, Escape, escape_of, unescaped_from, unescaped, inside_quotes, name_of, token_name}
use Rattle.pg_read_lex.specs.Tokens.{run, string_length, is_name, is_dots, is_c, begins_word, with_string, run_piece, string_piece, named_piece, mark_of, mark_piece, marked_piece, piece_of}
use Rattle.pg_read_lex.specs.Tokens.{placed, ahead, tokens_from, tokens}
use Rattle.pg_read_grammar.specs.declared.class.Class.{Class}
use Rattle.pg_read_grammar.specs.declared.class.Class.TheVariants as classes
use Rattle.pg_read_grammar.specs.Classes.{is}
use Rattle.pg_read_grammar.specs.Words.{is_integer_type, class_by_form, words, class_in, word_class, is_dropped, is_debug, class_of, bytes_at, stands_for, seen, classified}
use Rattle.pg_law_canonical.proofs.FirstTokens.{fore, aft, both}
use Rattle.pg_law_canonical.proofs.Names.{is_byte}
use Rattle.pg_law_canonical.proofs.PieceYields.{IsFormed, AreFormed}

-- ---- bytes

take_bytes : (n : ℕ) (bs : List ℕ) → list_all is_byte bs ≡ true → list_all is_byte (take n bs) ≡ true
take_bytes zero bs h = refl
take_bytes (suc n) [] h = refl
take_bytes (suc n) (b ∷ bs) h = both (is_byte b) (list_all is_byte (take n bs)) (fore (is_byte b) (list_all is_byte bs) h) (take_bytes n bs (aft (is_byte b) (list_all is_byte bs) h))

drop_bytes : (n : ℕ) (bs : List ℕ) → list_all is_byte bs ≡ true → list_all is_byte (drop n bs) ≡ true
drop_bytes zero bs h = h
drop_bytes (suc n) [] h = refl
drop_bytes (suc n) (b ∷ bs) h = drop_bytes n bs (aft (is_byte b) (list_all is_byte bs) h)

value_small : (c : ℕ) → is_hexadecimal c ≡ true → hexadecimal_value c < 16
value_small c h = by (is_digit c) refl
  where
    digit : nat_le c 57 ≡ true → c - 48 < 16
    digit e = let k : c ≤ 57 = leb-true c 57 e in omega (arith, k)

    big : nat_le c 70 ≡ true → c - 55 < 16
    big e = let k : c ≤ 70 = leb-true c 70 e in omega (arith, k)

    small : nat_le c 102 ≡ true → c - 87 < 16
    small e = let k : c ≤ 102 = leb-true c 102 e in omega (arith, k)

    letter : (d : Bool) → nat_le c 70 ≡ d → is_digit c ≡ false → (if d then c - 55 else c - 87) < 16
    letter true e f = big e
    letter false e f = small (last (is_digit c) (nat_le 65 c) (nat_le c 70) (nat_le 97 c) (nat_le c 102) f e h)
      where
        last : (a b d x y : Bool) → a ≡ false → d ≡ false → (a || (b && d) || (x && y)) ≡ true → y ≡ true
        last true b d x y p q r = absurd cc
        last false b true x y p q r = absurd cc
        last false true false x y p q r = aft x y r
        last false false false x y p q r = aft x y r

    by : (d : Bool) → is_digit c ≡ d → (if d then c - 48 else if nat_le c 70 then c - 55 else c - 87) < 16
    by true e = digit (aft (nat_le 48 c) (nat_le c 57) e)
    by false e = letter (nat_le c 70) refl e

abbrev IsSmall : Escape → Type 0
IsSmall e = e.byte < 256

escape_small : (b : ℕ) (bs : List ℕ) → b < 256 → (escape_of b bs).byte < 256
escape_small b [] h = h
escape_small b (c ∷ []) h = by (b == 92 && c == 92)
  where
    by : (d : Bool) → IsSmall (if d then record { byte = 92; size = 2 } else record { byte = b; size = 1 })
    by true = omega arith
    by false = h
escape_small b (c ∷ d ∷ bs) h = by (b == 92 && c == 92) (b == 92 && is_hexadecimal c && is_hexadecimal d) (λ k. value k)
  where
    value : (b == 92 && is_hexadecimal c && is_hexadecimal d) ≡ true → hexadecimal_value c * 16 + hexadecimal_value d < 256
    value k = let x = value_small c (aft (b == 92) (is_hexadecimal c) (fore (b == 92 && is_hexadecimal c) (is_hexadecimal d) k)) in
        let y = value_small d (aft (b == 92 && is_hexadecimal c) (is_hexadecimal d) k) in omega (arith, x, y)

    by : (x y : Bool) → (y ≡ true → hexadecimal_value c * 16 + hexadecimal_value d < 256)
        → IsSmall (if x then record { byte = 92; size = 2 } else if y then record { byte = hexadecimal_value c * 16 + hexadecimal_value d; size = 3 } else record { byte = b; size = 1 })
    by true y k = omega arith
    by false true k = k refl
    by false false k = h

unescaped_bytes : (skip : ℕ) (bs : List ℕ) → list_all is_byte bs ≡ true → list_all is_byte (unescaped_from skip bs) ≡ true
unfolding unescaped_from
unescaped_bytes skip [] h = refl
unescaped_bytes (suc skip) (b ∷ bs) h = unescaped_bytes skip bs (aft (is_byte b) (list_all is_byte bs) h)
unescaped_bytes zero (b ∷ bs) h = both (is_byte (escape_of b bs).byte) _ (lt-ltb (escape_of b bs).byte 256 (escape_small b bs (ltb-true b 256 (fore (is_byte b) (list_all is_byte bs) h))))
    (unescaped_bytes ((escape_of b bs).size - 1) bs (aft (is_byte b) (list_all is_byte bs) h))

name_bytes : (bs : List ℕ) → list_all is_byte bs ≡ true → list_all is_byte (name_of bs) ≡ true
name_bytes bs h = by (begins is_quote bs)
  where
    by : (c : Bool) → list_all is_byte (if c then unescaped (inside_quotes bs) else bs) ≡ true
    by true = unescaped_bytes 0 (inside_quotes bs) (take_bytes (length bs - 2) (drop 1 bs) (drop_bytes 1 bs h))
    by false = h

token_bytes : (kind : TokenKind) (bs : List ℕ) → list_all is_byte bs ≡ true → list_all is_byte (token_name kind bs) ≡ true
token_bytes kinds.Label bs h = name_bytes (take (length bs - 1) bs) (take_bytes (length bs - 1) bs h)
token_bytes kinds.Local bs h = name_bytes (drop 1 bs) (drop_bytes 1 bs h)
token_bytes kinds.Global bs h = name_bytes (drop 1 bs) (drop_bytes 1 bs h)
token_bytes kinds.CStr bs h = name_bytes (drop 1 bs) (drop_bytes 1 bs h)
token_bytes kinds.Str bs h = name_bytes bs h
token_bytes _ bs h = h

-- ---- classes

abbrev is_other : Class → Bool
is_other c = not (is classes.Int c || is classes.Global c)

row_other : (rows : List (List ℕ × Class)) (w : List ℕ) (d : Class) → list_all (λ row. is_other row.1) rows ≡ true → is_other d ≡ true
    → is_other (unwrap_or (class_in rows w) d) ≡ true
row_other [] w d h k = k
row_other (row ∷ rows) w d h k = by (bytes_eq row.0 w) (fore (is_other row.1) (list_all (λ r. is_other r.1) rows) h)
    (row_other rows w d (aft (is_other row.1) (list_all (λ r. is_other r.1) rows) h) k)
  where
    by : (c : Bool) → is_other row.1 ≡ true → is_other (unwrap_or (class_in rows w) d) ≡ true
        → is_other (unwrap_or (option_map (λ r. r.1) (if c then Some row else find (λ r. bytes_eq r.0 w) rows)) d) ≡ true
    by true x y = x
    by false x y = y

word_other : (w : List ℕ) → is_other (word_class w) ≡ true
unfolding word_class words
word_other w = row_other words w (class_by_form w) refl (by (is_integer_type w))
  where
    by : (c : Bool) → is_other (if c then classes.OtherType else classes.OtherWord) ≡ true
    by true = refl
    by false = refl

not_int : (c : Class) → is_other c ≡ true → IsTrue (is classes.Int c) → ⊥
not_int c h k = clash (is classes.Int c) (is classes.Global c) h k
  where
    clash : (a b : Bool) → not (a || b) ≡ true → a ≡ true → ⊥
    clash true b h k = cc
    clash false b h k = cc

not_global : (c : Class) → is_other c ≡ true → IsTrue (is classes.Global c) → ⊥
not_global c h k = clash (is classes.Int c) (is classes.Global c) h k
  where
    clash : (a b : Bool) → not (a || b) ≡ true → b ≡ true → ⊥
    clash true b h k = cc
    clash false true h k = cc
    clash false false h k = cc

if_other : (c : Bool) (x y : Class) → is_other x ≡ true → is_other y ≡ true → is_other (if c then x else y) ≡ true
if_other true x y h k = h
if_other false x y h k = k

abbrev is_int : TokenKind → Bool
is_int kinds.Int = true
is_int _ = false

int_decimal : (kind : TokenKind) (bs : List ℕ) → (IsTrue (is_int kind) → is_decimal bs ≡ true) → IsTrue (is classes.Int (class_of kind (token_name kind bs)))
    → is_decimal (token_name kind bs) ≡ true
int_decimal kinds.Int bs h k = h refl
int_decimal kinds.Word bs h k = absurd (not_int (word_class bs) (word_other bs) k)
int_decimal kinds.Global bs h k = absurd (by (is_dropped (name_of (drop 1 bs))) k)
  where
    by : (c : Bool) → IsTrue (is classes.Int (if c then classes.DroppedGlobal else classes.Global)) → ⊥
    by true k = cc
    by false k = cc
int_decimal kinds.Meta bs h k = absurd (not_int (if length bs == 1 then classes.Bang else classes.Meta) (if_other (length bs == 1) classes.Bang classes.Meta refl refl) k)
int_decimal kinds.Attr bs h k = absurd (not_int (if is_debug bs then classes.DebugAttr else classes.Attr) (if_other (is_debug bs) classes.DebugAttr classes.Attr refl refl) k)
int_decimal _ bs h k = absurd (let z : false ≡ true = k in cc)

global_kept : (kind : TokenKind) (bs : List ℕ) → IsTrue (is classes.Global (class_of kind bs)) → is_dropped bs ≡ false
global_kept kinds.Global bs k = by (is_dropped bs) k
  where
    by : (c : Bool) → IsTrue (is classes.Global (if c then classes.DroppedGlobal else classes.Global)) → c ≡ false
    by true k = absurd (let z : false ≡ true = k in cc)
    by false k = refl
global_kept kinds.Word bs k = absurd (not_global (word_class bs) (word_other bs) k)
global_kept kinds.Meta bs k = absurd (not_global (if length bs == 1 then classes.Bang else classes.Meta) (if_other (length bs == 1) classes.Bang classes.Meta refl refl) k)
global_kept kinds.Attr bs k = absurd (not_global (if is_debug bs then classes.DebugAttr else classes.Attr) (if_other (is_debug bs) classes.DebugAttr classes.Attr refl refl) k)
global_kept _ bs k = absurd (let z : false ≡ true = k in cc)

-- ---- integers

-- an integer that these bytes begin with is one
abbrev IntOk : List ℕ → Piece → Type 0
IntOk bs (Gap n) = Unit {0}
IntOk bs (Whole kind n) = IsTrue (is_int kind) → is_decimal (take n bs) ≡ true
IntOk bs Bad = Unit {0}
IntOk bs (Open n) = Unit {0}

pick : (bs : List ℕ) (b : Bool) (x y : Piece) → (b ≡ true → IntOk bs x) → (b ≡ false → IntOk bs y) → IntOk bs (if b then x else y)
pick bs true x y h k = h refl
pick bs false x y h k = k refl

other_kind : (bs : List ℕ) (kind : TokenKind) (n : ℕ) → is_int kind ≡ false → IntOk bs (Whole kind n)
other_kind bs kind n h k = absurd (let z : false ≡ true = sym h ∙ k in cc)

with_ok : (bs : List ℕ) (kind : TokenKind) (before : ℕ) (o : Option ℕ) → is_int kind ≡ false → IntOk bs (with_string kind before o)
with_ok bs kind before None h = tt
with_ok bs kind before (Some n) h = other_kind bs kind (before + n) h

run_ok : (bs r after : List ℕ) → take (length r) bs ≡ r → IntOk bs (run_piece r after)
unfolding run_piece
run_ok bs r after e = pick bs (is_name r && begins is_colon after) _ _ (λ _. other_kind bs kinds.Label (length r + 1) refl)
    (λ _. pick bs (is_decimal r) _ _ (λ d _. ap is_decimal e ∙ d)
    (λ _. pick bs (is_dots r) _ _ (λ _. other_kind bs kinds.Dots (length r) refl)
    (λ _. pick bs (is_c r && begins is_quote after) _ _ (λ _. with_ok bs kinds.CStr 1 (string_length after) refl)
    (λ _. pick bs (begins begins_word r) _ _ (λ _. other_kind bs kinds.Word (length r) refl) (λ _. other_kind bs kinds.Odd (length r) refl)))))

string_ok : (bs : List ℕ) (o : Option ℕ) → IntOk bs (string_piece bs o)
string_ok bs None = tt
string_ok bs (Some n) = pick bs (begins is_colon (drop n bs)) _ _ (λ _. other_kind bs kinds.Label (n + 1) refl) (λ _. other_kind bs kinds.Str n refl)

named_ok : (bs : List ℕ) (kind : TokenKind) (rest : List ℕ) → is_int kind ≡ false → IntOk bs (named_piece kind rest)
named_ok bs kind rest h = pick bs (begins is_quote rest) _ _ (λ _. with_ok bs kind 1 (string_length rest) h)
    (λ _. pick bs (is_name (run rest)) _ _ (λ _. other_kind bs kind (1 + length (run rest)) h) (λ _. tt))

abbrev IsMark : Option TokenKind → Type 0
IsMark None = Unit {0}
IsMark (Some kind) = is_int kind ≡ false

mark_if : (c : Bool) (x y : Option TokenKind) → IsMark x → IsMark y → IsMark (if c then x else y)
mark_if true x y h k = h
mark_if false x y h k = k

mark_is : (b : ℕ) → IsMark (mark_of b)
unfolding mark_of
mark_is b = mark_if (b == 40) _ _ refl (mark_if (b == 41) _ _ refl
    (mark_if (b == 123) _ _ refl (mark_if (b == 125) _ _ refl
    (mark_if (b == 91) _ _ refl (mark_if (b == 93) _ _ refl
    (mark_if (b == 60) _ _ refl (mark_if (b == 62) _ _ refl
    (mark_if (b == 44) _ _ refl (mark_if (b == 61) _ _ refl (mark_if (b == 42) _ _ refl (mark_if (b == 124) _ _ refl (mark_if (b == 58) _ _ refl tt))))))))))))

mark_ok : (bs : List ℕ) (o : Option TokenKind) → IsMark o → IntOk bs (mark_piece o)
mark_ok bs None h = tt
mark_ok bs (Some kind) h = other_kind bs kind 1 h

marked_ok : (b : ℕ) (bs : List ℕ) → IntOk (b ∷ bs) (marked_piece b (b ∷ bs) bs)
unfolding marked_piece
marked_ok b bs = pick (b ∷ bs) (is_quote b) _ _ (λ _. string_ok (b ∷ bs) (string_length (b ∷ bs)))
    (λ _. pick (b ∷ bs) (b == 37) _ _ (λ _. named_ok (b ∷ bs) kinds.Local bs refl) (λ _. pick (b ∷ bs) (b == 64) _ _ (λ _. named_ok (b ∷ bs) kinds.Global bs refl)
    (λ _. pick (b ∷ bs) (b == 33) _ _ (λ _. other_kind (b ∷ bs) kinds.Meta (1 + length (run bs)) refl)
    (λ _. pick (b ∷ bs) (b == 35) _ _ (λ _. pick (b ∷ bs) (length (run bs) == 0) _ _ (λ _. tt) (λ _. other_kind (b ∷ bs) kinds.Attr (1 + length (run bs)) refl))
    (λ _. mark_ok (b ∷ bs) (mark_of b) (mark_is b))))))

piece_ok : (bs : List ℕ) → IntOk bs (piece_of bs)
unfolding piece_of
piece_ok [] = tt
piece_ok (b ∷ bs) = pick (b ∷ bs) (is_blank b) _ _ (λ _. tt)
    (λ _. pick (b ∷ bs) (b == 59) _ _ (λ _. tt) (λ _. pick (b ∷ bs) (is_run_byte b) _ _
    (λ _. run_ok (b ∷ bs) (run (b ∷ bs)) (drop (length (run (b ∷ bs))) (b ∷ bs)) (ap (λ n. take n (b ∷ bs)) (length-prefix_len is_run_byte (b ∷ bs)))) (λ _. marked_ok b bs)))

-- ---- all tokens

abbrev IsWhole : List ℕ → Lexed → Type 0
IsWhole text t = IsTrue (is_int t.kind) → is_decimal (bytes_at text t.span) ≡ true

abbrev AreWhole : List ℕ → List Lexed → Type 0
AreWhole text [] = Unit {0}
AreWhole text (t ∷ ts) = IsWhole text t × AreWhole text ts

none_left : (text : List ℕ) (ls : List Lexed) → ◌≡◌ {A = Result (List Lexed) LexFault} (Ok []) (Ok ls) → AreWhole text ls
none_left text [] e = tt
none_left text (t ∷ ts) e = absurd (let z : [] ≡ t ∷ ts = cc in cc)

bytes_here : (front bs : List ℕ) (n : ℕ) → bytes_at (front ++ bs) (record { start = length front; end = length front + n }) ≡ take n bs
bytes_here front bs n = ap (λ xs. take (length front + n - length front) xs) (drop_at front bs (length front) refl) ∙ ap (λ k. take k bs) less
  where
    less : length front + n - length front ≡ n
    less = omega arith

placed_whole : (front bs : List ℕ) (p : Piece) (later : ℕ → Result (List Lexed) LexFault) (ls : List Lexed) → IntOk bs p → placed (length front) p later ≡ Ok ls
    → ((n : ℕ) (ms : List Lexed) → later n ≡ Ok ms → AreWhole (front ++ bs) ms) → AreWhole (front ++ bs) ls
placed_whole front bs (Gap n) later ls i e rec = rec n ls e
placed_whole front bs Bad later ls i e rec = absurd (let z : ◌≡◌ {A = Result (List Lexed) LexFault} (Err (BadByte (length front))) (Ok ls) = e in cc)
placed_whole front bs (Open n) later ls i e rec = absurd (let z : ◌≡◌ {A = Result (List Lexed) LexFault} (Err (OpenString (length front + n))) (Ok ls) = e in cc)
placed_whole front bs (Whole kind n) later ls i e rec = by (later n) refl ls e
  where
    by : (r : Result (List Lexed) LexFault) → later n ≡ r → (ks : List Lexed) → ahead (record { kind = kind; span = record { start = length front; end = length front + n } }) r ≡ Ok ks
        → AreWhole (front ++ bs) ks
    by (Ok ms) f [] w = absurd (let z : ◌≡◌ {A = Result (List Lexed) LexFault} (Ok (record { kind = kind; span = record { start = length front; end = length front + n } } ∷ ms))
        (Ok []) = w in cc)
    by (Ok ms) f (k ∷ ks) w =
        let z : ◌≡◌ {A = Result (List Lexed) LexFault} (Ok (record { kind = kind; span = record { start = length front; end = length front + n } } ∷ ms)) (Ok (k ∷ ks)) = w in
        let x : record { kind = kind; span = record { start = length front; end = length front + n } } ≡ k = cc in
        let y : ms ≡ ks = cc in
        (subst (IsWhole (front ++ bs)) x (λ c. ap is_decimal (bytes_here front bs n) ∙ i c), rec n ks (f ∙ ap Ok y))
    by (Err d) f ks w = absurd (let z : ◌≡◌ {A = Result (List Lexed) LexFault} (Err d) (Ok ks) = w in cc)

whole : (skip : ℕ) (front bs : List ℕ) (ls : List Lexed) → tokens_from skip (length front) bs ≡ Ok ls → AreWhole (front ++ bs) ls
unfolding tokens_from
whole skip front [] ls e = none_left (front ++ []) ls e
whole (suc skip) front (b ∷ bs) ls e = subst (λ text. AreWhole text ls) (append_assoc front (b ∷ []) bs)
    (whole skip (front ++ b ∷ []) bs ls (ap (λ at. tokens_from skip at bs) (one_more front b) ∙ e))
  where
    one_more : (xs : List ℕ) (y : ℕ) → length (xs ++ y ∷ []) ≡ length xs + 1
    one_more xs y = omega (arith, length-append xs (y ∷ []))
whole zero front (b ∷ bs) ls e = placed_whole front (b ∷ bs) (piece_of (b ∷ bs)) (λ n. tokens_from (n - 1) (length front + 1) bs) ls (piece_ok (b ∷ bs)) e
    (λ n ms f. subst (λ text. AreWhole text ms) (append_assoc front (b ∷ []) bs) (whole (n - 1) (front ++ b ∷ []) bs ms (ap (λ at. tokens_from (n - 1) at bs) (one_more front b) ∙ f)))
  where
    one_more : (xs : List ℕ) (y : ℕ) → length (xs ++ y ∷ []) ≡ length xs + 1
    one_more xs y = omega (arith, length-append xs (y ∷ []))

seen_formed : (text : List ℕ) (t : Lexed) → list_all is_byte text ≡ true → IsWhole text t → IsFormed (seen text t)
seen_formed text t h k = record {
  bytes = token_bytes t.kind (bytes_at text t.span) (take_bytes (t.span.end - t.span.start) (drop t.span.start text) (drop_bytes t.span.start text h));
  decimal = λ c. int_decimal t.kind (bytes_at text t.span) k c;
  kept = λ c. global_kept t.kind (stands_for text t) c;
}

all_formed : (text : List ℕ) (ts : List Lexed) → list_all is_byte text ≡ true → AreWhole text ts → AreFormed (classified text ts)
all_formed text [] h k = tt
all_formed text (t ∷ ts) h k = (seen_formed text t h k.0, all_formed text ts h k.1)

pub tokens_formed : (text : List ℕ) (ts : List Lexed) → list_all is_byte text ≡ true → tokens text ≡ Ok ts → AreFormed (classified text ts)
tokens_formed text ts h e = all_formed text ts h (whole 0 [] text ts e)
