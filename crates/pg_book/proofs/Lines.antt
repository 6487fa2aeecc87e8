-- A line feed behind a text that was printed for tokens changes nothing of what is read.
use Rattle.std.proofs.Common.{◌≡◌, ℕ, Bool, true, false, cond, ◌&&◌, List, [], ◌∷◌, ◌++◌, refl, sym, ap, ap₂, ◌∙◌, append_assoc, append-nil}
use Rattle.json.specs.Token.{Token, begin_object, end_object, begin_array, end_array, key, string, number, boolean, null, bad}
use Rattle.json.specs.Word.{ends_word, word}
use Rattle.json.specs.Lex.{Lexeme, token, comma, colon, string_token, lex, between, fresh, punctuate, tokens}
use Rattle.json.specs.Print.{escape, quoted, token_text, begins, ends, print_from, print, IsPrintable, ArePrintable}
use Rattle.json.proofs.Printed.Strings.{content-escape, lex-escape}
use Rattle.json.proofs.Printed.Numbers.{lex-number, in_word-ended}
use Rattle.json.proofs.Printed.Tokens.{tokens-print}

abbrev lexemes_of : Token → List Lexeme
lexemes_of begin_object = token begin_object ∷ []
lexemes_of end_object = token end_object ∷ []
lexemes_of begin_array = token begin_array ∷ []
lexemes_of end_array = token end_array ∷ []
lexemes_of (key s) = token (string s) ∷ colon ∷ []
lexemes_of (string s) = token (string s) ∷ []
lexemes_of (number s) = token (number s) ∷ []
lexemes_of (boolean b) = token (boolean b) ∷ []
lexemes_of null = token null ∷ []
lexemes_of bad = []

abbrev lexemes : Bool → List Token → List Lexeme
lexemes c [] = []
lexemes c (t ∷ ts) = cond (c && begins t) (comma ∷ []) [] ++ (lexemes_of t ++ lexemes (ends t) ts)

after_value_ends : (ts : List Token) (r : List ℕ) → ends_word r ≡ true → ends_word (print_from true ts ++ r) ≡ true
unfolding print_from
after_value_ends [] r e = e
after_value_ends (begin_object ∷ ts) r e = refl
after_value_ends (end_object ∷ ts) r e = refl
after_value_ends (begin_array ∷ ts) r e = refl
after_value_ends (end_array ∷ ts) r e = refl
after_value_ends (key s ∷ ts) r e = refl
after_value_ends (string s ∷ ts) r e = refl
after_value_ends (number s ∷ ts) r e = refl
after_value_ends (boolean b ∷ ts) r e = refl
after_value_ends (null ∷ ts) r e = refl
after_value_ends (bad ∷ ts) r e = refl

lex-quoted : (s r : List ℕ) → lex between (quoted s ++ r) ≡ token (string s) ∷ lex between r
unfolding lex
lex-quoted s r =
    let e = append_assoc (escape s) (34 ∷ []) r in
    ap (λ l. lex between (34 ∷ l)) e ∙ ap₂ (λ o l. token (string_token o) ∷ l) (content-escape s r) (lex-escape s r)

lex-token_text : (t : Token) (r : List ℕ) → IsPrintable t → (ends t ≡ true → ends_word r ≡ true) → lex between (token_text t ++ r) ≡ lexemes_of t ++ lex between r
unfolding lex word
lex-token_text begin_object r h ended = refl
lex-token_text end_object r h ended = refl
lex-token_text begin_array r h ended = refl
lex-token_text end_array r h ended = refl
lex-token_text (key s) r h ended = ap (lex between) (append_assoc (quoted s) (58 ∷ []) r) ∙ lex-quoted s (58 ∷ r)
lex-token_text (string s) r h ended = lex-quoted s r
lex-token_text (number s) r h ended = lex-number s r h (ended refl)
lex-token_text (boolean true) r h ended = ap₂ (λ b l. token (cond b (boolean true) bad) ∷ l) (ended refl) (in_word-ended r (ended refl))
lex-token_text (boolean false) r h ended = ap₂ (λ b l. token (cond b (boolean false) bad) ∷ l) (ended refl) (in_word-ended r (ended refl))
lex-token_text null r h ended = ap₂ (λ b l. token (cond b null bad) ∷ l) (ended refl) (in_word-ended r (ended refl))
lex-token_text bad r h ended = absurd h

lex-separator : (b : Bool) (r : List ℕ) → lex between (cond b (44 ∷ []) [] ++ r) ≡ cond b (comma ∷ []) [] ++ lex between r
unfolding lex
lex-separator true r = refl
lex-separator false r = refl

-- ends_word says of a token's end that what stands behind it may stand there
then_ends : (b : Bool) (ts : List Token) (r : List ℕ) → ends_word r ≡ true → b ≡ true → ends_word (print_from b ts ++ r) ≡ true
then_ends b ts r e is = ap (λ c. ends_word (print_from c ts ++ r)) is ∙ after_value_ends ts r e

lex-print : (c : Bool) (ts : List Token) (r : List ℕ) → ArePrintable ts → ends_word r ≡ true → lex between (print_from c ts ++ r) ≡ lexemes c ts ++ lex between r
unfolding lex print_from ArePrintable
lex-print c [] r h e = refl
lex-print c (t ∷ ts) r h e =
    let s = cond (c && begins t) (44 ∷ []) [] in
    let rest = print_from (ends t) ts in
    let l = cond (c && begins t) (comma ∷ []) [] in
    ap (lex between) (append_assoc s (token_text t ++ rest) r ∙ ap (λ x. s ++ x) (append_assoc (token_text t) rest r))
    ∙ lex-separator (c && begins t) (token_text t ++ (rest ++ r))
    ∙ ap (λ x. l ++ x) (lex-token_text t (rest ++ r) h.0 (then_ends (ends t) ts r e) ∙ ap (λ x. lexemes_of t ++ x) (lex-print (ends t) ts r h.1 e)
    ∙ sym (append_assoc (lexemes_of t) (lexemes (ends t) ts) (lex between r)))
    ∙ sym (append_assoc l (lexemes_of t ++ lexemes (ends t) ts) (lex between r))

pub tokens-line : (ts : List Token) → ArePrintable ts → tokens (print ts ++ 10 ∷ []) ≡ ts
unfolding lex
tokens-line ts h =
    let line = lex-print false ts (10 ∷ []) h refl in
    let none = lex-print false ts [] h refl in
    ap (punctuate fresh) (line ∙ sym none ∙ ap (lex between) (append-nil (print ts))) ∙ tokens-print ts h
