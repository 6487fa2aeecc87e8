-- The tokens of canonical texts.
use Rattle.std.proofs.Common.{◌≡◌, ℕ, ◌-◌, ◌<◌, List, [], ◌∷◌, ◌++◌, length, take_at, length-append, refl, sym, ap, subst, ◌∙◌, arith, Bool, true, false}
use Rattle.std.proofs.Common.{if◌then◌else◌, codes, IsTrue}
use Rattle.std.specs.List.{list_all}
use Rattle.pg_num.specs.Decimal.{is_decimal}
use Rattle.pg_read_lex.specs.declared.token.TokenKind.TheVariants as kinds
use Rattle.pg_read_lex.specs.Names.{name_of}
use Rattle.pg_read_lex.specs.Tokens.{piece_of, marked_piece, mark_of}
use Rattle.pg_read_ast.specs.Text.{quoted, name_text}
use Rattle.pg_read_grammar.specs.declared.class.Class.{Class}
use Rattle.pg_read_grammar.specs.declared.class.Class.TheVariants.{Label, Int, Dots, CStr, Local, Global, DroppedGlobal, OpenRound, CloseRound, OpenBrace, CloseBrace, OpenSquare, CloseSquare}
use Rattle.pg_read_grammar.specs.declared.class.Class.TheVariants.{Comma, Equals}
use Rattle.pg_read_grammar.specs.Classes.{is}
use Rattle.pg_read_grammar.specs.Language.{one}
use Rattle.pg_read_grammar.specs.Grammar.{global_name}
use Rattle.pg_read_grammar.specs.Words.{word_class, is_dropped}
use Rattle.pg_read_grammar.proofs.ClassTests.{is_self}
use Rattle.pg_law_canonical.proofs.TokenTexts.{stops}
use Rattle.pg_law_canonical.proofs.FirstTokens.{is_word_text, word_piece, int_some, int_piece, dots_piece, local_piece, global_piece, bytes_piece, label_piece}
use Rattle.pg_law_canonical.proofs.Names.{is_byte, quoted_name, text_name}
use Rattle.pg_law_canonical.proofs.ReadAgain.{Again, IsToken, token_text, weaker}

-- ---- marks

pub open_round : {before : List ℕ → Bool} → Again before (one (is OpenRound)) (codes "(") (IsToken OpenRound (codes "("))
unfolding piece_of marked_piece mark_of
open_round {before} = token_text (is OpenRound) kinds.OpenRound (codes "(") (omega arith) (λ rest s. refl) refl

pub close_round : {before : List ℕ → Bool} → Again before (one (is CloseRound)) (codes ")") (IsToken CloseRound (codes ")"))
unfolding piece_of marked_piece mark_of
close_round {before} = token_text (is CloseRound) kinds.CloseRound (codes ")") (omega arith) (λ rest s. refl) refl

pub open_brace : {before : List ℕ → Bool} → Again before (one (is OpenBrace)) (codes "{") (IsToken OpenBrace (codes "{"))
unfolding piece_of marked_piece mark_of
open_brace {before} = token_text (is OpenBrace) kinds.OpenBrace (codes "{") (omega arith) (λ rest s. refl) refl

pub close_brace : {before : List ℕ → Bool} → Again before (one (is CloseBrace)) (codes "}") (IsToken CloseBrace (codes "}"))
unfolding piece_of marked_piece mark_of
close_brace {before} = token_text (is CloseBrace) kinds.CloseBrace (codes "}") (omega arith) (λ rest s. refl) refl

pub open_square : {before : List ℕ → Bool} → Again before (one (is OpenSquare)) (codes "[") (IsToken OpenSquare (codes "["))
unfolding piece_of marked_piece mark_of
open_square {before} = token_text (is OpenSquare) kinds.OpenSquare (codes "[") (omega arith) (λ rest s. refl) refl

pub close_square : {before : List ℕ → Bool} → Again before (one (is CloseSquare)) (codes "]") (IsToken CloseSquare (codes "]"))
unfolding piece_of marked_piece mark_of
close_square {before} = token_text (is CloseSquare) kinds.CloseSquare (codes "]") (omega arith) (λ rest s. refl) refl

pub comma : {before : List ℕ → Bool} → Again before (one (is Comma)) (codes ",") (IsToken Comma (codes ","))
unfolding piece_of marked_piece mark_of
comma {before} = token_text (is Comma) kinds.Comma (codes ",") (omega arith) (λ rest s. refl) refl

pub equals : {before : List ℕ → Bool} → Again before (one (is Equals)) (codes "=") (IsToken Equals (codes "="))
unfolding piece_of marked_piece mark_of
equals {before} = token_text (is Equals) kinds.Equals (codes "=") (omega arith) (λ rest s. refl) refl

-- ---- words, integers, dots

pub word_of : (test : Class → Bool) (w : List ℕ) (c : Class) → word_class w ≡ c → is_word_text w ≡ true → IsTrue (test c) → Again stops (one test) w (IsToken c w)
word_of test w c e h i = subst (λ d. Again stops (one test) w (IsToken d w)) e (token_text test kinds.Word w (some w h) (λ rest s. word_piece w rest h s) (subst (λ d. IsTrue (test d)) (sym e) i))
  where
    some : (v : List ℕ) → is_word_text v ≡ true → 0 < length v
    some [] k = absurd cc
    some (b ∷ v) k = omega arith

pub word : (w : List ℕ) (c : Class) → word_class w ≡ c → is_word_text w ≡ true → Again stops (one (is c)) w (IsToken c w)
word w c e h = word_of (is c) w c e h (is_self c)

pub int_text : (w : List ℕ) → is_decimal w ≡ true → Again stops (one (is Int)) w (λ t. t.text ≡ w)
int_text w h = weaker (λ t k. k.text_is) (token_text (is Int) kinds.Int w (int_some w h) (λ rest s. int_piece w rest h s) refl)

pub dots : Again stops (one (is Dots)) (codes "...") (IsToken Dots (codes "..."))
dots = token_text (is Dots) kinds.Dots (codes "...") (omega arith) (λ rest s. dots_piece rest s) refl

-- ---- names and strings

pub local_again : (s : List ℕ) → list_all is_byte s ≡ true → Again stops (one (is Local)) (37 ∷ name_text s) (λ t. t.text ≡ s)
local_again s h = weaker (λ t k. k.text_is ∙ text_name s h) (token_text (is Local) kinds.Local (37 ∷ name_text s) (omega arith) (λ rest i. local_piece s rest i) refl)

pub global_again : (s : List ℕ) → list_all is_byte s ≡ true → Again stops (one global_name) (64 ∷ name_text s) (λ t. t.text ≡ s)
global_again s h = weaker (λ t k. k.text_is ∙ text_name s h)
    (token_text global_name kinds.Global (64 ∷ name_text s) (omega arith) (λ rest i. global_piece s rest i) (by (is_dropped (name_of (name_text s)))))
  where
    by : (c : Bool) → IsTrue (global_name (if c then DroppedGlobal else Global))
    by true = refl
    by false = refl

pub callee_again : (s : List ℕ) → list_all is_byte s ≡ true → is_dropped s ≡ false → Again stops (one (is Global)) (64 ∷ name_text s) (λ t. t.text ≡ s)
callee_again s h d = weaker (λ t k. k.text_is ∙ text_name s h) (token_text (is Global) kinds.Global (64 ∷ name_text s) (omega arith) (λ rest i. global_piece s rest i)
    (subst (λ n. IsTrue (is Global (if is_dropped n then DroppedGlobal else Global))) (sym (text_name s h)) (by (is_dropped s) d)))
  where
    by : (c : Bool) → c ≡ false → IsTrue (is Global (if c then DroppedGlobal else Global))
    by true e = absurd cc
    by false e = refl

pub bytes_again : {before : List ℕ → Bool} (s : List ℕ) → list_all is_byte s ≡ true → Again before (one (is CStr)) (99 ∷ quoted s) (λ t. t.text ≡ s)
bytes_again {before} s h = weaker (λ t k. k.text_is ∙ quoted_name s h) (token_text (is CStr) kinds.CStr (99 ∷ quoted s) (omega arith) (λ rest i. bytes_piece s rest) refl)

pub label_again : {before : List ℕ → Bool} (s : List ℕ) → list_all is_byte s ≡ true → Again before (one (is Label)) (name_text s ++ 58 ∷ []) (λ t. t.text ≡ s)
label_again {before} s h = weaker (λ t k. k.text_is
    ∙ ap name_of (take_at (name_text s) (58 ∷ []) (length (name_text s ++ 58 ∷ []) - 1) (omega (arith, length-append (name_text s) (58 ∷ [])))) ∙ text_name s h)
    (token_text (is Label) kinds.Label (name_text s ++ 58 ∷ []) (omega (arith, length-append (name_text s) (58 ∷ []))) (λ rest i. label_piece s rest) refl)
