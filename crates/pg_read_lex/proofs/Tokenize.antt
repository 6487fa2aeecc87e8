-- Lists of tokens, a piece at a time.
use Rattle.std.proofs.Common.{◌≡◌, ℕ, zero, suc, ◌+◌, ◌-◌, ◌<◌, ◌≤◌, List, [], ◌∷◌, ◌++◌, length, drop, refl, sym, ap, subst, ◌∙◌, arith}
use Rattle.std.proofs.Common.{append_assoc, append-nil, Result, Ok, Err, Option, Some, None, Bool, true, false, if◌then◌else◌, ◌==◌, not, ◌&&◌, length-drop, take_while}
use Rattle.std.proofs.Common.{position}
use Rattle.std.specs.List.{prefix_len}
use Rattle.std.proofs.Math.Seq.{drop-nil}
use Rattle.std.proofs.lemmas.List.Sums.{prefix_len-le-length}
use Rattle.std.proofs.lemmas.List.Folds.{length-prefix_len}
use Rattle.std.proofs.lemmas.List.Quantifiers.{position-Some}
use Rattle.pg_read_lex.specs.declared.token.Token.{Token}
use Rattle.pg_read_lex.specs.declared.token.TokenKind.{TokenKind}
use Rattle.pg_read_lex.specs.declared.token.TokenKind.TheVariants.{Label, Int, Dots, CStr, Word, Odd, Str, Local, Global, Meta, Attr}
use Rattle.pg_read_lex.specs.declared.token.LexFault.{LexFault}
use Rattle.pg_read_lex.specs.declared.token.LexFault.TheVariants.{BadByte, OpenString}
use Rattle.pg_read_lex.specs.declared.token.Piece.{Piece}
use Rattle.pg_read_lex.specs.declared.token.Piece.TheVariants.{Gap, Whole, Bad, Open}
use Rattle.pg_read_lex.specs.Bytes.{is_blank, is_run_byte, is_quote, is_colon, begins, is_line_feed}
use Rattle.pg_num.specs.Decimal.{is_decimal}
use Rattle.pg_read_lex.specs.Tokens.{IsWithin, piece_of, marked_piece, run_piece, is_name, is_dots, is_c, begins_word, string_piece, named_piece, mark_piece, mark_of, with_string, run}
use Rattle.pg_read_lex.specs.Tokens.{string_length, string_end, tokens_from, placed, ahead, IsAscending}

gap_in : (n size : ℕ) → 1 ≤ n → n ≤ size → IsWithin (Gap n) size
unfolding IsWithin
gap_in n size h k = (h, k)

whole_in : (kind : TokenKind) (n size : ℕ) → 1 ≤ n → n ≤ size → IsWithin (Whole kind n) size
unfolding IsWithin
whole_in kind n size h k = (h, k)

bad_in : (size : ℕ) → IsWithin Bad size
unfolding IsWithin
bad_in size = tt

open_in : (n size : ℕ) → n ≤ size → IsWithin (Open n) size
unfolding IsWithin
open_in n size h = h

pick : (b : Bool) (x y : Piece) (n : ℕ) → (b ≡ true → IsWithin x n) → (b ≡ false → IsWithin y n) → IsWithin (if b then x else y) n
pick true x y n h k = h refl
pick false x y n h k = k refl

first_of : (a b : Bool) → (a && b) ≡ true → b ≡ true
first_of true b h = h
first_of false b h = absurd cc

some_first : (p : ℕ → Bool) (bs : List ℕ) → begins p bs ≡ true → 1 ≤ length bs
some_first p [] h = absurd cc
some_first p (b ∷ bs) h = omega arith

within_take : (p : ℕ → Bool) (bs : List ℕ) → length (take_while p bs) ≤ length bs
within_take p bs = omega (arith, length-prefix_len p bs, prefix_len-le-length p bs)

some_run : (b : ℕ) (bs : List ℕ) → is_run_byte b ≡ true → 1 ≤ length (run (b ∷ bs))
some_run b bs h = let e : prefix_len is_run_byte (b ∷ bs) ≡ 1 + prefix_len is_run_byte bs = rw h refl in omega (arith, e, length-prefix_len is_run_byte (b ∷ bs))

within_end : (o : Option ℕ) (n size : ℕ) → string_end o ≡ Some n → ((k : ℕ) → o ≡ Some k → k < size) → (2 ≤ n) × (n ≤ size + 1)
within_end None n size h k = absurd cc
within_end (Some m) n size h k = let e : m + 2 ≡ n = cc in (omega (arith, e), omega (arith, e, k m refl))

within_string : (bs : List ℕ) (n : ℕ) → string_length bs ≡ Some n → (2 ≤ n) × (n ≤ length bs)
within_string [] n h = absurd cc
within_string (b ∷ bs) n h = let q = within_end (position is_quote bs) n (length bs) h (λ k e. (position-Some is_quote bs k 0 e).0) in (q.0, omega (arith, q.1))

within_with : (kind : TokenKind) (before : ℕ) (bs : List ℕ) (size : ℕ) → before + length bs ≤ size → (o : Option ℕ) → string_length bs ≡ o
    → IsWithin (with_string kind before o) size
within_with kind before bs size h None e = open_in before size (omega (arith, h))
within_with kind before bs size h (Some n) e = let q = within_string bs n e in whole_in kind (before + n) size (omega (arith, q.0)) (omega (arith, h, q.1))

within_run : (r after : List ℕ) → 1 ≤ length r → IsWithin (run_piece r after) (length r + length after)
unfolding run_piece
within_run r after h =
    pick (is_name r && begins is_colon after) _ _ _ (λ e. whole_in Label (length r + 1) (length r + length after) (omega arith)
    (omega (arith, some_first is_colon after (first_of (is_name r) (begins is_colon after) e))))
    (λ _. pick (is_decimal r) _ _ _ (λ _. all Int)
    (λ _. pick (is_dots r) _ _ _ (λ _. all Dots)
    (λ _. pick (is_c r && begins is_quote after) _ _ _ (λ _. within_with CStr 1 after (length r + length after) (omega (arith, h)) (string_length after) refl)
    (λ _. pick (begins begins_word r) _ _ _ (λ _. all Word) (λ _. all Odd)))))
  where
    all : (kind : TokenKind) → IsWithin (Whole kind (length r)) (length r + length after)
    all kind = whole_in kind (length r) (length r + length after) h (omega arith)

within_text : (bs : List ℕ) (o : Option ℕ) → string_length bs ≡ o → IsWithin (string_piece bs o) (length bs)
within_text bs None e = open_in 0 (length bs) (omega arith)
within_text bs (Some n) e = let q = within_string bs n e in
    pick (begins is_colon (drop n bs)) _ _ _ (λ h. whole_in Label (n + 1) (length bs) (omega arith) (omega (arith, q.1, length-drop n bs, some_first is_colon (drop n bs) h)))
    (λ _. whole_in Str n (length bs) (omega (arith, q.0)) q.1)

within_named : (kind : TokenKind) (bs : List ℕ) → IsWithin (named_piece kind bs) (length bs + 1)
within_named kind bs = pick (begins is_quote bs) _ _ _ (λ _. within_with kind 1 bs (length bs + 1) (omega arith) (string_length bs) refl)
    (λ _. pick (is_name (run bs)) _ _ _ (λ _. whole_in kind (1 + length (run bs)) (length bs + 1) (omega arith) (omega (arith, within_take is_run_byte bs))) (λ _. bad_in (length bs + 1)))

within_mark : (o : Option TokenKind) (size : ℕ) → 1 ≤ size → IsWithin (mark_piece o) size
within_mark (Some kind) size h = whole_in kind 1 size (omega arith) h
within_mark None size h = bad_in size

within_marked : (b : ℕ) (bs : List ℕ) → IsWithin (marked_piece b (b ∷ bs) bs) (length bs + 1)
unfolding marked_piece
within_marked b bs =
    pick (is_quote b) _ _ _ (λ _. subst (IsWithin (string_piece (b ∷ bs) (string_length (b ∷ bs)))) (omega arith) (within_text (b ∷ bs) (string_length (b ∷ bs)) refl))
    (λ _. pick (b == 37) _ _ _ (λ _. within_named Local bs) (λ _. pick (b == 64) _ _ _ (λ _. within_named Global bs) (λ _. pick (b == 33) _ _ _ (λ _. more Meta)
    (λ _. pick (b == 35) _ _ _ (λ _. pick (length (run bs) == 0) _ _ _ (λ _. bad_in (length bs + 1)) (λ _. more Attr)) (λ _. within_mark (mark_of b) (length bs + 1) (omega arith))))))
  where
    more : (kind : TokenKind) → IsWithin (Whole kind (1 + length (run bs))) (length bs + 1)
    more kind = whole_in kind (1 + length (run bs)) (length bs + 1) (omega arith) (omega (arith, within_take is_run_byte bs))

pub within_piece : (bs : List ℕ) → IsWithin (piece_of bs) (length bs)
unfolding piece_of
within_piece [] = bad_in _
within_piece (b ∷ bs) =
    let size : length bs + 1 ≡ length (b ∷ bs) = omega arith in
    let r = run (b ∷ bs) in
    let there : length r ≤ length (b ∷ bs) = within_take is_run_byte (b ∷ bs) in
    let gap = take_while (λ c. not (is_line_feed c)) bs in
    pick (is_blank b) _ _ _ (λ _. gap_in 1 (length (b ∷ bs)) (omega arith) (omega arith))
    (λ _. pick (b == 59) _ _ _ (λ _. gap_in (1 + length gap) (length (b ∷ bs)) (omega arith) (omega (arith, within_take (λ c. not (is_line_feed c)) bs)))
    (λ _. pick (is_run_byte b) _ _ _ (λ e. subst (IsWithin (run_piece r (drop (length r) (b ∷ bs)))) (omega (arith, there, length-drop (length r) (b ∷ bs)))
    (within_run r (drop (length r) (b ∷ bs)) (some_run b bs e)))
    (λ _. subst (IsWithin (marked_piece b (b ∷ bs) bs)) size (within_marked b bs))))

-- ---- from one place to the next

-- the bytes of the piece before are passed over
tokens_from-skip : (n at : ℕ) (bs : List ℕ) → n ≤ length bs → tokens_from n at bs ≡ tokens_from 0 (at + n) (drop n bs)
unfolding tokens_from
tokens_from-skip zero at bs h = ap (λ k. tokens_from 0 k bs) (omega arith)
tokens_from-skip (suc n) at [] h = absurd (omega (arith, h))
tokens_from-skip (suc n) at (b ∷ bs) h = tokens_from-skip n (at + 1) bs (omega (arith, h)) ∙ ap (λ k. tokens_from 0 k (drop n bs)) (omega arith)

tokens_from-behind : (n at b : ℕ) (bs : List ℕ) → 1 ≤ n → n ≤ length (b ∷ bs) → tokens_from (n - 1) (at + 1) bs ≡ tokens_from 0 (at + n) (drop n (b ∷ bs))
tokens_from-behind zero at b bs h k = absurd (omega (arith, h))
tokens_from-behind (suc n) at b bs h k =
    ap (λ m. tokens_from m (at + 1) bs) (omega arith) ∙ tokens_from-skip n (at + 1) bs (omega (arith, k)) ∙ ap (λ m. tokens_from 0 m (drop n bs)) (omega arith)

-- what a piece makes of the tokens behind it
abbrev pub goes_on : ℕ → List ℕ → Piece → Result (List Token) LexFault
goes_on at bs p = placed at p (λ n. tokens_from 0 (at + n) (drop n bs))

tokens_from-placed : (at b : ℕ) (bs : List ℕ) (p : Piece) → IsWithin p (length (b ∷ bs)) → placed at p (λ n. tokens_from (n - 1) (at + 1) bs) ≡ goes_on at (b ∷ bs) p
unfolding IsWithin
tokens_from-placed at b bs (Gap n) w = tokens_from-behind n at b bs w.0 w.1
tokens_from-placed at b bs (Whole kind n) w = ap (λ x. ahead (record { kind = kind; span = record { start = at; end = at + n } }) x) (tokens_from-behind n at b bs w.0 w.1)
tokens_from-placed at b bs Bad w = refl
tokens_from-placed at b bs (Open n) w = refl

tokens_from-piece : (at : ℕ) (bs : List ℕ) → 0 < length bs → tokens_from 0 at bs ≡ goes_on at bs (piece_of bs)
unfolding tokens_from
tokens_from-piece at [] h = absurd (omega (arith, h))
tokens_from-piece at (b ∷ bs) h = tokens_from-placed at b bs (piece_of (b ∷ bs)) (within_piece (b ∷ bs))

pub drop-drop : {A : Type 0} (m n : ℕ) (xs : List A) → drop n (drop m xs) ≡ drop (m + n) xs
drop-drop zero n xs = ap (λ k. drop k xs) (omega arith)
drop-drop {A} (suc m) n [] = drop-nil n ∙ sym (drop-nil (suc m + n))
drop-drop (suc m) n (x ∷ xs) = drop-drop m n xs ∙ let e : suc (m + n) ≡ suc m + n = omega arith in ap (λ k. drop k (x ∷ xs)) e

-- with these tokens found, the rest of the text decides
abbrev pub onto : List Token → Result (List Token) LexFault → Result (List Token) LexFault
onto front (Ok ts) = Ok (front ++ ts)
onto front (Err fault) = Err fault

abbrev pub Stands : List ℕ → List Token → ℕ → Type 0
Stands text found at = onto found (tokens_from 0 at (drop at text)) ≡ tokens_from 0 0 text

onto-ahead : (front : List Token) (t : Token) (x : Result (List Token) LexFault) → onto front (ahead t x) ≡ onto (front ++ t ∷ []) x
onto-ahead front t (Ok ts) = ap Ok (sym (append_assoc front (t ∷ []) ts))
onto-ahead front t (Err fault) = refl

some_left : (text : List ℕ) (at : ℕ) → at < length text → 0 < length (drop at text)
some_left text at h = omega (arith, h, length-drop at text)

here : (text : List ℕ) (found : List Token) (at : ℕ) (p : Piece) → Stands text found at → at < length text → piece_of (drop at text) ≡ p
    → onto found (goes_on at (drop at text) p) ≡ tokens_from 0 0 text
here text found at p s h e = ap (λ q. onto found (goes_on at (drop at text) q)) (sym e) ∙ ap (λ x. onto found x) (sym (tokens_from-piece at (drop at text) (some_left text at h))) ∙ s

pub stands_gap : (text : List ℕ) (found : List Token) (at n : ℕ) → Stands text found at → at < length text → Gap n ≡ piece_of (drop at text) → Stands text found (at + n)
stands_gap text found at n s h e = ap (λ bs. onto found (tokens_from 0 (at + n) bs)) (sym (drop-drop at n text)) ∙ here text found at (Gap n) s h (sym e)

pub stands_whole : (text : List ℕ) (found : List Token) (at n : ℕ) (kind : TokenKind) → Stands text found at → at < length text → Whole kind n ≡ piece_of (drop at text)
    → Stands text (found ++ record { kind = kind; span = record { start = at; end = at + n } } ∷ []) (at + n)
stands_whole text found at n kind s h e =
    let t : Token = record { kind = kind; span = record { start = at; end = at + n } } in
    ap (λ bs. onto (found ++ t ∷ []) (tokens_from 0 (at + n) bs)) (sym (drop-drop at n text)) ∙ sym (onto-ahead found t (tokens_from 0 (at + n) (drop n (drop at text))))
    ∙ here text found at (Whole kind n) s h (sym e)

pub stands_bad : (text : List ℕ) (found : List Token) (at : ℕ) → Stands text found at → at < length text → Bad ≡ piece_of (drop at text) → tokens_from 0 0 text ≡ Err (BadByte at)
stands_bad text found at s h e = sym (here text found at Bad s h (sym e))

pub stands_open : (text : List ℕ) (found : List Token) (at n : ℕ) → Stands text found at → at < length text → Open n ≡ piece_of (drop at text)
    → tokens_from 0 0 text ≡ Err (OpenString (at + n))
stands_open text found at n s h e = sym (here text found at (Open n) s h (sym e))

pub stands_end : (text : List ℕ) (found : List Token) (at : ℕ) → Stands text found at → drop at text ≡ [] → tokens_from 0 0 text ≡ Ok found
unfolding tokens_from
stands_end text found at s e = sym s ∙ ap (λ bs. onto found (tokens_from 0 at bs)) e ∙ ap Ok (append-nil found)

-- ---- one after the other

pub ascending_more : (from at n : ℕ) (kind : TokenKind) (found : List Token) → IsAscending from found at → 1 ≤ n
    → IsAscending from (found ++ record { kind = kind; span = record { start = at; end = at + n } } ∷ []) (at + n)
ascending_more from at n kind [] h s = (h, omega (arith, s), omega arith)
ascending_more from at n kind (t ∷ ts) h s = (h.0, h.1, ascending_more t.span.end at n kind ts h.2 s)

pub ascending_on : (from to at : ℕ) (found : List Token) → IsAscending from found at → at ≤ to → IsAscending from found to
ascending_on from to at [] h s = omega (arith, h, s)
ascending_on from to at (t ∷ ts) h s = (h.0, h.1, ascending_on t.span.end to at ts h.2 s)
