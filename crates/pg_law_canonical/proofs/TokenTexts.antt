-- Texts that are read a token at a time.
use Rattle.std.proofs.Common.{◌≡◌, ℕ, ◌+◌, ◌-◌, ◌<◌, List, [], ◌∷◌, ◌++◌, length, take, drop, map, take_at, drop_at, append_assoc, length-append, refl, sym, ap}
use Rattle.std.proofs.Common.{subst, ◌∙◌, arith, Ok, Bool, true, not, ◌||◌}
use Rattle.pg_read_lex.specs.declared.token.TokenKind.{TokenKind}
use Rattle.pg_read_lex.specs.declared.token.Token.{Token as Lexed}
use Rattle.pg_read_lex.specs.declared.token.Piece.TheVariants.{Gap, Whole}
use Rattle.pg_read_lex.specs.Bytes.{is_run_byte, is_quote, is_colon}
use Rattle.pg_read_lex.specs.Names.{token_name}
use Rattle.pg_read_lex.specs.Tokens.{tokens_from, placed, ahead, piece_of}
use Rattle.pg_read_grammar.specs.declared.token.Token.{Token}
use Rattle.pg_read_grammar.specs.Language.{Lang}
use Rattle.pg_read_grammar.specs.Words.{class_of, seen}

-- These bytes, behind a front, have tokens, and to the grammar they are a list of the language.
abbrev pub In : Lang → List ℕ → List ℕ → Type 0
In L front text = (ls : List Lexed) × (tokens_from 0 (length front) text ≡ Ok ls) × L (map (seen (front ++ text)) ls)

-- no token before these bytes goes on with them
abbrev pub stops : List ℕ → Bool
stops [] = true
stops (b ∷ bs) = not (is_run_byte b || (is_quote b || is_colon b))

pub in_more : (L M : Lang) (front text : List ℕ) → ((us : List Token) → L us → M us) → In L front text → In M front text
in_more L M front text f (ls, e, l) = (ls, e, f (map (seen (front ++ text)) ls) l)

pub in_at : (L : Lang) (front other text : List ℕ) → front ≡ other → In L front text → In L other text
in_at L front other text e j = subst (λ f. In L f text) e j

passed : (w rest : List ℕ) (at : ℕ) → tokens_from (length w) at (w ++ rest) ≡ tokens_from 0 (at + length w) rest
unfolding tokens_from
passed [] rest at = ap (λ k. tokens_from 0 k rest) (omega arith)
passed (b ∷ w) rest at = passed w rest (at + 1) ∙ ap (λ k. tokens_from 0 k rest) (omega arith)

-- the token that these bytes are behind a front
abbrev pub token_at : List ℕ → List ℕ → TokenKind → Token
token_at front w kind = record { class = class_of kind (token_name kind w); text = token_name kind w; span = record { start = length front; end = length front + length w } }

bytes_are : (front w rest : List ℕ) → take (length front + length w - length front) (drop (length front) (front ++ (w ++ rest))) ≡ w
bytes_are front w rest = ap (λ bs. take (length front + length w - length front) bs) (drop_at front (w ++ rest) (length front) refl)
    ∙ take_at w rest (length front + length w - length front) (omega arith)

seen_is : (front w rest : List ℕ) (kind : TokenKind) → seen (front ++ (w ++ rest)) (record { kind = kind; span = record { start = length front; end = length front + length w } })
    ≡ token_at front w kind
seen_is front w rest kind = ap (λ bs. record { class = class_of kind (token_name kind bs); text = token_name kind bs; span = record { start = length front; end = length front + length w } })
    (bytes_are front w rest)

lexed : (front w rest : List ℕ) (kind : TokenKind) (ls : List Lexed) → 0 < length w → piece_of (w ++ rest) ≡ Whole kind (length w) → tokens_from 0 (length (front ++ w)) rest ≡ Ok ls
    → tokens_from 0 (length front) (w ++ rest) ≡ Ok (record { kind = kind; span = record { start = length front; end = length front + length w } } ∷ ls)
unfolding tokens_from
lexed front [] rest kind ls h p e = absurd (omega (arith, h))
lexed front (b ∷ w) rest kind ls h p e =
    let t : Lexed = record { kind = kind; span = record { start = length front; end = length front + length (b ∷ w) } } in
    let at : length front + 1 + length w ≡ length (front ++ (b ∷ w)) = omega (arith, length-append front (b ∷ w)) in
    ap (λ q. placed (length front) q (λ n. tokens_from (n - 1) (length front + 1) (w ++ rest))) p
    ∙ ap (λ n. ahead t (tokens_from n (length front + 1) (w ++ rest))) (omega arith)
    ∙ ap (λ x. ahead t x) (passed w rest (length front + 1))
    ∙ ap (λ k. ahead t (tokens_from 0 k rest)) at
    ∙ ap (λ x. ahead t x) e

-- a token before what is read
pub token_in : (L : Lang) (front w rest : List ℕ) (kind : TokenKind) → 0 < length w → piece_of (w ++ rest) ≡ Whole kind (length w)
    → In (λ us. L (token_at front w kind ∷ us)) (front ++ w) rest → In L front (w ++ rest)
token_in L front w rest kind h p (ls, e, l) =
    let t : Lexed = record { kind = kind; span = record { start = length front; end = length front + length w } } in (
      t ∷ ls,
      lexed front w rest kind ls h p e,
      subst (λ bs. L (seen (front ++ (w ++ rest)) t ∷ map (seen bs) ls)) (append_assoc front w rest)
          (subst (λ u. L (u ∷ map (seen ((front ++ w) ++ rest)) ls)) (sym (seen_is front w rest kind)) l),
    )

-- a blank before what is read
pub gap_in : (L : Lang) (front rest : List ℕ) (b : ℕ) → piece_of (b ∷ rest) ≡ Gap 1 → In L (front ++ b ∷ []) rest → In L front (b ∷ rest)
unfolding tokens_from
gap_in L front rest b p (ls, e, l) =
    let at : length front + 1 ≡ length (front ++ b ∷ []) = omega (arith, length-append front (b ∷ [])) in (
      ls,
      ap (λ q. placed (length front) q (λ n. tokens_from (n - 1) (length front + 1) rest)) p ∙ ap (λ k. tokens_from 0 k rest) at ∙ e,
      subst (λ bs. L (map (seen bs) ls)) (append_assoc front (b ∷ []) rest) l,
    )
