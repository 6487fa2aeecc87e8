-- Rows over values and those within them.
use Rattle.std.proofs.Common.{◌≡◌, ℕ, zero, suc, ◌+◌, ◌<◌, ◌≤◌, List, [], ◌∷◌, ◌++◌, length, take, drop, get_or, Option, refl, sym, ap, ◌∙◌, append-nil, arith}
use Rattle.std.specs.List.{flat_map}
use Rattle.std.proofs.lemmas.Grind.{flat_map-append}
use Rattle.pg_read_lex.specs.declared.token.Span.{Span}
use Rattle.pg_read_ast.specs.declared.names.Literal.{Literal}
use Rattle.pg_read_ast.specs.Syntax.{Ty, Int}
use Rattle.pg_check_rules.specs.Written.{Use, constant_at, inner_uses, with_inner}
use Rattle.pg_check_rules.specs.Earliest.{earlier, earliest}
use Rattle.pg_check_rules.proofs.Rows.{row_step, row_whole}
use Rattle.pg_check_lines.specs.declared.operands.UseNode.{UseNode}
use Rattle.pg_check_lines.specs.Uses.{use_of, uses_of, row_within}

-- value by value, or over all values and those within them
pub rows_within : {X : Type 0} (row : Use → List X) (us : List Use) → flat_map (row_within row) us ≡ flat_map row (flat_map with_inner us)
rows_within row [] = refl
rows_within row (u ∷ us) =
    ap (λ xs. flat_map row (with_inner u) ++ xs) (rows_within row us)
    ∙ sym (flat_map-append row (with_inner u) (flat_map with_inner us))

-- one value more
pub use_step : (row : Use → List Span) (us : List UseNode) (i : ℕ) (u : UseNode) (found own all : Option Span) → i < length us → u ≡ get_or us i u
    → found ≡ earliest (flat_map (row_within row) (uses_of (take i us))) → own ≡ earliest (row_within row (use_of u)) → all ≡ earlier found own
    → all ≡ earliest (flat_map (row_within row) (uses_of (take (i + 1) us)))
use_step row us i u found own all l e a b c = row_step (row_within row) use_of us i u u found own all l e a b c

-- all values
pub use_whole : (row : Use → List Span) (us : List UseNode) (i : ℕ) (found : Option Span) → length us ≤ i → found ≡ earliest (flat_map (row_within row) (uses_of (take i us)))
    → found ≡ earliest (flat_map row (flat_map with_inner (uses_of us)))
use_whole row us i found l e =
    row_whole (λ xs. found ≡ earliest (flat_map (row_within row) (uses_of xs))) us i l e
    ∙ ap (λ xs. earliest xs) (rows_within row (uses_of us))

-- no value left
pub uses_done : {X : Type 0} (row : Use → List X) (front : List X) (us : List UseNode) (i : ℕ) → length us ≤ i → front ++ flat_map row (uses_of (drop i us)) ≡ front
uses_done row front [] zero l = append-nil front
uses_done row front [] (suc i) l = append-nil front
uses_done row front (u ∷ us) zero l = absurd (omega (arith, l))
uses_done row front (u ∷ us) (suc i) l = uses_done row front us i (omega (arith, l))

-- no value stands within an integer
pub literal_row : (row : Use → List Span) (t : Ty) (n : Literal) → earliest (row (constant_at t (Int n))) ≡ earliest (row_within row (constant_at t (Int n)))
unfolding inner_uses
literal_row row t n = ap (λ xs. earliest xs) (sym (append-nil (row (constant_at t (Int n)))))
