-- The parts of a text, row by row.
use Rattle.std.proofs.Common.{◌≡◌, ℕ, zero, suc, ◌+◌, ◌<◌, List, [], ◌∷◌, ◌++◌, length, map, drop, get_or, Option, Some, None, refl, ap, ◌∙◌, append_assoc, arith}
use Rattle.std.specs.List.{flat_map, filter_map, cons_option}
use Rattle.pg_read_ast.specs.pg_read_lex.declared.token.Span.{Span}
use Rattle.pg_read_ast.specs.Syntax.{Ty, NamedType}
use Rattle.pg_check_rules.specs.Earliest.{earliest}

pub no_place : None ≡ earliest []
unfolding earliest
no_place = refl

-- a row over the same types of the same items
pub same_row : (row : List NamedType → Ty → List Span) (items other : List NamedType) (ts us : List Ty) (o : Option Span) → o ≡ earliest (flat_map (row items) ts) → items ≡ other
    → ts ≡ us → o ≡ earliest (flat_map (row other) us)
same_row row items other ts us o e f g = e ∙ ap (λ x. earliest (flat_map (row x) ts)) f ∙ ap (λ x. earliest (flat_map (row other) x)) g

-- one thing more, where it gives something
pub filter_step : {X Y Z : Type 0} (f : Y → Option Z) (v : X → Y) (front : List Z) (xs : List X) (i : ℕ) (x : X) → i < length xs → x ≡ get_or xs i x
    → (front ++ cons_option (f (v x)) []) ++ filter_map f (map v (drop (i + 1) xs)) ≡ front ++ filter_map f (map v (drop i xs))
filter_step f v front [] i x l e = absurd (omega (arith, l))
filter_step {Z = Z} f v front (y ∷ xs) zero x l e =
    append_assoc front (cons_option (f (v x)) []) (filter_map f (map v xs))
    ∙ ap (λ zs. front ++ zs) (by (f (v x)))
    ∙ ap (λ z. front ++ cons_option (f (v z)) (filter_map f (map v xs))) e
  where
    by : (o : Option Z) → cons_option o [] ++ filter_map f (map v xs) ≡ cons_option o (filter_map f (map v xs))
    by None = refl
    by (Some z) = refl
filter_step f v front (y ∷ xs) (suc i) x l e =
    let s : suc i + 1 ≡ suc (i + 1) = omega arith in
    ap (λ k. (front ++ cons_option (f (v x)) []) ++ filter_map f (map v (drop k (y ∷ xs)))) s
    ∙ filter_step f v front xs i x (omega (arith, l)) e

pub map_twice : {X Y Z : Type 0} (f : Y → Z) (g : X → Y) (xs : List X) → map (λ x. f (g x)) xs ≡ map f (map g xs)
map_twice f g [] = refl
map_twice f g (x ∷ xs) = ap (λ zs. f (g x) ∷ zs) (map_twice f g xs)
