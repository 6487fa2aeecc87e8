-- The earliest of places of rows that follow one another.
use Rattle.std.proofs.Common.{◌≡◌, List, [], ◌∷◌, ◌++◌, map, Option, refl, sym, ap, ◌∙◌}
use Rattle.std.specs.List.{flat_map}
use Rattle.std.proofs.lemmas.List.{append-nil, append_assoc}
use Rattle.pg_read_lex.specs.declared.token.Span.{Span}
use Rattle.pg_check_rules.specs.Earliest.{earlier, earliest}
use Rattle.pg_check_rules.proofs.Rows.{earliest_more}

-- the earliest of two rows
pub both : (xs ys : List Span) (a b r : Option Span) → r ≡ earlier a b → a ≡ earliest xs → b ≡ earliest ys → r ≡ earliest (xs ++ ys)
both xs ys a b r e f g = e ∙ ap (λ o. earlier o b) f ∙ ap (λ o. earlier (earliest xs) o) g ∙ sym (earliest_more xs ys)

-- the earliest of a row that ends with nothing
pub both_end : (xs ys : List Span) (a b r : Option Span) → r ≡ earlier a b → a ≡ earliest xs → b ≡ earliest ys → r ≡ earliest (xs ++ (ys ++ []))
both_end xs ys a b r e f g = both xs ys a b r e f g ∙ ap (λ zs. earliest (xs ++ zs)) (sym (append-nil ys))

pub flat_map_more : {X : Type 0} {Y : Type 0} (f : X → List Y) (xs ys : List X) → flat_map f (xs ++ ys) ≡ flat_map f xs ++ flat_map f ys
flat_map_more f [] ys = refl
flat_map_more f (x ∷ xs) ys = ap (λ zs. f x ++ zs) (flat_map_more f xs ys) ∙ sym (append_assoc (f x) (flat_map f xs) (flat_map f ys))

pub flat_map_map : {X : Type 0} {Y : Type 0} {Z : Type 0} (f : Y → List Z) (g : X → Y) (xs : List X) → flat_map f (map g xs) ≡ flat_map (λ x. f (g x)) xs
flat_map_map f g [] = refl
flat_map_map f g (x ∷ xs) = ap (λ zs. f (g x) ++ zs) (flat_map_map f g xs)
