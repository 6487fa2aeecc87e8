-- The types of a global, and the places of the values within its initialiser.
use Rattle.std.proofs.Common.{◌≡◌, List, [], ◌∷◌, ◌++◌, Option, refl, sym, ap, ◌∙◌}
use Rattle.std.specs.List.{flat_map}
use Rattle.std.proofs.lemmas.List.{append_assoc}
use Rattle.pg_read_lex.specs.declared.token.Span.{Span}
use Rattle.pg_check_rules.specs.Written.{Use, with_inner, own_types}
use Rattle.pg_check_rules.specs.Earliest.{earlier, earliest}
use Rattle.pg_check_rules.proofs.Rows.{earliest_more}
use Rattle.pg_check_heads.specs.Initialisers.{within_row, own_row}

-- the earliest of two rows
pub both : (xs ys : List Span) (a b r : Option Span) → r ≡ earlier a b → a ≡ earliest xs → b ≡ earliest ys → r ≡ earliest (xs ++ ys)
both xs ys a b r e f g = e ∙ ap (λ o. earlier o b) f ∙ ap (λ o. earlier (earliest xs) o) g ∙ sym (earliest_more xs ys)

flat_more : {X Y : Type 0} (f : X → List Y) (xs ys : List X) → flat_map f (xs ++ ys) ≡ flat_map f xs ++ flat_map f ys
flat_more f [] ys = refl
flat_more f (x ∷ xs) ys = ap (λ zs. f x ++ zs) (flat_more f xs ys) ∙ sym (append_assoc (f x) (flat_map f xs) (flat_map f ys))

-- a row of rows
flat_flat : {X Y Z : Type 0} (h : Y → List Z) (g : X → List Y) (xs : List X) → flat_map h (flat_map g xs) ≡ flat_map (λ x. flat_map h (g x)) xs
flat_flat h g [] = refl
flat_flat h g (x ∷ xs) = flat_more h (g x) (flat_map g xs) ∙ ap (λ zs. flat_map h (g x) ++ zs) (flat_flat h g xs)

-- a row over values and those within them
pub within_rows : (row : Use → List Span) (us vs : List Use) (o : Option Span) → o ≡ earliest (flat_map (within_row row) us) → us ≡ vs
    → o ≡ earliest (flat_map row (flat_map with_inner vs))
within_rows row us vs o e f = e ∙ ap (λ ws. earliest (flat_map (within_row row) ws)) f ∙ ap (λ zs. earliest zs) (sym (flat_flat row with_inner vs))

pub own_rows : (us : List Use) → flat_map own_row us ≡ flat_map (λ (w : Use). own_types w.value) (flat_map with_inner us)
own_rows us = sym (flat_flat (λ (w : Use). own_types w.value) with_inner us)
