-- Rows that are joined.
use Rattle.std.proofs.Common.{◌≡◌, List, [], ◌∷◌, ◌++◌, Option, Some, None, refl, sym, ap, ◌∙◌, append_assoc}
use Rattle.std.specs.List.{flat_map}
use Rattle.pg_read_lex.specs.declared.token.Span.{Span}
use Rattle.pg_read_ast.specs.declared.nodes.TypeItem.{TypeItem}
use Rattle.pg_read_ast.specs.Syntax.{NamedType}
use Rattle.pg_check_types.specs.NumberedTypes.{items_of}
use Rattle.pg_check_rules.specs.Earliest.{earlier, earliest}
use Rattle.pg_check_rules.specs.Written.{Demand}
use Rattle.pg_check_rules.specs.TypeConditions.{unmet}
use Rattle.pg_check_rules.proofs.Rows.{earliest_more}

earlier_none : (a : Option Span) → earlier a None ≡ a
earlier_none None = refl
earlier_none (Some x) = refl

-- one thing
pub one_row : {X : Type 0} (f : X → List Span) (x : X) → earliest (f x) ≡ earliest (flat_map f (x ∷ []))
unfolding earliest
one_row f x = sym (earliest_more (f x) [] ∙ earlier_none (earliest (f x)))

pub flat_more : {X : Type 0} (f : X → List Span) (xs ys : List X) → flat_map f (xs ++ ys) ≡ flat_map f xs ++ flat_map f ys
flat_more f [] ys = refl
flat_more f (x ∷ xs) ys = ap (λ ss. f x ++ ss) (flat_more f xs ys) ∙ sym (append_assoc (f x) (flat_map f xs) (flat_map f ys))

-- the places of two lists of things
pub two_rows : {X : Type 0} (f : X → List Span) (xs ys : List X) (a b all : Option Span) → a ≡ earliest (flat_map f xs) → b ≡ earliest (flat_map f ys) → all ≡ earlier a b
    → all ≡ earliest (flat_map f (xs ++ ys))
two_rows f xs ys a b all d e g =
    g ∙ ap (λ o. earlier o b) d ∙ ap (λ o. earlier (earliest (flat_map f xs)) o) e ∙ sym (earliest_more (flat_map f xs) (flat_map f ys)) ∙ ap (λ ss. earliest ss) (sym (flat_more f xs ys))

-- two lists of demands, judged one after the other over the same items
pub two_demands : (items : List TypeItem) (ds es : List NamedType → List Demand) (a b all : Option Span) → a ≡ earliest (flat_map (unmet (items_of items)) (ds (items_of items)))
    → b ≡ earliest (flat_map (unmet (items_of items)) (es (items_of items))) → all ≡ earlier a b
    → all ≡ earliest (flat_map (unmet (items_of items)) (ds (items_of items) ++ es (items_of items)))
two_demands items ds es a b all d e g = two_rows (unmet (items_of items)) (ds (items_of items)) (es (items_of items)) a b all d e g
