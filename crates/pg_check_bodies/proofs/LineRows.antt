-- The rows of a line, one after the other.
use Rattle.std.proofs.Common.{◌≡◌, List, ◌++◌, Option, sym, ap, ◌∙◌}
use Rattle.std.specs.List.{flat_map}
use Rattle.pg_read_lex.specs.declared.token.Span.{Span}
use Rattle.pg_read_ast.specs.Syntax.{Ty, NamedType}
use Rattle.pg_check_rules.specs.TypeConditions.{unknown_type, unknown_types, wrong_type, wrong_types}
use Rattle.pg_check_rules.specs.Written.{types_within}
use Rattle.pg_check_rules.specs.Earliest.{earlier, earliest}
use Rattle.pg_check_rules.proofs.Parts.{same_row}
use Rattle.pg_check_rules.proofs.Rows.{earliest_more}

pub rows_joined : (xs ys : List Span) (a b o : Option Span) → a ≡ earliest xs → b ≡ earliest ys → o ≡ earlier a b → o ≡ earliest (xs ++ ys)
rows_joined xs ys a b o e f h = h ∙ ap (λ x. earlier x b) e ∙ ap (λ x. earlier (earliest xs) x) f ∙ sym (earliest_more xs ys)

pub unknown_types_row : (items other : List NamedType) (ts us : List Ty) (o : Option Span) → o ≡ earliest (flat_map (unknown_type items) ts) → items ≡ other
    → ts ≡ flat_map types_within us → o ≡ earliest (unknown_types other us)
unfolding unknown_types
unknown_types_row items other ts us o e f g = same_row unknown_type items other ts (flat_map types_within us) o e f g

pub wrong_types_row : (items other : List NamedType) (ts us : List Ty) (o : Option Span) → o ≡ earliest (flat_map (wrong_type items) ts) → items ≡ other
    → ts ≡ flat_map types_within us → o ≡ earliest (wrong_types other us)
unfolding wrong_types
wrong_types_row items other ts us o e f g = same_row wrong_type items other ts (flat_map types_within us) o e f g
