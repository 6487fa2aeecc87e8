-- The functions with which threads begin.
use Rattle.std.proofs.Common.{◌≡◌, true, List, [], ◌∷◌, map, Option, Some, None, refl, ap, ◌∙◌}
use Rattle.std.specs.List.{flat_map}
use Rattle.pg_read_lex.specs.declared.token.Span.{Span}
use Rattle.pg_read_ast.specs.Syntax.{Val, Typed}
use Rattle.pg_check_rules.specs.Earliest.{earliest}
use Rattle.pg_check_rules.specs.Written.{typed_operand}
use Rattle.pg_check_calls.specs.Threads.{left_out, call_operands}
use Rattle.pg_check_values.proofs.JoinedRows.{one_row}

-- the third argument is left out
pub third_left_out : (all : List Typed) → call_operands true all ≡ left_out (Some 2) (map typed_operand all)
third_left_out [] = refl
third_left_out (a ∷ []) = refl
third_left_out (a ∷ (b ∷ [])) = refl
third_left_out (a ∷ (b ∷ (d ∷ all))) = refl

-- one function
pub thread_row : (f : Val → List Span) (v : Val) (vs : List Val) (o : Option Span) → v ∷ [] ≡ vs → o ≡ earliest (f v) → o ≡ earliest (flat_map f vs)
thread_row f v vs o e h = h ∙ one_row f v ∙ ap (λ xs. earliest (flat_map f xs)) e

-- no function
pub thread_none : (f : Val → List Span) (vs : List Val) → [] ≡ vs → None ≡ earliest (flat_map f vs)
unfolding earliest
thread_none f vs e = ap (λ xs. earliest (flat_map f xs)) e
