-- The functions with which threads begin.
use Rattle.std.specs.Prelude.{ℕ, ◌+◌, Bool, false, not, if◌then◌else◌, List, [], ◌∷◌, ◌++◌, map, take, drop, Option, Some, None}
use Rattle.pg_read_lex.specs.declared.token.Span.{Span}
use Rattle.pg_read_ast.specs.Syntax.{Ty, Val, Typed, Dparam, ParamOf, NamedType}
use Rattle.pg_check_types.specs.Resolved.{resolved, is_pointer}
use Rattle.pg_check_types.specs.Kinds.{fails}
use Rattle.pg_check_rules.specs.Names.{Symbol}
use Rattle.pg_check_rules.specs.Written.{Use, typed_operand}
use Rattle.pg_check_rules.specs.CallConditions.{header_of, is_thread_header}

-- a list without the thing at a place
abbrev pub left_out : {X : Type 0} → Option ℕ → List X → List X
left_out None xs = xs
left_out (Some k) xs = take k xs ++ drop (k + 1) xs

-- the arguments that are judged as values
abbrev pub call_operands : Bool → List Typed → List Use
call_operands create all = if create then map typed_operand (take 2 all ++ drop 3 all) else map typed_operand all

-- the third argument of a call that begins a thread
abbrev pub thread_functions_of : Bool → List Typed → List Val
thread_functions_of create all = if create then map (λ (a : Typed). a.value) (take 1 (drop 2 all)) else []

abbrev pub is_pointer_type : List NamedType → Ty → Bool
is_pointer_type types t = not (fails is_pointer (resolved types t))

abbrev pub is_pointer_one : List NamedType → Dparam → Bool
is_pointer_one types (ParamOf p) = is_pointer_type types p.ty
is_pointer_one types _ = false

-- the name of a function that doesn't go from a pointer to a pointer
abbrev pub wrong_thread_of : List NamedType → Symbol → Span → List Span
wrong_thread_of types s span = if is_thread_header types (header_of s) then [] else span ∷ []
