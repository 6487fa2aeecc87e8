-- What a call of what a name stands for is refused for, and its arguments.
use Rattle.std.specs.Prelude.{◌&&◌, ◌||◌, not, Bool, true, false, if◌then◌else◌, List, [], ◌∷◌, ◌++◌, Option, Some, None}
use Rattle.std.specs.List.{list_all}
use denote.Ref.{Bor}
use Rattle.pg_read_lex.specs.declared.token.Span.{Span}
use Rattle.pg_read_ast.specs.declared.names.Name.{Name}
use Rattle.pg_read_ast.specs.declared.values.ValNode.{ValNode}
use Rattle.pg_read_ast.specs.declared.values.TypedVal.{TypedVal}
use Rattle.pg_read_ast.specs.Syntax.{Ty, Val, Typed, Written, Dparam, ParamOf, Dots, NamedType}
use Rattle.pg_read_ast.specs.Views.{val_of, typed_of}
use Rattle.pg_check_rules.specs.Names.{Symbol}
use Rattle.pg_check_rules.specs.Written.{Demand}
use Rattle.pg_check_rules.specs.CallConditions.{header_of, wrong_header, variable_symbol, is_callable, callee_params, wrong_number, argument_demands, agree, is_resolved, fits_params, Header}
use Rattle.pg_check_rules.specs.CallConditions.{written_fit}

abbrev pub wrong_arguments : Symbol → List Typed → Name → List Span
wrong_arguments s all f = if is_callable s then wrong_number (callee_params s) all f else []

abbrev pub wrong_call_of : List NamedType → Symbol → Ty → Option Written → Name → List Typed → List Span
wrong_call_of types s t w f all = wrong_header types (header_of s) t w ++ (variable_symbol s f.span ++ wrong_arguments s all f)

abbrev pub call_demands_of : List NamedType → Symbol → List Typed → List Demand
call_demands_of types s all = if is_callable s then argument_demands types (callee_params s) all else []

-- the result type is a function's, and the written types its parameters'
abbrev pub fits_header : List NamedType → Header → Ty → Option Written → Bool
fits_header types h t w = agree types h.result t && written_fit types h w

-- ---- written types

-- the written types, where all are types, are those of the parameters
abbrev pub are_written : List NamedType → List Dparam → Written → Bool
are_written types ps w = not (list_all (is_resolved types) w.types) || fits_params types ps w.types w.dots

abbrev pub param_agrees : List NamedType → Dparam → Ty → Bool
param_agrees types (ParamOf p) t = agree types p.ty t
param_agrees types _ t = false

-- the first parameter has a type
abbrev pub first_agrees : List NamedType → List Dparam → Ty → Bool
first_agrees types (p ∷ ps) t = param_agrees types p t
first_agrees types [] t = false

abbrev pub is_dots : Dparam → Bool
is_dots (Dots s) = true
is_dots _ = false

-- nothing but dots
abbrev pub is_only_dots : List Dparam → Bool
is_only_dots (p ∷ []) = is_dots p
is_only_dots _ = false

-- ---- arguments

-- an argument, if there is one
abbrev pub typed_behind : Option (Bor TypedVal) → List Typed
typed_behind (Some v) = typed_of v.now ∷ []
typed_behind None = []

abbrev pub value_behind : Option (Bor ValNode) → List Val
value_behind (Some v) = val_of v.now ∷ []
value_behind None = []
