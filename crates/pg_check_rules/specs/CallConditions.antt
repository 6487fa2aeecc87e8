-- When a call is refused.
use Rattle.std.specs.Prelude.{nat_lt, ◌&&◌, ◌||◌, Bool, true, false, not, if◌then◌else◌, List, [], ◌∷◌, ◌++◌, map, length, take, drop, Option, Some, None, is_some}
use Rattle.std.specs.List.{list_all, filter_map}
use Rattle.pg_read_ast.specs.pg_read_lex.declared.token.Span.{Span}
use Rattle.pg_ir.specs.declared.library_call.LibraryCall.{LibraryCall}
use Rattle.pg_ir.specs.declared.library_call.LibraryCall.TheVariants.{PthreadCreate}
use Rattle.pg_read_ast.specs.declared.names.Name.{Name}
use Rattle.pg_read_ast.specs.Syntax.{Ty, Val, Local, Global, Typed, Written, Op, Call, Param, Dparam, ParamOf, Dots, Declaration, Definition, NamedType}
use Rattle.pg_check_types.specs.Resolved.{resolved, is_pointer}
use Rattle.pg_check_types.specs.Kinds.{fails, is_as}
use Rattle.pg_check_rules.specs.KnownNames.{known_named}
use Rattle.pg_check_rules.specs.Names.{Symbol, VariableOf, DefinitionOf, DeclarationOf, symbol, register_named}
use Rattle.pg_check_rules.specs.Places.{type_span, val_span}
use Rattle.pg_check_rules.specs.Written.{Use, operands, typed_operand, Demand, asks_typed}
use Rattle.pg_check_rules.specs.ValueConditions.{Scope}

-- ---- the types of functions

pub record Header : Type 0 where
  pub result : Ty
  pub params : List Dparam

abbrev pub definition_header : Definition → Header
definition_header d = record { result = d.result; params = map (λ (p : Param). ParamOf p) d.params }

abbrev pub declaration_header : Declaration → Header
declaration_header d = record { result = d.result; params = d.params }

abbrev pub header_of : Symbol → Option Header
header_of (DefinitionOf f d) = Some (definition_header d)
header_of (DeclarationOf d) = Some (declaration_header d)
header_of _ = None

abbrev pub param_type : Dparam → Option Ty
param_type (ParamOf p) = Some p.ty
param_type _ = None

abbrev pub param_types : Header → List Ty
param_types h = filter_map param_type h.params

abbrev pub is_resolved : List NamedType → Ty → Bool
is_resolved types t = is_some (resolved types t)

-- two types are the same, or one of them isn't resolved
abbrev pub agree : List NamedType → Ty → Ty → Bool
agree types t u = not (fails (is_as (resolved types t)) (resolved types u))

-- the written types are the parameters', and dots stand where the parameters end with them
abbrev pub fits_params : List NamedType → List Dparam → List Ty → Bool → Bool
fits_params types [] [] false = true
fits_params types (Dots s ∷ []) [] true = true
fits_params types (ParamOf p ∷ ps) (t ∷ ts) dots = agree types p.ty t && fits_params types ps ts dots
fits_params types _ _ _ = false

-- ---- callees

-- a function that is known and declared
abbrev pub known_of : Symbol → Option LibraryCall
known_of (DeclarationOf d) = known_named d.name.text
known_of _ = None

abbrev pub is_create_known : Option LibraryCall → Bool
is_create_known (Some PthreadCreate) = true
is_create_known _ = false

abbrev pub is_create : Scope → Name → Bool
is_create g f = is_create_known (known_of (symbol g.tree f.text))

abbrev pub variable_symbol : Symbol → Span → List Span
variable_symbol (VariableOf i v) span = span ∷ []
variable_symbol _ span = []

-- a function that is declared and not known
abbrev pub unsupported_symbol : Symbol → Span → List Span
unsupported_symbol (DeclarationOf d) span = if is_some (known_named d.name.text) then [] else span ∷ []
unsupported_symbol _ span = []

-- a function that can be called has its arguments judged: one that is defined, or known
abbrev pub callee_params : Symbol → List Ty
callee_params (DefinitionOf f d) = param_types (definition_header d)
callee_params (DeclarationOf d) = param_types (declaration_header d)
callee_params _ = []

abbrev pub is_callable : Symbol → Bool
is_callable (DefinitionOf f d) = true
is_callable (DeclarationOf d) = is_some (known_named d.name.text)
is_callable _ = false

-- ---- result type and written types: at the result type

abbrev pub written_fit : List NamedType → Header → Option Written → Bool
written_fit types h None = true
written_fit types h (Some w) = not (list_all (is_resolved types) w.types) || fits_params types h.params w.types w.dots

abbrev pub wrong_header : List NamedType → Option Header → Ty → Option Written → List Span
wrong_header types None t w = []
wrong_header types (Some h) t w = if agree types h.result t && written_fit types h w then [] else type_span t ∷ []

-- ---- arguments

-- each argument's type is its parameter's
abbrev pub argument_demands : List NamedType → List Ty → List Typed → List Demand
argument_demands types (p ∷ ps) (a ∷ all) = asks_typed (is_as (resolved types p)) a ∷ argument_demands types ps all
argument_demands types _ _ = []

abbrev pub call_demands : Scope → Op → List Demand
call_demands g (Call s t w f all) = if is_callable (symbol g.tree f.text) then argument_demands g.tree.types (callee_params (symbol g.tree f.text)) all else []
call_demands g _ = []

-- too few: the callee; too many: the type of the first extra one
abbrev pub wrong_number : List Ty → List Typed → Name → List Span
wrong_number ps all f =
    if nat_lt (length all) (length ps) then f.span ∷ []
    else map (λ (a : Typed). type_span a.ty) (take 1 (drop (length ps) all))

-- ---- the function with which a thread begins: the third argument of a create

abbrev pub thread_functions : Scope → Op → List Val
thread_functions g (Call s t w f all) = if is_create g f then map (λ (a : Typed). a.value) (take 1 (drop 2 all)) else []
thread_functions g _ = []

-- the operands that are judged as values
abbrev pub value_operands : Scope → Op → List Use
value_operands g (Call s t w f all) = if is_create g f then map typed_operand (take 2 all ++ drop 3 all) else map typed_operand all
value_operands g op = operands op

abbrev pub is_pointer_param : List NamedType → List Dparam → Bool
is_pointer_param types (ParamOf p ∷ []) = not (fails is_pointer (resolved types p.ty))
is_pointer_param types _ = false

-- from a pointer to a pointer
abbrev pub is_thread_header : List NamedType → Option Header → Bool
is_thread_header types None = true
is_thread_header types (Some h) = not (fails is_pointer (resolved types h.result)) && is_pointer_param types h.params

abbrev pub wrong_thread : Scope → Val → List Span
wrong_thread g (Global n) = if is_thread_header g.tree.types (header_of (symbol g.tree n.text)) then [] else n.span ∷ []
wrong_thread g _ = []

abbrev pub unsupported_thread_symbol : Symbol → Span → List Span
unsupported_thread_symbol (VariableOf i v) span = span ∷ []
unsupported_thread_symbol (DeclarationOf d) span = span ∷ []
unsupported_thread_symbol _ span = []

-- anything but the name of a function that is defined
abbrev pub unsupported_thread : Scope → Val → List Span
unsupported_thread g (Global n) = unsupported_thread_symbol (symbol g.tree n.text) n.span
unsupported_thread g (Local n) = if is_some (register_named g.registers n.text) then n.span ∷ [] else []
unsupported_thread g v = val_span v ∷ []
