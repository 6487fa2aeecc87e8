-- When a line of a function is refused, by the kind of refusal: the places at which it is.
use Rattle.std.specs.Prelude.{ℕ, nat_lt, ◌&&◌, ◌==◌, Bool, false, if◌then◌else◌, List, [], ◌∷◌, ◌++◌, Option, Some, is_some}
use Rattle.std.specs.List.{flat_map, list_any}
use Rattle.pg_read_ast.specs.pg_read_lex.declared.token.Span.{Span}
use Rattle.pg_read_ast.specs.declared.names.Name.{Name}
use Rattle.pg_read_ast.specs.Syntax.{Ty, Val, Case, Op, Call, Switch, RetVoid, GetElementPtr, Line}
use Rattle.pg_read_ast.specs.Numbers.{gives}
use Rattle.pg_check_rules.specs.declared.fault.CheckKind.{CheckKind}
use Rattle.pg_check_rules.specs.declared.fault.CheckKind.TheVariants.{UnknownName, Doubled, WrongType, NoBlock, Unsupported}
use Rattle.pg_check_types.specs.Resolved.{ResolvedType, resolved, is_void_type}
use Rattle.pg_check_types.specs.Kinds.{fails}
use Rattle.pg_check_rules.specs.Names.{symbol, label_number}
use Rattle.pg_check_rules.specs.Places.{val_span}
use Rattle.pg_check_rules.specs.Written.{Use, with_inner, operands, op_types, own_types, op_demands, label_targets, label_sources}
use Rattle.pg_check_rules.specs.TypeConditions.{unknown_types, wrong_types, unmet}
use Rattle.pg_check_rules.specs.ValueConditions.{Scope, unknown_symbol, unknown_value, function_value, wrong_use, wrong_indices, number_at}
use Rattle.pg_check_rules.specs.CallConditions.{header_of, variable_symbol, unsupported_symbol, wrong_header, call_demands}
use Rattle.pg_check_rules.specs.CallConditions.{callee_params, is_callable, wrong_number, thread_functions, value_operands}
use Rattle.pg_check_rules.specs.CallConditions.{wrong_thread, unsupported_thread}

-- all types that a line writes, and all values of a line and within these
abbrev pub line_types : Op → List Ty
line_types op = op_types op ++ flat_map (λ (u : Use). own_types u.value) (flat_map with_inner (operands op))

abbrev pub line_uses : Scope → Op → List Use
line_uses g op = flat_map with_inner (value_operands g op)

-- ---- rows of the table that speak of one instruction

abbrev pub same_number : Option ℕ → Option ℕ → Bool
same_number (Some m) (Some n) = m == n
same_number _ _ = false

abbrev pub stands_before : Val → Val → Bool
stands_before v w = nat_lt (val_span v).start (val_span w).start

-- a case stands before another, and both have the same number, read at the type of their switch
abbrev pub repeats : Option ResolvedType → Case → Case → Bool
repeats t o c =
    same_number (number_at t o.value.value) (number_at t c.value.value) && stands_before o.value.value c.value.value

-- a case that is equal to one before it
abbrev pub repeated_case : Option ResolvedType → List Case → Case → List Span
repeated_case t all c = if list_any (λ (o : Case). repeats t o c) all then val_span c.value.value ∷ [] else []

-- the cases of a switch that are equal to one before them
abbrev pub equal_cases : Scope → Op → List Span
equal_cases g (Switch s v b all) = flat_map (repeated_case (resolved g.tree.types v.ty) all) all
equal_cases g _ = []

abbrev pub unknown_callee : Scope → Op → List Span
unknown_callee g (Call s t w f all) = unknown_symbol (symbol g.tree f.text) f.span
unknown_callee g _ = []

abbrev pub unsupported_callee : Scope → Op → List Span
unsupported_callee g (Call s t w f all) = unsupported_symbol (symbol g.tree f.text) f.span
unsupported_callee g _ = []

-- the result type, the written types, the callee and the number of arguments of a call
abbrev pub wrong_call : Scope → Op → List Span
wrong_call g (Call s t w f all) =
    wrong_header g.tree.types (header_of (symbol g.tree f.text)) t w
    ++ (variable_symbol (symbol g.tree f.text) f.span
    ++ (if is_callable (symbol g.tree f.text) then wrong_number (callee_params (symbol g.tree f.text)) all f else []))
wrong_call g _ = []

-- nothing is returned where the function has a result
abbrev pub wrong_return : Scope → Op → List Span
wrong_return g (RetVoid s v) = if fails is_void_type g.result then v ∷ [] else []
wrong_return g _ = []

abbrev pub wrong_path : Scope → Op → List Span
wrong_path g (GetElementPtr s t p all) = wrong_indices g.tree.types t all
wrong_path g _ = []

-- a name before an instruction without a result
abbrev pub wrong_name : Bool → Option Name → List Span
wrong_name false (Some n) = n.span ∷ []
wrong_name _ _ = []

-- a label without a basic block
abbrev pub no_block : List Name → Name → List Span
no_block labels n = if is_some (label_number labels n.text) then [] else n.span ∷ []

-- ---- the table

unfoldable pub line_refused : Scope → Line → CheckKind → List Span
line_refused g l UnknownName =
    unknown_types g.tree.types (line_types l.op)
    ++ (flat_map (λ (u : Use). unknown_value g u.value) (line_uses g l.op)
    ++ (unknown_callee g l.op
    ++ flat_map (unknown_value g) (thread_functions g l.op)))
line_refused g l Doubled = equal_cases g l.op
line_refused g l WrongType =
    wrong_types g.tree.types (line_types l.op)
    ++ (flat_map (unmet g.tree.types) (op_demands g.tree.types g.result l.op ++ call_demands g l.op)
    ++ (flat_map (wrong_use g) (line_uses g l.op)
    ++ (wrong_call g l.op
    ++ (flat_map (wrong_thread g) (thread_functions g l.op)
    ++ (wrong_return g l.op
    ++ (wrong_path g l.op
    ++ wrong_name (gives g.tree.types l.op) l.name))))))
line_refused g l NoBlock = flat_map (no_block g.labels) (label_targets l.op ++ label_sources l.op)
line_refused g l Unsupported =
    flat_map (λ (u : Use). function_value g u.value) (line_uses g l.op)
    ++ (unsupported_callee g l.op
    ++ flat_map (unsupported_thread g) (thread_functions g l.op))
line_refused g l _ = []
