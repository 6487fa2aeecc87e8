-- The checks of a program text: what is refused, by kinds and phases, and which refusal is the first.
use Rattle.std.specs.Prelude.{◌≡◌, ℕ, zero, suc, filter, drop, ◌+◌, ◌<◌, ◌≤◌, nat_lt, nat_le, ◌||◌, ◌&&◌, ◌==◌, ◌⊎◌}
use Rattle.std.specs.Prelude.{Bool, true, false, not, List, [], ◌∷◌, ◌++◌, map, length, take, sum_by, Contains, codes}
use Rattle.std.specs.Prelude.{Option, Some, None, is_some}
use Rattle.std.specs.List.{flat_map, filter_map, list_any, list_all, enumerate_from}
use Rattle.std.specs.Str.{bytes_eq}
use Rattle.pg_read_ast.specs.pg_read_lex.declared.token.Span.{Span}
use Rattle.pg_num.specs.declared.limits.TheConstants.{FUNCTION_LIMIT, GLOBAL_LIMIT, INSTRUCTION_LIMIT, FUNCTION_REGISTER_LIMIT}
use Rattle.pg_num.specs.declared.layout.TheConstants.{GLOBALS_END}
use Rattle.pg_num.specs.declared.width.Width.TheVariants.{W32}
use Rattle.pg_ir.specs.declared.library_call.LibraryCall.{LibraryCall}
use Rattle.pg_ir.specs.declared.value.Scalar.{Scalar}
use Rattle.pg_ir.specs.declared.value.Scalar.TheVariants.{Int, Ptr}
use Rattle.pg_ir.specs.Signatures.{parameters_of, returned_by}
use Rattle.pg_ir.specs.WellFormed.{granules_for}
use Rattle.pg_read_ast.specs.declared.names.Name.{Name}
use Rattle.pg_read_ast.specs.Syntax.{Ty, Named, Line, Block, Param, Dparam, ParamOf, NamedType, Variable, Declaration, Definition, Tree}
use Rattle.pg_read_ast.specs.Numbers.{type_named, numbered}
use Rattle.pg_check_rules.specs.declared.fault.CheckKind.{CheckKind}
use Rattle.pg_check_rules.specs.declared.fault.CheckKind.TheVariants.{UnknownName, Doubled, WrongType, NoBlock, BadPhi, Unsupported, BadSignature, TooLarge, NoMain}
use Rattle.pg_check_types.specs.Resolved.{ResolvedType, IntegerType, PointerType, VoidType, resolved, same_width, is_scalar}
use Rattle.pg_check_types.specs.Layout.{size_or_none}
use Rattle.pg_check_types.specs.Kinds.{fails}
use Rattle.pg_check_rules.specs.KnownNames.{known_named}
use Rattle.pg_check_rules.specs.Names.{symbol_names, doubled, registers_of, labels_of, line_count, Register}
use Rattle.pg_check_rules.specs.Written.{types_within, const_uses, const_types, with_inner, own_types, isnt_void, is_returnable, Use, asks}
use Rattle.pg_check_rules.specs.TypeConditions.{unknown_types, wrong_counts, wrong_types, any_large, unmet}
use Rattle.pg_check_rules.specs.ValueConditions.{Scope, unknown_value, function_value, wrong_use, wrong_const}
use Rattle.pg_check_rules.specs.CallConditions.{Header, definition_header, declaration_header, param_types, is_resolved}
use Rattle.pg_check_rules.specs.LineConditions.{line_refused, line_types}
use Rattle.pg_check_rules.specs.BlockConditions.{bad_phis, is_endless}

-- the places that a part of a module refuses, by kind
abbrev pub RefusedPlaces : Type 0
RefusedPlaces = CheckKind → List Span

-- a place, where something holds
abbrev pub at_if : Bool → Span → List Span
at_if true span = span ∷ []
at_if false span = []

abbrev pub all_of : {X : Type 0} → (X → RefusedPlaces) → List X → RefusedPlaces
all_of f xs kind = flat_map (λ x. f x kind) xs

-- ---- type items

abbrev pub names_in_types : List Ty → List Name
names_in_types [] = []
names_in_types (Named n ∷ ts) = n ∷ names_in_types ts
names_in_types (t ∷ ts) = names_in_types ts

abbrev pub names_in : Ty → List Name
names_in t = names_in_types (types_within t)

abbrev pub names_of_item : Option Ty → List Name
names_of_item (Some t) = names_in t
names_of_item None = []

-- a name is this one, or is met again through its item, through at most so many items
unfoldable pub meets : ℕ → List NamedType → List ℕ → List ℕ → Bool
meets zero types text name = bytes_eq name text
meets (suc n) types text name = bytes_eq name text || list_any (λ (m : Name). meets n types text m.text) (names_of_item (type_named types name))

-- the names in an item through which it contains itself
unfoldable pub self_contained : List NamedType → NamedType → List Span
self_contained types i = map (λ (n : Name). n.span) (filter (λ (n : Name). meets (length types) types i.name.text n.text) (names_in i.ty))

abbrev pub type_names : List NamedType → List Name
type_names types = map (λ (i : NamedType). i.name) types

unfoldable pub item_refused : List NamedType → NamedType → RefusedPlaces
item_refused types i UnknownName = unknown_types types (i.ty ∷ [])
item_refused types i Doubled = doubled (type_names types) i.name
item_refused types i WrongType = wrong_types types (i.ty ∷ []) ++ self_contained types i
item_refused types i TooLarge = at_if (any_large types (i.ty ∷ [])) i.name.span
item_refused types i _ = []

-- ---- globals

-- a global's type and those in its initialiser, and the values of the initialiser and within these
abbrev pub global_uses : Variable → List Use
global_uses v = flat_map with_inner (const_uses v.ty v.value)

abbrev pub global_types : Variable → List Ty
global_types v = v.ty ∷ (const_types v.value ++ flat_map (λ (u : Use). own_types u.value) (global_uses v))

abbrev pub granules_of : List NamedType → Variable → ℕ
granules_of types v = granules_for (size_or_none (resolved types v.ty))

-- where the first globals end, laid one after another from granule 1 on
unfoldable pub globals_end : List NamedType → List Variable → ℕ
globals_end types gs = 1 + sum_by (granules_of types) gs

-- no register stands in an initialiser
abbrev pub outside : Tree → Scope
outside m = record { tree = m; registers = []; labels = []; result = None }

unfoldable pub global_refused : Tree → ℕ × Variable → RefusedPlaces
global_refused m (i, v) UnknownName =
    unknown_types m.types (global_types v) ++ flat_map (λ (u : Use). unknown_value (outside m) u.value) (global_uses v)
global_refused m (i, v) Doubled = doubled (symbol_names m) v.name
global_refused m (i, v) WrongType =
    wrong_types m.types (global_types v)
    ++ (unmet m.types (asks isnt_void v.ty)
    ++ (wrong_const m.types (resolved m.types v.ty) v.value
    ++ flat_map (wrong_use (outside m)) (global_uses v)))
global_refused m (i, v) Unsupported = flat_map (λ (u : Use). function_value (outside m) u.value) (global_uses v)
global_refused m (i, v) TooLarge =
    at_if (any_large m.types (global_types v) || nat_le GLOBAL_LIMIT i || nat_lt GLOBALS_END (globals_end m.types (take (i + 1) m.globals))) v.name.span
global_refused m (i, v) _ = []

-- ---- heads

abbrev pub head_types : Header → List Ty
head_types h = h.result ∷ param_types h

abbrev pub is_scalar_type : Scalar → Option ResolvedType → Bool
is_scalar_type (Int w) (Some (IntegerType v)) = same_width w v
is_scalar_type Ptr (Some PointerType) = true
is_scalar_type s _ = false

abbrev pub is_result : Option Scalar → Option ResolvedType → Bool
is_result None (Some VoidType) = true
is_result (Some s) t = is_scalar_type s t
is_result _ _ = false

abbrev pub are_params : List NamedType → List Scalar → List Dparam → Bool
are_params types [] [] = true
are_params types (s ∷ ss) (ParamOf p ∷ ps) = is_scalar_type s (resolved types p.ty) && are_params types ss ps
are_params types _ _ = false

-- a function has just these types
abbrev pub has_header : List NamedType → List Scalar → Option Scalar → Header → Bool
has_header types ss r h = is_result r (resolved types h.result) && are_params types ss h.params

-- its types are types, and others than these
abbrev pub has_other_header : List NamedType → List Scalar → Option Scalar → Header → Bool
has_other_header types ss r h = list_all (is_resolved types) (head_types h) && not (has_header types ss r h)

abbrev pub main_name : List ℕ
main_name = codes "main"

-- @main is other than i32 ()
abbrev pub wrong_main : List NamedType → List ℕ → Header → Bool
wrong_main types text h = bytes_eq text main_name && has_other_header types [] (Some (Int W32)) h

abbrev pub is_nowhere : List Span → Bool
is_nowhere [] = true
is_nowhere (s ∷ ss) = false

-- each name in these types has an item, and each number of elements fits
abbrev pub types_exist : List NamedType → List Ty → Bool
types_exist types ts = is_nowhere (unknown_types types ts) && is_nowhere (wrong_counts ts)

-- its types exist, and are others than these; an element without a value is one, and one of any size
abbrev pub declares_other : List NamedType → List Scalar → Option Scalar → Header → Bool
declares_other types ss r h = types_exist types (head_types h) && not (has_header types ss r h)

abbrev pub declares_other_main : List NamedType → List ℕ → Header → Bool
declares_other_main types text h = bytes_eq text main_name && declares_other types [] (Some (Int W32)) h

abbrev pub declares_other_known : List NamedType → Option LibraryCall → Header → Bool
declares_other_known types None h = false
declares_other_known types (Some k) h = declares_other types (parameters_of k) (returned_by k) h

-- a function that is only declared may have any types that exist; one that is known has its own
unfoldable pub declaration_refused : Tree → Declaration → RefusedPlaces
declaration_refused m d UnknownName = unknown_types m.types (head_types (declaration_header d))
declaration_refused m d Doubled = doubled (symbol_names m) d.name
declaration_refused m d WrongType = wrong_counts (head_types (declaration_header d))
declaration_refused m d BadSignature =
    at_if (declares_other_known m.types (known_named d.name.text) (declaration_header d) || declares_other_main m.types d.name.text (declaration_header d)) d.name.span
declaration_refused m d _ = []

abbrev pub wrong_definition : List NamedType → Definition → Bool
wrong_definition types d =
    fails is_returnable (resolved types d.result) || list_any (λ (p : Param). fails is_scalar (resolved types p.ty)) d.params

abbrev pub param_names : Definition → List Name
param_names d = filter_map (λ (p : Param). p.name) d.params

-- the definition with its number, in which each parameter has its name
unfoldable pub definition_refused : Tree → ℕ × Definition → RefusedPlaces
definition_refused m (f, d) UnknownName = unknown_types m.types (head_types (definition_header d))
definition_refused m (f, d) Doubled = doubled (symbol_names m) d.name ++ flat_map (doubled (param_names d)) (param_names d)
definition_refused m (f, d) WrongType = wrong_types m.types (head_types (definition_header d))
definition_refused m (f, d) BadSignature =
    at_if (is_some (known_named d.name.text) || wrong_main m.types d.name.text (definition_header d) || wrong_definition m.types d) d.name.span
definition_refused m (f, d) TooLarge = at_if (any_large m.types (head_types (definition_header d)) || nat_le FUNCTION_LIMIT f) d.name.span
definition_refused m (f, d) _ = []

-- ---- bodies

-- the names of a function's registers and labels
abbrev pub own_names : List NamedType → Definition → List Name
own_names types d = labels_of d ++ map (λ (r : Register). r.name) (registers_of types d)

-- those of them that aren't parameters
abbrev pub body_names : List NamedType → Definition → List Name
body_names types d = labels_of d ++ map (λ (r : Register). r.name) (drop (length d.params) (registers_of types d))

abbrev pub scope_of : Tree → Definition → Scope
scope_of m d = record { tree = m; registers = registers_of m.types d; labels = labels_of d; result = resolved m.types d.result }

abbrev pub all_lines : Definition → List Line
all_lines d = flat_map (λ (b : Block). b.lines) d.blocks

abbrev pub body_types : Definition → List Ty
body_types d = flat_map (λ (l : Line). line_types l.op) (all_lines d)

-- no basic block, or one without an ending line
abbrev pub is_unfinished : Definition → Bool
is_unfinished d = (length d.blocks == 0) || list_any is_endless d.blocks

-- a function's limits: types, registers, and the instructions of the program up to its end
abbrev pub is_too_large : Tree → ℕ → Definition → Bool
is_too_large m lines d =
    any_large m.types (body_types d)
    || nat_lt FUNCTION_REGISTER_LIMIT (length (registers_of m.types d))
    || nat_lt INSTRUCTION_LIMIT (lines + line_count d)

-- a function in which each parameter, block and result has its name, and the number of lines of those before it
unfoldable pub body_refused : Tree → ℕ → Definition → RefusedPlaces
body_refused m lines d UnknownName = all_of (line_refused (scope_of m d)) (all_lines d) UnknownName
body_refused m lines d Doubled = flat_map (doubled (own_names m.types d)) (body_names m.types d) ++ all_of (line_refused (scope_of m d)) (all_lines d) Doubled
body_refused m lines d WrongType = all_of (line_refused (scope_of m d)) (all_lines d) WrongType
body_refused m lines d NoBlock = at_if (is_unfinished d) d.name.span ++ all_of (line_refused (scope_of m d)) (all_lines d) NoBlock
body_refused m lines d BadPhi = flat_map (λ (b : ℕ × Block). bad_phis (labels_of d) d.blocks b.0 b.1) (enumerate_from 0 d.blocks)
body_refused m lines d Unsupported = all_of (line_refused (scope_of m d)) (all_lines d) Unsupported
body_refused m lines d TooLarge = at_if (is_too_large m lines d) d.name.span
body_refused m lines d _ = []

abbrev pub bodies : Tree → List Definition → ℕ → List RefusedPlaces
bodies m [] lines = []
bodies m (d ∷ ds) lines = body_refused m lines (numbered m.types d) ∷ bodies m ds (lines + line_count d)

-- ---- the whole

abbrev pub has_main : Tree → Bool
has_main m = list_any (λ (d : Definition). bytes_eq d.name.text main_name) m.functions

-- NoMain stands before the text's first byte
unfoldable pub main_refused : Tree → RefusedPlaces
main_refused m NoMain = at_if (not (has_main m)) (record { start = 0; end = 0 })
main_refused m _ = []

unfoldable pub heads_refused : Tree → RefusedPlaces
heads_refused m kind =
    all_of (declaration_refused m) m.declares kind
    ++ all_of (definition_refused m) (enumerate_from 0 (map (numbered m.types) m.functions)) kind

-- the phases in their order: type items; globals; heads; bodies, function by function; main
unfoldable pub phases : Tree → List RefusedPlaces
phases m =
    all_of (item_refused m.types) m.types
    ∷ all_of (global_refused m) (enumerate_from 0 m.globals)
    ∷ heads_refused m
    ∷ (bodies m m.functions 0 ++ main_refused m ∷ [])

-- ---- the first refusal

-- the order of the kinds at one place
abbrev pub rank : CheckKind → ℕ
rank UnknownName = 0
rank Doubled = 1
rank WrongType = 2
rank NoBlock = 3
rank BadPhi = 4
rank Unsupported = 5
rank BadSignature = 6
rank TooLarge = 7
rank NoMain = 8

-- no later than another refusal: the earlier place, at one place the order of the kinds
abbrev pub NoLater : CheckKind → Span → CheckKind → Span → Type 0
NoLater k s k' s' = (s.start < s'.start) ⊎ ((s.start ≡ s'.start) × (rank k ≤ rank k'))

pub record IsEarliest (part : RefusedPlaces) (kind : CheckKind) (span : Span) : Type 0 where
  pub refused : Contains (part kind) span
  pub earliest : (k : CheckKind) (s : Span) → Contains (part k) s → NoLater kind span k s

pub record RefusesNothing (part : RefusedPlaces) : Type 0 where
  pub none : (k : CheckKind) → part k ≡ []

-- the earliest refusal of the first phase that has one
abbrev pub IsFirstOf : List RefusedPlaces → CheckKind → Span → Type 0
IsFirstOf [] kind span = ⊥
IsFirstOf (p ∷ ps) kind span = IsEarliest p kind span ⊎ (RefusesNothing p × IsFirstOf ps kind span)

abbrev pub RefuseNothing : List RefusedPlaces → Type 0
RefuseNothing [] = Unit {0}
RefuseNothing (p ∷ ps) = RefusesNothing p × RefuseNothing ps

unfoldable pub IsFirstRefusal : Tree → CheckKind → Span → Type 0
IsFirstRefusal m kind span = IsFirstOf (phases m) kind span

unfoldable pub IsUnrefused : Tree → Type 0
IsUnrefused m = RefuseNothing (phases m)
