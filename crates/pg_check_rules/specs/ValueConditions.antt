-- When a value is refused at the type at which it stands.
use Rattle.std.specs.Prelude.{ℕ, suc, ℤ, pos, ◌==◌, Bool, true, false, if◌then◌else◌, List, [], ◌∷◌, ◌++◌, length, drop, slice_get, Option, Some, None, is_some}
use Rattle.std.specs.List.{flat_map}
use Rattle.std.specs.Option.{option_map}
use Rattle.pg_read_ast.specs.pg_read_lex.declared.token.Span.{Span}
use Rattle.pg_num.specs.Numbers.{signed}
use Rattle.pg_num.specs.declared.width.Width.{Width}
use Rattle.pg_read_ast.specs.declared.names.Name.{Name}
use Rattle.pg_read_ast.specs.Syntax.{Ty, Val, Int, True, False, Null, Undef, Poison, ZeroInitializer, Local, Global, GepVal}
use Rattle.pg_read_ast.specs.Syntax.{IntToPtrVal, Typed, Const, Consts, ValConst, BytesConst, ArrayConst, StructConst}
use Rattle.pg_read_ast.specs.Syntax.{NoConsts, MoreConsts, NamedType, Tree}
use Rattle.pg_num.specs.declared.width.Width.TheVariants.{W8}
use Rattle.pg_check_types.specs.Resolved.{ResolvedType, IntegerType, ArrayType, NoFields, MoreFields, resolved, is_bit, is_pointer}
use Rattle.pg_check_types.specs.Layout.{field_list}
use Rattle.pg_check_types.specs.Literals.{literal_in}
use Rattle.pg_check_types.specs.Kinds.{fails, is_as}
use Rattle.pg_check_rules.specs.Names.{Register, register_named, Symbol, DefinitionOf, DeclarationOf, NoSymbol, symbol}
use Rattle.pg_check_rules.specs.Places.{type_span, val_span}
use Rattle.pg_check_rules.specs.Written.{Use, typed_list, own_demands, isnt_void}
use Rattle.pg_check_rules.specs.TypeConditions.{unmet}

-- what the names of a function's lines are looked up in; outside of functions no register and no label
pub record Scope : Type 0 where
  pub tree : Tree
  pub registers : List Register
  pub labels : List Name
  pub result : Option ResolvedType

-- ---- names

abbrev pub unknown_symbol : Symbol → Span → List Span
unknown_symbol NoSymbol span = span ∷ []
unknown_symbol _ span = []

abbrev pub function_symbol : Symbol → Span → List Span
function_symbol (DefinitionOf f d) span = span ∷ []
function_symbol (DeclarationOf d) span = span ∷ []
function_symbol _ span = []

-- a register, a global or a function that there isn't
abbrev pub unknown_value : Scope → Val → List Span
unknown_value g (Local n) = if is_some (register_named g.registers n.text) then [] else n.span ∷ []
unknown_value g (Global n) = unknown_symbol (symbol g.tree n.text) n.span
unknown_value g _ = []

-- a function's name
abbrev pub function_value : Scope → Val → List Span
function_value g (Global n) = function_symbol (symbol g.tree n.text) n.span
function_value g _ = []

-- ---- types

abbrev pub fits_integer : ResolvedType → List ℕ → Bool
fits_integer (IntegerType w) text = is_some (literal_in w text)
fits_integer _ text = false

-- a constant that may stand at a type; a name of a global or a function is a pointer
abbrev pub fits : ResolvedType → Val → Bool
fits t (Int n) = fits_integer t n.text
fits t (True s) = is_bit t
fits t (False s) = is_bit t
fits t (Null s) = is_pointer t
fits t (Undef s) = isnt_void t
fits t (Poison s) = isnt_void t
fits t (ZeroInitializer s) = isnt_void t
fits t (Local n) = true
fits t (Global n) = is_pointer t
fits t (GepVal s u v p is) = is_pointer t
fits t (IntToPtrVal s u n v) = is_pointer t

-- a register of another type, or any register where none may stand
abbrev pub wrong_register : Bool → Option ResolvedType → Option Register → Bool
wrong_register constant t None = false
wrong_register true t (Some r) = true
wrong_register false t (Some r) = fails (is_as r.ty) t

abbrev pub wrong_symbol : Option ResolvedType → Symbol → Bool
wrong_symbol t NoSymbol = false
wrong_symbol t _ = fails is_pointer t

abbrev pub is_wrong : Scope → Bool → Option ResolvedType → Val → Bool
is_wrong g constant t (Local n) = wrong_register constant t (register_named g.registers n.text)
is_wrong g constant t (Global n) = wrong_symbol t (symbol g.tree n.text)
is_wrong g constant t v = fails (λ u. fits u v) t

-- ---- constants of integer types

-- the number of a constant of a width
abbrev pub constant_number : Width → Val → Option ℕ
constant_number w (Int n) = literal_in w n.text
constant_number w (True s) = Some 1
constant_number w (False s) = Some 0
constant_number w (Undef s) = Some 0
constant_number w (Poison s) = Some 0
constant_number w (ZeroInitializer s) = Some 0
constant_number w _ = None

abbrev pub number_at : Option ResolvedType → Val → Option ℕ
number_at (Some (IntegerType w)) v = constant_number w v
number_at _ v = None

abbrev pub signed_at : Option ResolvedType → Val → Option ℤ
signed_at (Some (IntegerType w)) v = option_map (signed w) (constant_number w v)
signed_at _ v = None

-- ---- indices of a getelementptr

abbrev pub field_at : ResolvedType → Option ℤ → Option ResolvedType
field_at s (Some (pos k)) = slice_get (field_list s) k
field_at s _ = None

-- the field that an index chooses: a constant, read as a signed number
abbrev pub chosen_field : List NamedType → ResolvedType → Typed → Option ResolvedType
chosen_field types s i = field_at s (signed_at (resolved types i.ty) i.value)

abbrev pub wrong_field : List NamedType → ResolvedType → Typed → List Span
wrong_field types s i = if is_some (chosen_field types s i) then [] else val_span i.value ∷ []

-- the indices behind the first go into arrays and structures
abbrev pub wrong_steps : List NamedType → Option ResolvedType → List Typed → List Span
wrong_steps types t [] = []
wrong_steps types None (i ∷ is) = []
wrong_steps types (Some (ArrayType n e)) (i ∷ is) = wrong_steps types (Some e) is
wrong_steps types (Some NoFields) (i ∷ is) = wrong_field types NoFields i
wrong_steps types (Some (MoreFields s t)) (i ∷ is) = wrong_field types (MoreFields s t) i ++ wrong_steps types (chosen_field types (MoreFields s t) i) is
wrong_steps types (Some t) (i ∷ is) = type_span i.ty ∷ []

unfoldable pub wrong_indices : List NamedType → Ty → List Typed → List Span
wrong_indices types t is = wrong_steps types (resolved types t) (drop 1 is)

abbrev pub inner_indices : List NamedType → Val → List Span
inner_indices types (GepVal s t u p is) = wrong_indices types t (typed_list is)
inner_indices types _ = []

-- a value that doesn't fit its type, or has a type or an index in it that doesn't fit
unfoldable pub wrong_use : Scope → Use → List Span
wrong_use g u =
    (if is_wrong g u.constant (resolved g.tree.types u.ty) u.value then val_span u.value ∷ [] else [])
    ++ (flat_map (unmet g.tree.types) (own_demands u.value) ++ inner_indices g.tree.types u.value)

-- ---- constants of globals

abbrev pub part_count : Consts → ℕ
part_count NoConsts = 0
part_count (MoreConsts t c cs) = suc (part_count cs)

-- bytes are an array of as many i8
abbrev pub fits_bytes : ResolvedType → List ℕ → Bool
fits_bytes (ArrayType n (IntegerType W8)) bytes = n == length bytes
fits_bytes _ bytes = false

abbrev pub fits_elements : ℕ → ResolvedType → Bool
fits_elements count (ArrayType n e) = n == count
fits_elements count _ = false

abbrev pub fits_fields : ℕ → ResolvedType → Bool
fits_fields count NoFields = count == 0
fits_fields count (MoreFields s t) = length (field_list (MoreFields s t)) == count
fits_fields count _ = false

abbrev pub element_of : Option ResolvedType → Option ResolvedType
element_of (Some (ArrayType n e)) = Some e
element_of _ = None

abbrev pub fields_of : Option ResolvedType → List ResolvedType
fields_of (Some t) = field_list t
fields_of None = []

-- a part's own type isn't the one that is asked for
abbrev pub wrong_part : List NamedType → Option ResolvedType → Ty → List Span
wrong_part types expected t = if fails (is_as expected) (resolved types t) then type_span t ∷ [] else []

-- a constant that isn't of its type, the values in it aside
unfoldable mutual
  pub wrong_const : List NamedType → Option ResolvedType → Const → List Span
  wrong_const types t (ValConst v) = []
  wrong_const types t (BytesConst b) = if fails (λ u. fits_bytes u b.text) t then b.span ∷ [] else []
  wrong_const types t (ArrayConst s cs) = (if fails (fits_elements (part_count cs)) t then s ∷ [] else []) ++ wrong_elements types (element_of t) cs
  wrong_const types t (StructConst s cs) = (if fails (fits_fields (part_count cs)) t then s ∷ [] else []) ++ wrong_fields types (fields_of t) cs

  pub wrong_elements : List NamedType → Option ResolvedType → Consts → List Span
  wrong_elements types e NoConsts = []
  wrong_elements types e (MoreConsts t c cs) = wrong_part types e t ++ (wrong_const types (resolved types t) c ++ wrong_elements types e cs)

  pub wrong_fields : List NamedType → List ResolvedType → Consts → List Span
  wrong_fields types fields NoConsts = []
  wrong_fields types fields (MoreConsts t c cs) = wrong_part types (slice_get fields 0) t ++ (wrong_const types (resolved types t) c ++ wrong_fields types (drop 1 fields) cs)
