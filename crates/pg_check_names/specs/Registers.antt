-- The registers of a function by their names and the types that are written for them.
use Rattle.std.specs.Prelude.{◌≡◌, Bool, true, false, not, List, [], ◌∷◌, Option, Some, None}
use Rattle.pg_num.specs.declared.width.Width.TheVariants.{W1}
use Rattle.pg_read_ast.specs.declared.names.Name.{Name}
use Rattle.pg_read_ast.specs.Syntax.{NamedType, Op, Block}
use Rattle.pg_read_ast.specs.Numbers.{is_void, gives}
use Rattle.pg_read_ast.specs.Views.{ty_of}
use Rattle.pg_check_types.specs.Resolved.{ResolvedType, IntegerType, PointerType, resolved}
use Rattle.pg_check_rules.specs.Names.{Register, register, result_type}
use Rattle.pg_check_names.specs.declared.register_type.RegisterType.{RegisterType}
use Rattle.pg_check_names.specs.declared.register_type.RegisterType.TheVariants.{Written, Bit, Pointer}

abbrev pub register_type : List NamedType → RegisterType → Option ResolvedType
register_type types (Written t) = resolved types (ty_of t.now)
register_type types Bit = Some (IntegerType W1)
register_type types Pointer = Some PointerType

-- registers with these names, of these types
abbrev pub registers_by : List NamedType → List Name → List RegisterType → List Register
registers_by types (n ∷ ns) (t ∷ ts) = register (register_type types t) n ∷ registers_by types ns ts
registers_by types _ _ = []

-- ---- the results of operations

abbrev pub type_or_none : List NamedType → Option RegisterType → Option ResolvedType
type_or_none types (Some t) = register_type types t
type_or_none types None = None

-- whether there is a value of a type that is written for a result
abbrev pub has_value : List NamedType → RegisterType → Bool
has_value types (Written t) = not (is_void types (ty_of t.now))
has_value types Bit = true
has_value types Pointer = true

abbrev pub has_some_value : List NamedType → Option RegisterType → Bool
has_some_value types (Some t) = has_value types t
has_some_value types None = false

-- the type of an operation's result, and none where the operation gives no value
abbrev pub IsResult : List NamedType → Op → Option RegisterType → Type 0
IsResult types op (Some t) = (gives types op ≡ true) × (register_type types t ≡ result_type types op)
IsResult types op None = gives types op ≡ false

abbrev pub block_label : Block → Option Name
block_label b = b.label
