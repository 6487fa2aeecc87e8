-- What names stand for, and the numbers of what they stand for: each kind in text order, from 0.
use Rattle.std.specs.Prelude.{ℕ, nat_lt, ◌&&◌, Bool, if◌then◌else◌, List, [], ◌∷◌, ◌++◌, map, length, take, Option, Some, None, sum_by}
use Rattle.std.specs.List.{find, enumerate_from, list_any, flat_map, filter_map, position}
use Rattle.std.specs.Option.{option_map}
use Rattle.std.specs.Str.{bytes_eq}
use Rattle.pg_num.specs.declared.width.Width.TheVariants.{W1}
use Rattle.pg_read_ast.specs.pg_read_lex.declared.token.Span.{Span}
use Rattle.pg_read_ast.specs.declared.names.Name.{Name}
use Rattle.pg_read_ast.specs.Syntax.{Op, Binary, Icmp, Cast, Select, Phi, Br, CondBr, Switch, Call, RetVoid, Ret}
use Rattle.pg_read_ast.specs.Syntax.{Unreachable, Alloca, Load, Store, GetElementPtr, Line, Block, Param, NamedType}
use Rattle.pg_read_ast.specs.Syntax.{Variable, Declaration, Definition, Tree}
use Rattle.pg_read_ast.specs.Numbers.{gives}
use Rattle.pg_check_types.specs.Resolved.{ResolvedType, IntegerType, PointerType, resolved}

-- ---- globals and functions

-- what a global name stands for; variables and defined functions with their numbers
pub data Symbol : Type 0 where
  VariableOf : ℕ → Variable → Symbol
  DefinitionOf : ℕ → Definition → Symbol
  DeclarationOf : Declaration → Symbol
  NoSymbol : Symbol

abbrev pub declared_as : Option Declaration → Symbol
declared_as (Some d) = DeclarationOf d
declared_as None = NoSymbol

abbrev pub defined_as : Option (ℕ × Definition) → Symbol → Symbol
defined_as (Some d) other = DefinitionOf d.0 d.1
defined_as None other = other

abbrev pub variable_as : Option (ℕ × Variable) → Symbol → Symbol
variable_as (Some g) other = VariableOf g.0 g.1
variable_as None other = other

-- the first global of a name, else the first definition, else the first declaration
unfoldable pub symbol : Tree → List ℕ → Symbol
symbol m text =
    variable_as (find (λ (g : ℕ × Variable). bytes_eq g.1.name.text text) (enumerate_from 0 m.globals))
    (defined_as (find (λ (d : ℕ × Definition). bytes_eq d.1.name.text text) (enumerate_from 0 m.functions))
    (declared_as (find (λ (d : Declaration). bytes_eq d.name.text text) m.declares)))

-- the names of globals and functions
abbrev pub symbol_names : Tree → List Name
symbol_names m = map (λ (g : Variable). g.name) m.globals ++ (map (λ (d : Declaration). d.name) m.declares ++ map (λ (d : Definition). d.name) m.functions)

-- ---- registers and labels of a function, in which each parameter, block and result has its name

pub record Register : Type 0 where
  pub name : Name
  pub ty : Option ResolvedType

-- the type of an instruction's result
abbrev pub result_type : List NamedType → Op → Option ResolvedType
result_type types (Binary s op t a b) = resolved types t
result_type types (Icmp s p t a b) = Some (IntegerType W1)
result_type types (Cast s op v t) = resolved types t
result_type types (Select s c a b) = resolved types a.ty
result_type types (Phi s t i all) = resolved types t
result_type types (Br s b) = None
result_type types (CondBr s c a b) = None
result_type types (Switch s v b all) = None
result_type types (Call s t w f all) = resolved types t
result_type types (RetVoid s v) = None
result_type types (Ret s v) = None
result_type types (Unreachable s) = None
result_type types (Alloca s t n) = Some PointerType
result_type types (Load s t p) = resolved types t
result_type types (Store s v p) = None
result_type types (GetElementPtr s t p all) = Some PointerType

abbrev pub register : Option ResolvedType → Name → Register
register t n = record { name = n; ty = t }

abbrev pub param_register : List NamedType → Param → Option Register
param_register types p = option_map (register (resolved types p.ty)) p.name

-- an instruction without a result defines no register, also where a name stands before it
abbrev pub line_register : List NamedType → Line → Option Register
line_register types l = if gives types l.op then option_map (register (result_type types l.op)) l.name else None

abbrev pub block_registers : List NamedType → Block → List Register
block_registers types b = filter_map (line_register types) b.lines

-- the parameters and then the results, each at its number
unfoldable pub registers_of : List NamedType → Definition → List Register
registers_of types d = filter_map (param_register types) d.params ++ flat_map (block_registers types) d.blocks

-- the labels, each at its basic block's number in the function
abbrev pub labels_of : Definition → List Name
labels_of d = filter_map (λ (b : Block). b.label) d.blocks

abbrev pub is_called : List ℕ → Register → Bool
is_called text r = bytes_eq r.name.text text

unfoldable pub register_named : List Register → List ℕ → Option Register
register_named registers text = find (is_called text) registers

unfoldable pub register_number : List Register → List ℕ → Option ℕ
register_number registers text = position (is_called text) registers

unfoldable pub label_number : List Name → List ℕ → Option ℕ
label_number labels text = position (λ (n : Name). bytes_eq n.text text) labels

-- ---- numbers over the whole program

-- the instructions of a function
abbrev pub line_count : Definition → ℕ
line_count d = sum_by (λ (b : Block). length b.lines) d.blocks

-- the first basic block of a function by its number, and the first instruction
unfoldable pub first_block : List Definition → ℕ → ℕ
first_block fs f = sum_by (λ (d : Definition). length d.blocks) (take f fs)

unfoldable pub first_line : List Definition → ℕ → ℕ
first_line fs f = sum_by line_count (take f fs)

-- ---- two of one name

-- another of this name stands before it
unfoldable pub doubled : List Name → Name → List Span
doubled all n = if list_any (λ (o : Name). bytes_eq o.text n.text && nat_lt o.span.start n.span.start) all then n.span ∷ [] else []
