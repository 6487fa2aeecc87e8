-- What keeps the numbers of a program within 32 bits, and its sizes within their limits.
use Rattle.std.specs.Prelude.{◌≡◌, ℕ, ◌+◌, ◌^◌, ◌<◌, ◌≤◌, List, length, slice_get, sum_by, Some}
use Rattle.indexmap.specs.IndexMap.{IndexMap}
use denote.Ref.{Bor}
use Rattle.pg_num.specs.declared.limits.TheConstants.{FUNCTION_LIMIT, GLOBAL_LIMIT, INSTRUCTION_LIMIT, FUNCTION_REGISTER_LIMIT}
use Rattle.pg_read_ast.specs.Syntax.{Typed, Incoming, Op, Binary, Icmp, Cast, Select, Phi, CondBr, Switch, Call, Ret, Alloca, Load, Store, GetElementPtr, Line, Block, NamedType, Definition, Tree}
use Rattle.pg_read_ast.specs.Numbers.{numbered}
use Rattle.pg_check_types.specs.NameIndex.{known_place}
use Rattle.pg_check_rules.specs.Names.{Symbol, VariableOf, DefinitionOf, registers_of, line_count}
use Rattle.pg_check_constants.specs.Sizes.{TypeFits, ValFits, GlobalsFit}

-- ---- numbers by name

-- the number of each name, counted from a first one, has 32 bits
abbrev pub HaveRoom : {S : Type 0} → ℕ → IndexMap (Bor (List ℕ)) ℕ S → Type 0
HaveRoom first places = (text : List ℕ) (place : ℕ) → known_place places text ≡ Some place → first + place < 2 ^ 32

abbrev pub IsShort : Symbol → Type 0
IsShort (VariableOf i v) = i < 2 ^ 32
IsShort (DefinitionOf f d) = f < 2 ^ 32
IsShort _ = Unit {0}

pub record FewSymbols (m : Tree) : Type 0 where
  pub globals : length m.globals ≤ GLOBAL_LIMIT
  pub functions : length m.functions ≤ FUNCTION_LIMIT

-- ---- the types of lines

abbrev pub Each : {X : Type 0} → (X → Type 0) → List X → Type 0
Each {X} P xs = (i : ℕ) (x : X) → slice_get xs i ≡ Some x → P x

abbrev pub TypedFits : List NamedType → Typed → Type 0
TypedFits types v = ValFits types v.value

abbrev pub IncomingFits : List NamedType → Incoming → Type 0
IncomingFits types i = ValFits types i.value

-- the types of whose sizes and offsets an instruction and its operands speak keep within the limit of sizes
unfoldable pub OpFits : List NamedType → Op → Type 0
OpFits types (Binary s o t a b) = ValFits types a × ValFits types b
OpFits types (Icmp s p t a b) = ValFits types a × ValFits types b
OpFits types (Cast s o v t) = TypedFits types v
OpFits types (Select s c a b) = TypedFits types c × TypedFits types a × TypedFits types b
OpFits types (Phi s t i all) = IncomingFits types i × Each (IncomingFits types) all
OpFits types (CondBr s c a b) = TypedFits types c
OpFits types (Switch s v b all) = TypedFits types v
OpFits types (Call s t w f all) = Each (TypedFits types) all
OpFits types (Ret s v) = TypedFits types v
OpFits types (Alloca s t n) = TypeFits types t
OpFits types (Load s t p) = TypedFits types p
OpFits types (Store s v p) = TypedFits types v × TypedFits types p
OpFits types (GetElementPtr s t p all) = TypeFits types t × TypedFits types p × Each (TypedFits types) all
OpFits types _ = Unit {0}

abbrev pub LineFits : List NamedType → Line → Type 0
LineFits types l = OpFits types l.op

abbrev pub BlockFits : List NamedType → Block → Type 0
BlockFits types b = Each (LineFits types) b.lines

-- ---- functions and the whole

pub record FunctionFits (types : List NamedType) (d : Definition) : Type 0 where
  pub params : length d.params ≤ FUNCTION_REGISTER_LIMIT
  pub registers : length (registers_of types (numbered types d)) ≤ FUNCTION_REGISTER_LIMIT
  pub blocks : Each (BlockFits types) d.blocks

abbrev pub blocks_in : Definition → ℕ
blocks_in d = length d.blocks

-- the functions of a program: how many, and how many basic blocks and instructions they have together
pub record FunctionsFit (types : List NamedType) (ds : List Definition) : Type 0 where
  pub few : length ds ≤ FUNCTION_LIMIT
  pub each : Each (FunctionFits types) ds
  pub blocks : sum_by blocks_in ds ≤ INSTRUCTION_LIMIT
  pub lines : sum_by line_count ds ≤ INSTRUCTION_LIMIT

pub record ProgramFits (m : Tree) : Type 0 where
  pub few_globals : length m.globals ≤ GLOBAL_LIMIT
  pub globals : GlobalsFit m.types m.globals
  pub functions : FunctionsFit m.types m.functions
