-- The numbers of unnamed parameters, blocks and results, and the tree in which each has its number as its name.
use Rattle.std.specs.Prelude.{ℕ, zero, suc, ◌+◌, max, Bool, true, false, not, List, [], ◌∷◌, ◌==◌, if◌then◌else◌, Option, Some, None, map, length, codes}
use Rattle.std.specs.Int.Digits.{digits_of}
use Rattle.std.specs.Str.{bytes_eq}
use Rattle.pg_read_lex.specs.pg_num.Decimal.{are_digits, natural_of}
use Rattle.pg_read_ast.specs.declared.names.Name.{Name}
use Rattle.pg_read_ast.specs.Syntax.{Ty, Void, Named, Op, Binary, Icmp, Cast, Select, Phi, Br, CondBr, Switch, Call}
use Rattle.pg_read_ast.specs.Syntax.{RetVoid, Ret, Unreachable, Alloca, Load, Store, GetElementPtr, Line, Block, Param}
use Rattle.pg_read_ast.specs.Syntax.{NamedType, Definition, Tree}
use Rattle.pg_read_ast.specs.Text.{tree_text}

-- the decimal digits of a number, none for 0
unfoldable pub digits_text : ℕ → List ℕ
digits_text n = map (λ d. 48 + d) (digits_of 10 n)

-- the decimal text of a number
unfoldable pub decimal_text : ℕ → List ℕ
decimal_text n = if n == 0 then codes "0" else digits_text n

-- what a thing is called where an unnamed one gets this number
abbrev pub name_at : ℕ → Option Name → Name
name_at next (Some name) = name
name_at next None = record { text = decimal_text next; span = record { start = 0; end = 0 } }

-- one more than the greatest number used, after a name that is written: a name of digits alone uses its value
unfoldable pub after_name : ℕ → List ℕ → ℕ
after_name next text = if are_digits text then max next (natural_of text + 1) else next

abbrev pub after : ℕ → Option Name → ℕ
after next (Some name) = after_name next name.text
after next None = next + 1

-- the things of a list, each with what the numbers before it give
abbrev pub each_at : {X Y : Type 0} → (ℕ → X → ℕ) → (ℕ → X → Y) → ℕ → List X → List Y
each_at behind give next [] = []
each_at behind give next (x ∷ xs) = give next x ∷ each_at behind give (behind next x) xs

-- the next number behind all of a list
abbrev pub behind_all : {X : Type 0} → (ℕ → X → ℕ) → ℕ → List X → ℕ
behind_all behind next [] = next
behind_all behind next (x ∷ xs) = behind_all behind (behind next x) xs

abbrev pub param_at : ℕ → Param → Param
param_at next p = record { ty = p.ty; name = Some (name_at next p.name) }

abbrev pub behind_param : ℕ → Param → ℕ
behind_param next p = after next p.name

-- ---- which instructions have a result

-- the type of the first item of this name
abbrev pub type_named : List NamedType → List ℕ → Option Ty
type_named [] name = None
type_named (i ∷ is) name = if bytes_eq i.name.text name then Some i.ty else type_named is name

abbrev pub void_by : (List ℕ → Bool) → Ty → Bool
void_by named (Void s) = true
void_by named (Named n) = named n.text
void_by named t = false

abbrev pub is_some_and : Option Ty → (Ty → Bool) → Bool
is_some_and None test = false
is_some_and (Some t) test = test t

-- a name for void, through at most so many items
unfoldable pub name_void : ℕ → List NamedType → List ℕ → Bool
name_void zero types name = false
name_void (suc n) types name = is_some_and (type_named types name) (λ t. void_by (name_void n types) t)

abbrev pub void_within : ℕ → List NamedType → Ty → Bool
void_within n types t = void_by (name_void n types) t

-- void, or a name for it
unfoldable pub is_void : List NamedType → Ty → Bool
is_void types t = void_within (length types) types t

-- the operations with a result that isn't void
unfoldable pub gives : List NamedType → Op → Bool
gives types (Binary s op t a b) = not (is_void types t)
gives types (Icmp s p t a b) = true
gives types (Cast s op v t) = not (is_void types t)
gives types (Select s c a b) = not (is_void types a.ty)
gives types (Phi s t i all) = not (is_void types t)
gives types (Br s b) = false
gives types (CondBr s c a b) = false
gives types (Switch s v b all) = false
gives types (Call s t w f all) = not (is_void types t)
gives types (RetVoid s v) = false
gives types (Ret s v) = false
gives types (Unreachable s) = false
gives types (Alloca s t n) = true
gives types (Load s t p) = not (is_void types t)
gives types (Store s v p) = false
gives types (GetElementPtr s t p all) = true

-- ---- instructions, blocks, functions

abbrev pub result_at : Bool → ℕ → Option Name → Option Name
result_at has_result next (Some name) = Some name
result_at true next None = Some (name_at next None)
result_at false next None = None

abbrev pub after_result : Bool → ℕ → Option Name → ℕ
after_result has_result next (Some name) = after next (Some name)
after_result true next None = next + 1
after_result false next None = next

abbrev pub line_at : List NamedType → ℕ → Line → Line
line_at types next l = record { name = result_at (gives types l.op) next l.name; op = l.op }

abbrev pub behind_line : List NamedType → ℕ → Line → ℕ
behind_line types next l = after_result (gives types l.op) next l.name

-- a label, and then the lines
unfoldable pub block_at : List NamedType → ℕ → Block → Block
block_at types next b = record { label = Some (name_at next b.label); lines = each_at (behind_line types) (line_at types) (after next b.label) b.lines }

unfoldable pub behind_block : List NamedType → ℕ → Block → ℕ
behind_block types next b = behind_all (behind_line types) (after next b.label) b.lines

-- the parameters, from 0, and then the blocks
unfoldable pub numbered : List NamedType → Definition → Definition
numbered types d = record {
  result = d.result;
  name = d.name;
  params = each_at behind_param param_at 0 d.params;
  blocks = each_at (behind_block types) (block_at types) (behind_all behind_param 0 d.params) d.blocks;
}

unfoldable pub numbered_tree : Tree → Tree
numbered_tree m = record { types = m.types; globals = m.globals; declares = m.declares; functions = map (numbered m.types) m.functions }

-- the canonical text of a tree
unfoldable pub canonical_text : Tree → List ℕ
canonical_text m = tree_text (numbered_tree m)
