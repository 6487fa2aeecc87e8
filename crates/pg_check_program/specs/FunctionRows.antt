-- Functions and what belongs to them, one after the other, each with its number.
use Rattle.std.specs.Prelude.{ℕ, ◌+◌, Bool, List, [], ◌∷◌, ◌++◌, Option, Some, None}
use Rattle.std.specs.Str.{bytes_eq}
use Rattle.pg_ir.specs.declared.function.Function.{Function}
use Rattle.pg_ir.specs.declared.function.Block.{Block}
use Rattle.pg_ir.specs.declared.instr.Instr.{Instr}
use Rattle.pg_ir.specs.declared.value.Scalar.{Scalar}
use Rattle.pg_ir.specs.declared.value.Scalar.TheVariants as scalar
use Rattle.pg_read_ast.specs.declared.names.Name.{Name}
use Rattle.pg_read_ast.specs.declared.nodes.DefineItem.{DefineItem}
use Rattle.pg_read_ast.specs.Syntax.{Definition, NamedType, Tree}
use Rattle.pg_read_ast.specs.Numbers.{numbered}
use Rattle.pg_read_ast.specs.Views.{define_of}
use Rattle.pg_check_types.specs.declared.kind.TypeKind.{TypeKind}
use Rattle.pg_check_types.specs.declared.kind.TypeKind.TheVariants as kind
use Rattle.pg_check_rules.specs.Names.{first_block, first_line}
use Rattle.pg_check_rules.specs.Conditions.{main_name}
use Rattle.pg_check_rules.specs.Numbered.{function_at, blocks_from, function_instrs}

-- what each thing of a list gives, from one number on
unfoldable pub rows_from : {A X : Type 0} → (ℕ → A → List X) → ℕ → List A → List X
rows_from f n [] = []
rows_from f n (x ∷ xs) = f n x ++ rows_from f (n + 1) xs

-- a function in which each parameter, block and result has its name
abbrev pub numbered_item : List NamedType → DefineItem → Definition
numbered_item types item = numbered types (define_of item)

-- what a function has in each list of the program, its number and the functions given
abbrev pub function_row : Tree → List Definition → ℕ → DefineItem → List Function
function_row m fs f item = function_at m (first_block fs f) (numbered_item m.types item) ∷ []

abbrev pub block_row : List Definition → ℕ → DefineItem → List Block
block_row fs f item = blocks_from f (first_line fs f) (define_of item).blocks

abbrev pub instr_row : Tree → List Definition → ℕ → DefineItem → List Instr
instr_row m fs f item = function_instrs m (first_block fs f) (numbered_item m.types item)

abbrev pub is_main_item : DefineItem → Bool
is_main_item item = bytes_eq item.name.text main_name

abbrev pub text_in : Name → List ℕ
text_in n = n.text

-- the type of the values of a kind of type
abbrev pub kind_scalar : Option TypeKind → Option Scalar
kind_scalar (Some (kind.Integer w)) = Some (scalar.Int w)
kind_scalar (Some kind.Pointer) = Some scalar.Ptr
kind_scalar _ = None
