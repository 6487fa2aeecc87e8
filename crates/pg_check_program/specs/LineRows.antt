-- Instructions whose results take their names from a row, one after the other.
use Rattle.std.specs.Prelude.{ℕ, ◌+◌, Bool, true, false, List, [], ◌∷◌, ◌++◌, Option, None}
use Rattle.pg_ir.specs.declared.ids.BlockNo.{BlockNo}
use Rattle.pg_ir.specs.declared.instr.Instr.{Instr}
use Rattle.pg_read_ast.specs.declared.names.Name.{Name}
use Rattle.pg_read_ast.specs.Syntax.{NamedType, Op, Line, Block}
use Rattle.pg_read_ast.specs.Numbers.{gives}
use Rattle.pg_check_rules.specs.Names.{Register, register_number}
use Rattle.pg_check_rules.specs.ValueConditions.{Scope}
use Rattle.pg_check_rules.specs.Numbered.{op_at}

-- the register of a line's result, if it gives one: that of the first of the names
abbrev pub result_by : Scope → Bool → List Name → Option ℕ
result_by g true (n ∷ ns) = register_number g.registers n.text
result_by g true [] = None
result_by g false names = None

-- the names of the lines behind it
abbrev pub names_after : Bool → List Name → List Name
names_after true (n ∷ ns) = ns
names_after true [] = []
names_after false names = names

abbrev pub name_in : Register → Name
name_in r = r.name

abbrev pub block_number : ℕ → BlockNo
block_number n = record { 0 = n }

-- the instruction of an operation, whose result has the first of the names
abbrev pub op_instr : Scope → ℕ → ℕ → List Name → Op → Instr
op_instr g first block names o = record { op = op_at g first o; block = block_number block; result = result_by g (gives g.tree.types o) names }

unfoldable pub lines_by : Scope → ℕ → ℕ → List Name → List Line → List Instr
lines_by g first block names [] = []
lines_by g first block names (l ∷ ls) = op_instr g first block names l.op ∷ lines_by g first block (names_after (gives g.tree.types l.op) names) ls

unfoldable pub names_after_lines : List NamedType → List Name → List Line → List Name
names_after_lines types names [] = names
names_after_lines types names (l ∷ ls) = names_after_lines types (names_after (gives types l.op) names) ls

-- the instructions of basic blocks by number from one on
unfoldable pub blocks_by : Scope → ℕ → ℕ → List Name → List Block → List Instr
blocks_by g first block names [] = []
blocks_by g first block names (b ∷ bs) =
    lines_by g first block names b.lines ++ blocks_by g first (block + 1) (names_after_lines g.tree.types names b.lines) bs
