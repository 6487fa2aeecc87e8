-- A numbered program: its functions, basic blocks, instructions and globals, each in text order.
use Rattle.std.specs.Prelude.{ℕ, ◌+◌, List, [], Option, Some, None, slice_get}
use Rattle.pg_num.specs.Pointers.{word_of}
use Rattle.pg_ir.specs.declared.function.Function.{Function}
use Rattle.pg_ir.specs.declared.function.Block.{Block}
use Rattle.pg_ir.specs.declared.function.GlobalInfo.{GlobalInfo}
use Rattle.pg_ir.specs.declared.instr.Instr.{Instr}
use Rattle.pg_ir.specs.declared.value.Scalar.{Scalar}

pub record NumberedProgram : Type 0 where
  pub functions : List Function
  pub blocks : List Block
  pub instrs : List Instr
  pub globals : List GlobalInfo
  pub main : ℕ

-- the program of these parts
abbrev pub numbered_program : List Function → List Block → List Instr → List GlobalInfo → ℕ → NumberedProgram
numbered_program functions blocks instrs globals main = record { functions = functions; blocks = blocks; instrs = instrs; globals = globals; main = main }

-- the pointer to the first byte of a global
abbrev pub pointer_to : Option GlobalInfo → Option ℕ
pointer_to None = None
pointer_to (Some g) = Some (word_of (record { start = g.start; length = g.size; offset = 0 }))

-- ---- parts by number; where there is no such part, one that is empty

abbrev pub types_in : Option Function → List Scalar
types_in None = []
types_in (Some f) = f.registers

-- the types of a function's registers
unfoldable pub types_of : NumberedProgram → ℕ → List Scalar
types_of p f = types_in (slice_get p.functions f)

abbrev pub result_in : Option Function → Option Scalar
result_in None = None
result_in (Some f) = f.result

-- the type that a function returns, if it returns a value
unfoldable pub result_of : NumberedProgram → ℕ → Option Scalar
result_of p f = result_in (slice_get p.functions f)

abbrev pub parameter_count_in : Option Function → ℕ
parameter_count_in None = 0
parameter_count_in (Some f) = f.params

-- how many parameters a function has
unfoldable pub parameter_count : NumberedProgram → ℕ → ℕ
parameter_count p f = parameter_count_in (slice_get p.functions f)

abbrev pub function_in : Option Block → ℕ
function_in None = 0
function_in (Some b) = b.function

-- the function of a basic block
unfoldable pub function_of : NumberedProgram → ℕ → ℕ
function_of p b = function_in (slice_get p.blocks b)

abbrev pub first_in : Option Block → ℕ
first_in None = 0
first_in (Some b) = b.first.0

-- the first instruction of a basic block
unfoldable pub first_of : NumberedProgram → ℕ → ℕ
first_of p b = first_in (slice_get p.blocks b)

abbrev pub end_in : Option Block → ℕ
end_in None = 0
end_in (Some b) = b.first.0 + b.count

-- one past the last instruction of a basic block
unfoldable pub end_of : NumberedProgram → ℕ → ℕ
end_of p b = end_in (slice_get p.blocks b)

abbrev pub first_block_in : Option Function → ℕ
first_block_in None = 0
first_block_in (Some f) = f.first_block.0

-- the first basic block of a function
unfoldable pub first_block_of : NumberedProgram → ℕ → ℕ
first_block_of p f = first_block_in (slice_get p.functions f)

-- the first instruction of a function, that of its first basic block
unfoldable pub entry_of : NumberedProgram → ℕ → ℕ
entry_of p f = first_of p (first_block_of p f)
