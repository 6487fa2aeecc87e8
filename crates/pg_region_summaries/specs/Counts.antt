-- How many accesses a function has, if all that it does is quiet.
use Rattle.std.specs.Prelude.{ℕ, ◌+◌, List, [], ◌∷◌, length, nat_le, Option, Some, None, if◌then◌else◌}
use Rattle.pg_ir.specs.declared.instr.Instr.{Instr}
use Rattle.pg_ir.specs.declared.instr.Op.{Op}
use Rattle.pg_ir.specs.declared.instr.Op.TheVariants as op
use Rattle.pg_ir.specs.Program.{NumberedProgram}
use Rattle.pg_ir.specs.Edges.{instrs_of}
use Rattle.pg_region_accesses.specs.Accesses.{RootedList}
use Rattle.pg_region_summaries.specs.declared.limits.TheConstants.{SUMMARY_LIMIT}

abbrev pub count_in : Option RootedList → ℕ
count_in None = 0
count_in (Some xs) = length xs

abbrev pub op_count : (ℕ → Option RootedList) → Op → ℕ
op_count sums (op.Load w from) = 1
op_count sums (op.Store w v at) = 1
op_count sums (op.Call g args) = count_in (sums g)
op_count sums _ = 0

abbrev pub instrs_count : (ℕ → Option RootedList) → List Instr → ℕ
instrs_count sums [] = 0
instrs_count sums (x ∷ xs) = op_count sums x.op + instrs_count sums xs

unfoldable pub block_count : NumberedProgram → (ℕ → Option RootedList) → ℕ → ℕ
block_count p sums b = instrs_count sums (instrs_of p b)

abbrev pub blocks_count : NumberedProgram → (ℕ → Option RootedList) → List ℕ → ℕ
blocks_count p sums [] = 0
blocks_count p sums (b ∷ bs) = block_count p sums b + blocks_count p sums bs

-- a number of accesses that a summary may have
abbrev pub within_limit : ℕ → Option ℕ
within_limit n = if nat_le n SUMMARY_LIMIT then Some n else None
