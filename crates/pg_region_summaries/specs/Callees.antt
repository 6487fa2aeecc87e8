-- The graph of calls: of each function, the functions that its instructions call, in text order.
use Rattle.std.specs.Prelude.{ℕ, zero, suc, List, [], ◌∷◌, ◌++◌, length}
use Rattle.pg_cfg.specs.Graphs.{EdgeLists}
use Rattle.pg_ir.specs.declared.instr.Instr.{Instr}
use Rattle.pg_ir.specs.declared.instr.Op.{Op}
use Rattle.pg_ir.specs.declared.instr.Op.TheVariants as op
use Rattle.pg_ir.specs.Program.{NumberedProgram}
use Rattle.pg_ir.specs.Edges.{instrs_of}
use Rattle.pg_region_summaries.specs.Blocks.{blocks_of}

abbrev pub op_calls : Op → List ℕ
op_calls (op.Call g args) = g ∷ []
op_calls _ = []

abbrev pub instrs_calls : List Instr → List ℕ
instrs_calls [] = []
instrs_calls (x ∷ xs) = op_calls x.op ++ instrs_calls xs

unfoldable pub block_calls : NumberedProgram → ℕ → List ℕ
block_calls p b = instrs_calls (instrs_of p b)

abbrev pub blocks_calls : NumberedProgram → List ℕ → List ℕ
blocks_calls p [] = []
blocks_calls p (b ∷ bs) = block_calls p b ++ blocks_calls p bs

-- those of the first n functions
abbrev pub calls_below : NumberedProgram → ℕ → EdgeLists
calls_below p zero = []
calls_below p (suc f) = calls_below p f ++ blocks_calls p (blocks_of p f) ∷ []

unfoldable pub calls_of : NumberedProgram → EdgeLists
calls_of p = calls_below p (length p.functions)
