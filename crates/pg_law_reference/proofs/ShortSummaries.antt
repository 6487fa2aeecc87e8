-- The functions that a program calls have short summaries.
use Rattle.std.proofs.Common.{◌≡◌, ℕ, ◌<◌, Bool, List, length, get_or, Option, Some, None, refl}
use Rattle.std.specs.Prelude.{All}
use Rattle.std.proofs.lemmas.Option.{slice_get-get_or}
use Rattle.pg_ir.specs.declared.instr.Instr.{Instr}
use Rattle.pg_ir.specs.declared.instr.Op.{Op}
use Rattle.pg_ir.specs.declared.instr.Op.TheVariants as op
use Rattle.pg_ir.specs.declared.value.Scalar.{Scalar}
use Rattle.pg_ir.specs.Program.{NumberedProgram}
use Rattle.pg_ir.specs.WellFormed.{FitsOp, IsProgram}
use Rattle.pg_region_accesses.specs.Accesses.{RootedList}
use Rattle.pg_region_summaries.specs.Summaries.{AreSummaries}
use Rattle.pg_region_summaries.proofs.SummaryFacts.{is_few}
use Rattle.pg_law_reference.proofs.AccessCounts.{CallsShort, IsShort}

module _ (p : NumberedProgram) (program : IsProgram p) (gated : ℕ → Bool) (sums : ℕ → Option RootedList) (h : AreSummaries p gated sums) where
  summary_short : (g : ℕ) → g < length p.functions → (o : Option RootedList) → sums g ≡ o → IsShort o
  summary_short g lt None e = tt
  summary_short g lt (Some xs) e = is_few p gated sums g xs (record { program = program; summaries = h; function = lt; summary = e })

  op_short : (types : List Scalar) (returns result : Option Scalar) (o : Op) → FitsOp p types returns result o → CallsShort sums o
  op_short types returns result (op.Call g args) t = summary_short g t.1 (sums g) refl
  op_short types returns result o t = tt

  pub short_calls : All (λ (x : Instr). CallsShort sums x.op) p.instrs
  short_calls i d lt = let x = get_or p.instrs i d in op_short _ _ _ x.op (program.instrs i x (slice_get-get_or p.instrs i d lt)).op
