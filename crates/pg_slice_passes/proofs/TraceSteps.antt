-- What a trace gives of one of its steps.
use Rattle.std.proofs.Common.{◌≡◌, ℕ, List, Some, IfSome, slice_get, subst}
use Rattle.pg_ir.specs.declared.instr.Instr.{Instr}
use Rattle.pg_ir.specs.Program.{NumberedProgram}
use Rattle.pg_run_trace.specs.declared.step.Step.{Step}
use Rattle.pg_slice_passes.specs.Given.{AreSteps, FitsKind, FitsStep}

pub fits_at : (p : NumberedProgram) (xs : List Step) (n : ℕ) (x : Step) → AreSteps p xs → slice_get xs n ≡ Some x → FitsStep p x
fits_at p xs n x a e = subst (λ o. IfSome o (FitsStep p)) e (a n)

pub kind_at : (p : NumberedProgram) (x : Step) (i : Instr) → FitsStep p x → slice_get p.instrs x.instr.0 ≡ Some i → FitsKind i.op x.kind
kind_at p x i f e = subst (λ o. IfSome o (λ (j : Instr). FitsKind j.op x.kind)) e f.kind
