-- What an instance leaves unknown: the registers that its region may set, and the bytes that it may write.
use Rattle.std.proofs.Common.{◌≡◌, ℕ, true, false, List, [], ◌∷◌, Some, None, refl, sym, ◌∙◌}
use Rattle.std.proofs.lemmas.Bool.{true≢false}
use Rattle.pg_ir.specs.declared.instr.Instr.{Instr}
use Rattle.pg_ir.specs.declared.instr.Op.{Op}
use Rattle.pg_ir.specs.declared.instr.Op.TheVariants as op
use Rattle.pg_ir.specs.Program.{NumberedProgram}
use Rattle.pg_run_trace.specs.declared.step.StepKind.{StepKind}
use Rattle.pg_run_trace.specs.declared.step.StepKind.TheVariants as kinds
use Rattle.pg_run_trace.specs.Steps.{happening_in}
use Rattle.pg_slice_rules.specs.declared.decision.Decision.TheVariants.{Pinned}
use Rattle.pg_slice_rules.specs.Moments.{Moment}
use Rattle.pg_slice_rules.specs.Freeable.{FreeRegion}
use Rattle.pg_slice_rules.specs.SymbolicValues.{Symbolic, Unknown}
use Rattle.pg_slice_rules.specs.Known.{SymbolicState, Taken, after_op, is_branch}
use Rattle.pg_law_least.specs.Keeps.{is_branching, may_write}
use Rattle.pg_law_least.proofs.KeptLikeness.{are_forgotten, forgotten_byte}
use Rattle.pg_law_least.proofs.LiveSteps.{calls_by, known_bytes}
use Rattle.pg_law_least.proofs.LiveStepsInside.{IsTopForgotten}

-- an instance leaves its registers unknown
pub instance_op : (p : NumberedProgram) (n : ℕ) (m : Moment) (r : FreeRegion) (number : ℕ) (x : Instr) (o : Op) (cs : List (List Symbolic)) → is_branching o ≡ true →
    IsTopForgotten r.sets (Pinned n) (after_op p false n m (Some r) number x o cs)
instance_op p n m r number x (op.CondBr c a b) [] h = tt
instance_op p n m r number x (op.CondBr c a b) (rs ∷ cs) h = are_forgotten 0 r.sets (Pinned n) rs
instance_op p n m r number x (op.Switch w on other cases) [] h = tt
instance_op p n m r number x (op.Switch w on other cases) (rs ∷ cs) h = are_forgotten 0 r.sets (Pinned n) rs
instance_op p n m r number x _ cs h = absurd (true≢false (sym h))

pub instance_calls : (p : NumberedProgram) (d : Taken) (n : ℕ) (m : Moment) (r : FreeRegion) (x : Instr) (kind : StepKind) (s : SymbolicState) (cs : List (List Symbolic)) →
    is_branch kind ≡ true →
    is_branching x.op ≡ true → d.pinned n ≡ false →
    IsTopForgotten r.sets (Pinned n) (calls_by p d n m (Some r) x kind s cs)
instance_calls p d n m r x (kinds.Branch c) s cs b h q = rw q (instance_op p n m r 0 x x.op cs h)
instance_calls p d n m r x _ s cs b h q = absurd (true≢false (sym b))

pub instance_bytes : (p : NumberedProgram) (d : Taken) (n : ℕ) (m : Moment) (r : FreeRegion) (x : Instr) (kind : StepKind) (s : SymbolicState) (b : ℕ) → is_branch kind ≡ true →
    d.pinned n ≡ false → may_write r.accesses b ≡ true →
    known_bytes p d n m (Some r) x kind s b ≡ Unknown (Pinned n)
instance_bytes p d n m r x (kinds.Branch c) s b h q f = rw q (forgotten_byte r.accesses (Pinned n) s.bytes b ∙ (rw f refl))
instance_bytes p d n m r x _ s b h q f = absurd (true≢false (sym h))

pub branch_plain : (kind : StepKind) → is_branch kind ≡ true → happening_in kind ≡ None
branch_plain (kinds.Branch c) h = refl
branch_plain _ h = absurd (true≢false (sym h))
