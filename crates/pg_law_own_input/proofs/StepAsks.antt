-- At each step of a run all that is asked holds on the run's own input, where what is known is like what the machine has.
use Rattle.std.proofs.Common.{◌≡◌, ℕ, Bool, true, false, List, [], ◌∷◌, length, Option, Some, None, refl, sym, ap, ◌∙◌, subst}
use Rattle.std.specs.Prelude.{◌&&◌, not, nat_lt, slice_get, if◌then◌else◌}
use Rattle.std.specs.List.{AllByRecursion as AllOf}
use Rattle.pg_num.specs.declared.layout.TheConstants.{MEMORY_BYTES}
use Rattle.pg_ir.specs.declared.instr.Instr.{Instr}
use Rattle.pg_ir.specs.declared.request.Request.TheVariants as requests
use Rattle.pg_run_thread.specs.declared.action.Action.{Action}
use Rattle.pg_run_thread.specs.declared.action.Action.TheVariants as actions
use Rattle.pg_run_thread.specs.LocalState.{fresh, own_memory}
use Rattle.pg_run_thread.specs.Operands.{first_four, operands_of}
use Rattle.pg_run_thread.specs.States.{CanStep}
use Rattle.pg_run_thread.specs.Step.{op_action, total}
use Rattle.pg_run_trace.specs.declared.step.Step.{Step}
use Rattle.pg_run_trace.specs.declared.step.StepKind.{StepKind}
use Rattle.pg_run.specs.MachineStep.{event_told, instr_told, kind_told, number_in, operands_in}
use Rattle.pg_run.specs.State.{State, instr_of, next_of}
use Rattle.pg_run.proofs.StepsBegin.{next_is}
use Rattle.pg_law_effects.specs.Effect.{answer_to}
use Rattle.pg_law_plan.proofs.of_pg_law_runs.StepRules.{next_fresh}
use Rattle.pg_slice_rules.specs.Freeable.{FreeRegion}
use Rattle.pg_slice_rules.specs.Known.{Seen, is_branch, region_of, thread_of}
use Rattle.pg_slice_rules.specs.Moments.{calls_of, instr_in, registers_in, thread_in}
use Rattle.pg_slice_rules.specs.Rules.{Need, access_needs_by, access_needs_in, asks_bounds, asks_values, bounds_needs, is_bound, kind_in, region_needs_in, registers_before, value_needs}
use Rattle.pg_slice_rules.specs.Rules.{value_needs_by, value_needs_in}
use Rattle.pg_slice_rules.specs.SymbolicValues.{Symbolic}
use Rattle.pg_law_instances.specs.pg_law_least.Keeps.{every}
use Rattle.pg_law_plan.specs.Likes.{AreLike, IsLike}
use Rattle.pg_law_plan.specs.Units.{ReferenceRun, reference_of}
use Rattle.pg_law_plan.proofs.EachUnit.{IsMet}
use Rattle.pg_law_plan.proofs.StepChecks.{IsGood}
use Rattle.pg_law_plan.proofs.ThreadAtInstruction.{can_step, operands_here, running}
use Rattle.pg_law_plan.proofs.MetSteps.{act_at, instr_is, place0, told_met, top_known}
use Rattle.pg_law_plan.proofs.AlikeThreads.{Beginning, Both}
use Rattle.pg_law_own_input.proofs.InstructionAsks.{op_fine, told_by}
use Rattle.pg_law_own_input.proofs.AskedValues.{IsGiven, both_given, hold_all}
use Rattle.pg_law_own_input.proofs.AskedPaths.{region_given}

-- all decisions are taken, so nothing more is asked to be pinned
pub none_bound : (b : Bool) → (b && not true) ≡ false
none_bound true = refl
none_bound false = refl

module _ (r : ReferenceRun) (x : Seen) (s : State) (met : IsMet r every x s) (live : x.live ≡ true)
    (cells : (c : ℕ) → nat_lt c MEMORY_BYTES ≡ true → IsLike r.input (x.before.bytes c) (Some (x.moment.bytes c))) where
  abbrev t : ℕ
  t = thread_in x.moment

  abbrev answer : ℕ
  answer = answer_to r.input s (thread_in x.moment) (next_of r.program s (thread_in x.moment))

  abbrev AreGiven : List Need → Type 0
  AreGiven qs = AllOf (IsGiven r.input) qs

  -- ---- at an instruction

  module _ (b : Both r.program r.input (thread_in x.moment) s s (thread_of x.before (thread_in x.moment)).calls) where
    abbrev number : ℕ
    number = number_in r.program (slice_get s.locals (thread_in x.moment)) answer

    abbrev act : Action
    act = op_action r.program (own_memory (running (thread_in x.moment) b.h b.f b.fs b.n)) b.h b.f.registers (length (b.f ∷ b.fs)) (total (b.f ∷ b.fs)) b.x.block.0 b.x.op

    place : slice_get r.program.instrs (instr_of s (thread_in x.moment)) ≡ Some b.x
    place = place0 r every r.input x s s met b

    next_at : next_of r.program s (thread_in x.moment) ≡ act
    next_at = act_at r every r.input x s s met b b.x.op refl

    can : CanStep act
    can = subst CanStep next_at (can_step r.gated r.program r.input s x.moment.did.did met.takes)

    alike : AreLike r.input (registers_before x) b.f.registers
    alike = subst (λ (ks : List Symbolic). AreLike r.input ks b.f.registers) (sym (top_known r every r.input x s s met b)) b.top.registers

    registers_are : registers_in x.moment.calls ≡ b.f.registers
    registers_are = ap registers_in (met.calls ∙ ap calls_of b.here.local)

    pub registers_alike : AreLike r.input (registers_before x) (registers_in x.moment.calls)
    registers_alike = subst (AreLike r.input (registers_before x)) (sym registers_are) alike

    kind_as : (a : Action) → kind_told r.gated r.program s (thread_in x.moment) (first_four r.program b.f.registers (operands_of b.x.op)) answer number a
        ≡ told_by r.gated r.program r.input s (thread_in x.moment) x b.x b.f.registers answer number alike b.x.op a
    kind_as actions.Local = ap (instr_told (first_four r.program b.f.registers (operands_of b.x.op)) number) place
    kind_as (actions.Load q) = refl
    kind_as (actions.Store q n) = refl
    kind_as (actions.Event q) = refl
    kind_as a = refl

    kind_is : kind_in x ≡ told_by r.gated r.program r.input s (thread_in x.moment) x b.x b.f.registers answer number alike b.x.op act
    kind_is =
        ap (λ (z : Step). z.kind) (told_met r every x s met)
        ∙ ap (λ (ns : List ℕ). kind_told r.gated r.program s (thread_in x.moment) ns answer number (next_of r.program s (thread_in x.moment)))
        (operands_here r.program s (thread_in x.moment) b.h b.f b.fs b.n b.x b.here)
        ∙ ap (kind_told r.gated r.program s (thread_in x.moment) (first_four r.program b.f.registers (operands_of b.x.op)) answer number) next_at
        ∙ kind_as act

    needed : AllOf (IsGiven r.input) (value_needs_by r.program every x b.x (kind_in x)) × AllOf (IsGiven r.input) (access_needs_by r.program x b.x (kind_in x))
    needed = subst (λ (k : StepKind). AllOf (IsGiven r.input) (value_needs_by r.program every x b.x k) × AllOf (IsGiven r.input) (access_needs_by r.program x b.x k)) (sym kind_is)
        (op_fine r.gated r.program r.input s (thread_in x.moment) x b.x b.f.registers answer number alike (own_memory (running (thread_in x.moment) b.h b.f b.fs b.n)) b.h (length (b.f ∷ b.fs))
        (total (b.f ∷ b.fs)) b.x.block.0 b.x.op can)

    values_here : AreGiven (value_needs (reference_of r) every x)
    values_here = subst (AllOf (IsGiven r.input))
        (sym (ap (value_needs_in r.program every x) (instr_is r every r.input x s s met b) ∙ ap (λ (c : Bool). if c then value_needs_by r.program every x b.x (kind_in x) else []) live)) needed.0

    accesses_here : AreGiven (access_needs_in r.program x (instr_in r.program x.moment))
    accesses_here = subst (AllOf (IsGiven r.input))
        (sym (ap (access_needs_in r.program x) (instr_is r every r.input x s s met b) ∙ ap (λ (c : Bool). if c then access_needs_by r.program x b.x (kind_in x) else []) live)) needed.1

    regions_here : AreGiven (if x.live then region_needs_in r.program x x.region else [])
    regions_here = subst (λ (c : Bool). AllOf (IsGiven r.input) (if c then region_needs_in r.program x x.region else [])) (sym live)
        (region_given r.input r.program x registers_alike cells r.regions (instr_in r.program x.moment) met.region)

    bounds_here : AreGiven (bounds_needs (reference_of r) x)
    bounds_here = both_given r.input (access_needs_in r.program x (instr_in r.program x.moment)) (if x.live then region_needs_in r.program x x.region else []) accesses_here regions_here

  -- ---- at a start

  module _ (b : Beginning r.program (thread_in x.moment) s s) where
    starts : next_of r.program s (thread_in x.moment) ≡ actions.Event requests.Start
    starts = next_is r.program s (thread_in x.moment) (fresh r.program (thread_in x.moment) b.function) b.first ∙ next_fresh r.program (thread_in x.moment) b.function

    abbrev start : StepKind
    start = event_told s (thread_in x.moment) (operands_in r.program (slice_get s.locals (thread_in x.moment))) (number_in r.program (slice_get s.locals (thread_in x.moment)) answer) requests.Start

    kind_starts : kind_in x ≡ start
    kind_starts =
        ap (λ (z : Step). z.kind) (told_met r every x s met)
        ∙ ap (kind_told r.gated r.program s (thread_in x.moment) (operands_in r.program (slice_get s.locals (thread_in x.moment))) answer
        (number_in r.program (slice_get s.locals (thread_in x.moment)) answer)) starts

    no_values : (o : Option Instr) → AreGiven (value_needs_in r.program every x o)
    no_values None = tt
    no_values (Some i) =
        subst (λ (c : Bool). AllOf (IsGiven r.input) (if c then value_needs_by r.program every x i (kind_in x) else [])) (sym live)
        (subst (λ (k : StepKind). AllOf (IsGiven r.input) (value_needs_by r.program every x i k)) (sym kind_starts) tt)

    no_accesses : (o : Option Instr) → AreGiven (access_needs_in r.program x o)
    no_accesses None = tt
    no_accesses (Some i) =
        subst (λ (c : Bool). AllOf (IsGiven r.input) (if c then access_needs_by r.program x i (kind_in x) else [])) (sym live)
        (subst (λ (k : StepKind). AllOf (IsGiven r.input) (access_needs_by r.program x i k)) (sym kind_starts) tt)

    no_region : (o : Option Instr) → region_of r.program r.regions x.moment o ≡ None
    no_region None = refl
    no_region (Some i) = ap (λ (k : StepKind). if is_branch k then Rattle.pg_slice_rules.specs.Freeable.region_at r.program x.moment (r.regions i.block.0) else None) kind_starts

    no_regions : AreGiven (if x.live then region_needs_in r.program x x.region else [])
    no_regions = subst (λ (c : Bool). AllOf (IsGiven r.input) (if c then region_needs_in r.program x x.region else [])) (sym live)
        (subst (λ (o : Option FreeRegion). AllOf (IsGiven r.input) (region_needs_in r.program x o)) (sym (met.region ∙ no_region (instr_in r.program x.moment))) tt)

    no_bounds : AreGiven (bounds_needs (reference_of r) x)
    no_bounds = both_given r.input (access_needs_in r.program x (instr_in r.program x.moment)) (if x.live then region_needs_in r.program x x.region else [])
        (no_accesses (instr_in r.program x.moment)) no_regions

  -- ---- either

  module _ (values : asks_values (reference_of r) every x ≡ []) (bounds : asks_bounds (reference_of r) x ≡ []) where
    good : AreGiven (value_needs (reference_of r) every x) → AreGiven (bounds_needs (reference_of r) x) → IsGood (reference_of r) every r.input x
    good h k = record {
      values = hold_all r.input (value_needs (reference_of r) every x) values h;
      bounds = hold_all r.input (bounds_needs (reference_of r) x) bounds k;
      pins = none_bound (is_bound x);
    }

    pub good_both : Both r.program r.input (thread_in x.moment) s s (thread_of x.before (thread_in x.moment)).calls → IsGood (reference_of r) every r.input x
    good_both b = good (values_here b) (bounds_here b)

    pub good_start : Beginning r.program (thread_in x.moment) s s → IsGood (reference_of r) every r.input x
    good_start b = good (no_values b (instr_in r.program x.moment)) (no_bounds b)
