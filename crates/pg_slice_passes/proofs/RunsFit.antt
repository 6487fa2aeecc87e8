-- Each step of a run is one of its instruction, and each edge of a replay leads to a block.
use Rattle.std.proofs.Common.{◌≡◌, ℕ, ℤ, zero, suc, ◌<◌, ◌^◌, List, [], ◌∷◌, length, Bool, true, false, Option, Some, None, Ok, Err, refl, sym, ap, ◌∙◌, subst, inl}
use Rattle.std.specs.Prelude.{IfSome, slice_get, map, option_map, if◌then◌else◌, ◌==◌}
use Rattle.std.specs.List.{AllByRecursion}
use Rattle.std.proofs.lemmas.Option.{slice_get_within}
use Rattle.pg_ir.specs.declared.edge.Case.{Case}
use Rattle.pg_ir.specs.declared.function.Block.{Block}
use Rattle.pg_ir.specs.declared.ids.InstrId.{InstrId}
use Rattle.pg_ir.specs.declared.instr.Instr.{Instr}
use Rattle.pg_ir.specs.declared.instr.Op.{Op}
use Rattle.pg_ir.specs.declared.instr.Op.TheVariants as op
use Rattle.pg_ir.specs.Edges.{case_of, targets_of}
use Rattle.pg_ir.specs.Program.{NumberedProgram, function_of}
use Rattle.pg_ir.specs.WellFormed.{IsInFunction, IsProgram}
use Rattle.pg_run_thread.specs.declared.action.Action.{Action}
use Rattle.pg_run_thread.specs.LocalState.{Frame, LocalState, own_memory}
use Rattle.pg_run_thread.specs.Compute.{chosen}
use Rattle.pg_run_thread.specs.Operands.{first_four, operands_of}
use Rattle.pg_run_thread.specs.Step.{frames_action, instr_action, next, total}
use Rattle.pg_run_thread.specs.States.{AreFramesOf, CanStep, IsOf, StandsAt}
use Rattle.pg_run_thread.specs.Told.{frames_operands, id_of, instr_operands, no_operands, operand_values, place_in}
use Rattle.pg_run_trace.specs.declared.step.Step.{Step}
use Rattle.pg_run_trace.specs.declared.step.StepKind.{StepKind}
use Rattle.pg_run_trace.specs.declared.step.StepKind.TheVariants as kinds
use Rattle.pg_run_trace.specs.declared.turn.TurnKind.TheVariants as turns
use Rattle.pg_run.specs.Fits.{ActionFits}
use Rattle.pg_run.specs.MachineStep.{Answered, Did, Stepped, Trapped, answered, instr_told, kind_told, number_in, operands_in, ready, settled, step, step_told, taken}
use Rattle.pg_run.specs.Runs.{IsRun}
use Rattle.pg_run.specs.State.{State, id_in, initial, instr_of, next_of}
use Rattle.pg_run.proofs.StepsBegin.{next_is, ready_acts, ready_made}
use Rattle.pg_run.proofs.FitActions.{action_fits}
use Rattle.pg_run.proofs.StepsKeepStates.{all_at}
use Rattle.pg_slice_replay.specs.pg_law_effects.Reached.{HoldBytes, IsReached}
use Rattle.pg_slice_replay.proofs.of_pg_law_effects.ThreadLimits.{did_allowed}
use Rattle.pg_slice_replay.proofs.of_pg_law_effects.ReachedStates.{can_by, present, reached_first, reached_step}
use Rattle.pg_slice_rules.specs.Extents.{condition_in, edge_by, edge_in}
use Rattle.pg_slice_rules.specs.Known.{Reference, edge_of}
use Rattle.pg_slice_rules.specs.Moments.{Moment, instr_in}
use Rattle.pg_slice_replay.specs.declared.run.ReferenceRun.{ReferenceRun}
use Rattle.pg_slice_replay.specs.Landmarks.{Landmark, landmark_of}
use Rattle.pg_slice_passes.specs.Given.{AreSteps, EdgesStand, FitsCreate, FitsEvent, FitsKind, FitsStep, HasLandmarks}
use Rattle.pg_slice_passes.proofs.KindsFit.{present_told}

-- ---- one step

-- what is told at this instruction fits it
abbrev IsFit : NumberedProgram → ℕ → Option Instr → StepKind → Type 0
IsFit p place o k = (place < length p.instrs) × IfSome o (λ (i : Instr). FitsKind i.op k) × FitsCreate p k

module _ (gated : List InstrId) (p : NumberedProgram) (s : State) (t answer number : ℕ) where
  start_fits : (o : Op) → FitsEvent (record { kind = turns.Start; object = t; operands = no_operands; reply = number; write = None }) o
  start_fits (op.CallLibrary k args) = tt
  start_fits (op.Ret v) = (inl refl, refl)
  start_fits o = (refl, refl)

  instr_fits : (l : LocalState) (f : Frame) (fs : List Frame) (o : Option Instr) → slice_get p.instrs f.place ≡ o → StandsAt p f.function o → ActionFits p (instr_action p l f fs o)
      → CanStep (instr_action p l f fs o) → instr_of s t ≡ f.place →
      IsFit p f.place o (kind_told gated p s t (instr_operands p f.registers o) answer number (instr_action p l f fs o))
  instr_fits l f fs None e h a c i = absurd h
  instr_fits l f fs (Some x) e h a c i =
      let at : slice_get p.instrs (instr_of s t) ≡ Some x = ap (λ (k : ℕ). slice_get p.instrs k) i ∙ e in
      let fit = present_told gated p s t answer number f.registers (own_memory l) l.halfway (length (f ∷ fs)) (total (f ∷ fs)) x.block.0 x.op
      (ap (instr_told (first_four p f.registers (operands_of x.op)) number) at) a c in
      (slice_get_within p.instrs f.place x e, fit.0, fit.1)

  first_fits : (l : LocalState) (f : Frame) (fs : List Frame) (o : Option Instr) → slice_get p.instrs f.place ≡ o → StandsAt p f.function o
      → IsFit p f.place o (kind_told gated p s t (frames_operands p false (f ∷ fs)) answer number (frames_action p l false (f ∷ fs)))
  first_fits l f fs None e h = absurd h
  first_fits l f fs (Some x) e h = (slice_get_within p.instrs f.place x e, start_fits x.op, λ q. absurd cc)

  frames_fit : (l : LocalState) (begun : Bool) (fs : List Frame) → AreFramesOf p fs → ActionFits p (frames_action p l begun fs) → CanStep (frames_action p l begun fs)
      → instr_of s t ≡ place_in fs →
      IsFit p (place_in fs) (slice_get p.instrs (place_in fs)) (kind_told gated p s t (frames_operands p begun fs) answer number (frames_action p l begun fs))
  frames_fit l begun [] h a c i = absurd c
  frames_fit l false (f ∷ fs) h a c i = first_fits l f fs (slice_get p.instrs f.place) refl h.0.place
  frames_fit l true (f ∷ fs) h a c i = instr_fits l f fs (slice_get p.instrs f.place) refl h.0.place a c i

  local_fits : (l : LocalState) → IsProgram p → IsOf p l → CanStep (next p l) → instr_of s t ≡ id_of l
      → IsFit p (id_of l) (slice_get p.instrs (id_of l)) (kind_told gated p s t (operand_values p l) answer number (next p l))
  unfolding IsOf next operand_values id_of
  local_fits l program h c i = frames_fit l l.begun l.frames h.frames (action_fits p l program h) c i

  instr_is : (l : LocalState) → slice_get s.locals t ≡ Some l → instr_of s t ≡ id_of l
  unfolding instr_of
  instr_is l e = ap id_in e

  here_fits : (l : LocalState) → slice_get s.locals t ≡ Some l → IsProgram p → IsOf p l → CanStep (next_of p s t) →
      IsFit p (instr_of s t) (slice_get p.instrs (instr_of s t)) (kind_told gated p s t (operands_in p (slice_get s.locals t)) answer number (next_of p s t))
  here_fits l e program h c =
      let n : next_of p s t ≡ next p l = next_is p s t l e in
      let i : instr_of s t ≡ id_of l = instr_is l e in
      let fit = local_fits l program h (subst CanStep n c) i in
      subst (λ (k : ℕ). IsFit p k (slice_get p.instrs k) (kind_told gated p s t (operands_in p (slice_get s.locals t)) answer number (next_of p s t))) (sym i)
      (subst (λ (a : Action). IsFit p (id_of l) (slice_get p.instrs (id_of l)) (kind_told gated p s t (operands_in p (slice_get s.locals t)) answer number a)) (sym n)
      (subst (λ (ns : List ℕ). IsFit p (id_of l) (slice_get p.instrs (id_of l)) (kind_told gated p s t ns answer number (next p l))) (sym (ap (operands_in p) e)) fit))

told_is : (gated : List InstrId) (p : NumberedProgram) (input : List ℤ) (s z : State) (t : ℕ) (x : Step) → step gated p input s t ≡ Did x z → (a : ℕ) × (step_told gated p s t a ≡ x)
unfolding step
told_is gated p input s z t x e = go (answered p input s t (next_of p s t)) e
  where
    step_in : Step → Stepped → Step
    step_in d (Did y w) = y
    step_in d (Trapped name id) = d

    go : (o : Answered) → settled gated p s t (taken p s t o) ≡ Did x z → (a : ℕ) × (step_told gated p s t a ≡ x)
    go (w, Err name) q = absurd cc
    go (w, Ok a) q = (a, ap (step_in x) q)

pub step_fits : (gated : List InstrId) (p : NumberedProgram) (input : List ℤ) (s z : State) (t : ℕ) (x : Step) → IsProgram p → IsReached p s → ready p s t ≡ true
    → step gated p input s t ≡ Did x z → FitsStep p x
step_fits gated p input s z t x program h g e =
    let told = told_is gated p input s z t x e in
    let here = present s t (ready_made p s t g) in
    let fit = here_fits gated p s t told.0 (number_in p (slice_get s.locals t) told.0) here.0 here.1 program (all_at (IsOf p) s.locals t here.0 here.1 h.machine.of)
    (can_by s t (next_of p s t) (did_allowed gated p input s z t x e) (ready_acts p s t g)) in
    subst (FitsStep p) told.1 (record { instr = fit.0; kind = fit.1; create = fit.2 })

-- ---- a run

steps_fit : (gated : List InstrId) (p : NumberedProgram) (input : List ℤ) (s z : State) (xs : List Step) → IsProgram p → length input < 2 ^ 64 → IsReached p s
    → IsRun gated p input s xs z → (n : ℕ) → IfSome (slice_get xs n) (FitsStep p)
steps_fit gated p input s z [] program small h r n = tt
steps_fit gated p input s z (x ∷ xs) program small h r zero = step_fits gated p input s r.0.after x.thread.0 x program h r.0.is_ready r.0.is_step
steps_fit gated p input s z (x ∷ xs) program small h r (suc n) = steps_fit gated p input r.0.after z xs program small
    (reached_step gated p input s r.0.after x.thread.0 x program small h r.0.is_ready r.0.is_step) r.1 n

pub run_fits : (gated : List InstrId) (p : NumberedProgram) (input : List ℤ) (z : State) (xs : List Step) → IsProgram p → HoldBytes p.globals → length input < 2 ^ 64
    → IsRun gated p input (initial p) xs z → AreSteps p xs
run_fits gated p input z xs program bytes small r = steps_fit gated p input (initial p) z xs program small (reached_first p program bytes) r

-- ---- edges

block_below : (p : NumberedProgram) (f b : ℕ) (o : Option Block) → slice_get p.blocks b ≡ o → IsInFunction f o → b < length p.blocks
block_below p f b None e h = absurd h
block_below p f b (Some x) e h = slice_get_within p.blocks b x e

chosen_either : (P : ℕ → Type 0) (n a b : ℕ) → P a → P b → P (chosen n a b)
chosen_either P n a b h k = go (n == 0)
  where
    go : (c : Bool) → P (if c then b else a)
    go true = k
    go false = h

case_among : (P : ℕ → Type 0) (cases : List Case) (other n : ℕ) → P other → AllByRecursion P (map (λ (c : Case). c.to.0) cases) → P (case_of cases other n)
case_among P [] other n h a = h
case_among P (c ∷ cs) other n h a = go (c.value == n) (case_among P cs other n h a.1)
  where
    go : (b : Bool) → P (case_of cs other n) → P (if b then c.to.0 else case_of cs other n)
    go true k = a.0
    go false k = k

op_edge : (P : ℕ → Type 0) (p : NumberedProgram) (m : Moment) (o : Op) → AllByRecursion P (targets_of o) → IfSome (edge_by p m o) P
op_edge P p m (op.Br to) a = a.0
op_edge P p m (op.CondBr c y n) a = chosen_either P (condition_in p m (op.CondBr c y n)) y.0 n.0 a.0 a.1.0
op_edge P p m (op.Switch w on other cases) a = case_among P cases other.0 (condition_in p m (op.Switch w on other cases)) a.0 a.1
op_edge P p m o a = tt

all_weaker : (P Q : ℕ → Type 0) (xs : List ℕ) → ((x : ℕ) → P x → Q x) → AllByRecursion P xs → AllByRecursion Q xs
all_weaker P Q [] f a = a
all_weaker P Q (x ∷ xs) f a = (f x a.0, all_weaker P Q xs f a.1)

instr_edge : (p : NumberedProgram) (m : Moment) (i : ℕ) (o : Option Instr) → IsProgram p → slice_get p.instrs i ≡ o → IfSome (edge_in p m o) (λ b. b < length p.blocks)
instr_edge p m i None program e = tt
instr_edge p m i (Some x) program e =
    let f = function_of p x.block.0 in
    op_edge (λ b. b < length p.blocks) p m x.op (all_weaker (λ b. IsInFunction f (slice_get p.blocks b)) (λ b. b < length p.blocks) (targets_of x.op)
    (λ b h. block_below p f b (slice_get p.blocks b) refl h) (program.instrs i x e).targets)

edge_stands : (p : NumberedProgram) (m : Moment) (k : StepKind) → IsProgram p → IfSome (edge_of p m k) (λ b. b < length p.blocks)
edge_stands p m (kinds.Event e) program = tt
edge_stands p m k program = instr_edge p m m.did.did.instr.0 (instr_in p m) program refl

pub edges_are : (R : Reference) (r : ReferenceRun) → IsProgram R.program → HasLandmarks R r → EdgesStand R.program r
edges_are R r program h n = subst (λ (o : Option Landmark). IfSome o (λ (l : Landmark). IfSome l.edge (λ b. b < length R.program.blocks))) (sym (h n)) (go (slice_get R.moments n))
  where
    go : (o : Option Moment) → IfSome (option_map (landmark_of R.program R.regions) o) (λ (l : Landmark). IfSome l.edge (λ b. b < length R.program.blocks))
    go None = tt
    go (Some m) = edge_stands R.program m m.did.did.kind program
