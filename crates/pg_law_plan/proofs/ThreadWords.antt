-- There is a word for each thread that is made, in what is known as in the machine.
use Rattle.std.proofs.Common.{◌≡◌, ℕ, ℤ, ◌⊎◌, zero, suc, Bool, true, false, List, [], ◌∷◌, ◌++◌, length, Option, Some, None, refl, sym, ap, ◌∙◌, subst, inl, inr}
use Rattle.std.specs.Prelude.{slice_get, slice_set, is_some, if◌then◌else◌}
use Rattle.std.proofs.lemmas.Bool.{true≢false}
use Rattle.pg_ir.specs.declared.ids.InstrId.{InstrId}
use Rattle.pg_ir.specs.declared.instr.Instr.{Instr}
use Rattle.pg_ir.specs.declared.instr.Op.{Op}
use Rattle.pg_ir.specs.declared.request.Request.{Request}
use Rattle.pg_ir.specs.declared.request.Request.TheVariants as requests
use Rattle.pg_ir.specs.Program.{NumberedProgram}
use Rattle.pg_run_thread.specs.declared.action.Action.{Action}
use Rattle.pg_run_thread.specs.declared.action.Action.TheVariants as actions
use Rattle.pg_run_thread.specs.LocalState.{Frame, LocalState}
use Rattle.pg_run_thread.specs.Step.{frames_action, instr_action, next}
use Rattle.pg_run_thread.specs.Told.{id_of, place_in}
use Rattle.pg_run_trace.specs.declared.turn.TurnKind.{TurnKind}
use Rattle.pg_run_trace.specs.declared.turn.TurnKind.TheVariants as turns
use Rattle.pg_run_trace.specs.declared.step.Step.{Step}
use Rattle.pg_run_trace.specs.declared.step.StepKind.{StepKind}
use Rattle.pg_run_trace.specs.declared.step.StepKind.TheVariants as kinds
use Rattle.pg_run_trace.specs.Kinds.{kind_of}
use Rattle.pg_run_trace.specs.Steps.{happening_in}
use Rattle.pg_run.specs.Locality.{IfDid}
use Rattle.pg_run.specs.MachineStep.{Stepped, kind_told, number_in, operands_in}
use Rattle.pg_run.specs.Runs.{Takes}
use Rattle.pg_run.specs.State.{State, action_in, id_in, instr_of, next_of}
use Rattle.pg_law_effects.specs.Effect.{answer_to, effect, effect_of, local_set, locals_with, request_effect}
use Rattle.pg_law_effects.proofs.StepEffects.{has_effect}
use Rattle.pg_slice_rules.specs.Extents.{is_live}
use Rattle.pg_slice_rules.specs.Freeable.{FreeRegion}
use Rattle.pg_slice_rules.specs.Known.{Reference, SymbolicState, Taken, after_step, live_after, live_by, region_of, registers_of, thread_of, words_after}
use Rattle.pg_slice_rules.specs.Moments.{Moment, instr_in, thread_in}
use Rattle.pg_slice_rules.specs.SymbolicValues.{Symbolic}
use Rattle.pg_law_plan.proofs.ThreadAtInstruction.{told_is}
use Rattle.pg_law_plan.proofs.LocalStepFits.{kind_inner}
use Rattle.pg_law_plan.proofs.KnownCalls.{IsInnerKind}

pub length_set : {A : Type 0} (xs : List A) (i : ℕ) (x : A) → length (slice_set xs i x) ≡ length xs
length_set [] i x = refl
length_set (y ∷ xs) zero x = refl
length_set (y ∷ xs) (suc i) x = ap suc (length_set xs i x)

pub length_push : {A : Type 0} (xs : List A) (x : A) → length (xs ++ x ∷ []) ≡ suc (length xs)
length_push [] x = refl
length_push (y ∷ xs) x = ap suc (length_push xs x)

-- how many threads are more after a step of this kind
abbrev pub more_by : TurnKind → ℕ → ℕ
more_by turns.Create n = suc n
more_by k n = n

abbrev pub more_of : StepKind → ℕ → ℕ
more_of (kinds.Event e) n = more_by e.kind n
more_of k n = n

pub plain_more : (k : StepKind) (n : ℕ) → is_some (happening_in k) ≡ false → more_of k n ≡ n
plain_more kinds.Other n h = refl
plain_more (kinds.Branch c) n h = refl
plain_more (kinds.Allocation a b) n h = refl
plain_more (kinds.Access a) n h = refl
plain_more (kinds.Event e) n h = absurd (true≢false h)

-- ---- in what is known

words_by : (p : NumberedProgram) (t : ℕ) (k : TurnKind) (rs : List Symbolic) (o : Op) (words : List Symbolic) → length (words_after p t k rs o words) ≡ more_by k (length words)
words_by p t turns.Exit rs o words = length_set words t _
words_by p t turns.Create rs o words = length_push words _
words_by p t k rs o words = refl

live_words : (p : NumberedProgram) (d : Taken) (n : ℕ) (m : Moment) (region : Option FreeRegion) (x : Instr) (k : StepKind) (s : SymbolicState)
    → length (live_by p d n m region x k s).words ≡ more_of k (length s.words)
live_words p d n m region x (kinds.Event e) s = words_by p (thread_in m) e.kind (registers_of s (thread_in m)) x.op s.words
live_words p d n m region x (kinds.Access a) s = refl
live_words p d n m region x k s = refl

-- ---- in the machine

inner_more : (k : StepKind) (n : ℕ) → IsInnerKind k → more_of k n ≡ n
inner_more kinds.Other n h = refl
inner_more (kinds.Branch c) n h = refl
inner_more (kinds.Allocation a b) n h = refl
inner_more (kinds.Access a) n h = absurd h
inner_more (kinds.Event e) n h = absurd h

set_length : (t : ℕ) (o : Option LocalState) (ls : List LocalState) → length (local_set t o ls) ≡ length ls
set_length t None ls = refl
set_length t (Some l) ls = length_set ls t l

module _ (gated : List InstrId) (p : NumberedProgram) (s : State) (t : ℕ) (ns : List ℕ) (a n : ℕ) where
  locals_by : (action : Action) → length (locals_with (request_effect p s t action) s.locals) ≡ more_of (kind_told gated p s t ns a n action) (length s.locals)
  locals_by actions.Local = sym (inner_more (kind_told gated p s t ns a n actions.Local) (length s.locals) (kind_inner gated p s t ns a n actions.Local tt))
  locals_by (actions.In i) = refl
  locals_by actions.InLen = refl
  locals_by (actions.Load r) = refl
  locals_by (actions.Store r m) = refl
  locals_by (actions.Event (requests.Create r f m)) = length_push s.locals _
  locals_by (actions.Event r) = refl
  locals_by (actions.Trap name) = refl
  locals_by actions.Ended = refl

effect_locals : (p : NumberedProgram) (input : List ℤ) (s : State) (t : ℕ)
    → length (effect s (effect_of p input s t)).locals ≡ length (locals_with (request_effect p s t (next_of p s t)) s.locals)
unfolding effect effect_of
effect_locals p input s t = set_length t _ (locals_with (request_effect p s t (next_of p s t)) s.locals)

pub step_locals : (gated : List InstrId) (p : NumberedProgram) (input : List ℤ) (s : State) (x : Step) (h : Takes gated p input s x) → length h.after.locals ≡ more_of x.kind (length s.locals)
step_locals gated p input s x h =
    let t = x.thread.0 in
    let o = slice_get s.locals t in
    let a = answer_to input s t (next_of p s t) in
    ap (λ (z : State). length z.locals) (subst (λ (k : Stepped). IfDid k (λ y z. z ≡ effect s (effect_of p input s t))) h.is_step (has_effect gated p input s t))
    ∙ effect_locals p input s t ∙ locals_by gated p s t (operands_in p o) a (number_in p o a) (next_of p s t)
    ∙ sym (ap (λ (z : Step). more_of z.kind (length s.locals)) (told_is gated p input s h.after t x h.is_step))

-- ---- a step that makes a thread stands at an instruction

is_more : TurnKind → Bool
is_more turns.Create = true
is_more k = false

local_instr : (p : NumberedProgram) (l : LocalState) (b : Bool) (fs : List Frame) (r : Request) → frames_action p l b fs ≡ actions.Event r
    → (r ≡ requests.Start) ⊎ ((x : Instr) × (slice_get p.instrs (place_in fs) ≡ Some x))
local_instr p l b [] r e = absurd cc
local_instr p l false (f ∷ fs) r e = let q : requests.Start ≡ r = cc in inl (sym q)
local_instr p l true (f ∷ fs) r e = go (slice_get p.instrs f.place) refl
  where
    go : (o : Option Instr) → slice_get p.instrs f.place ≡ o → (r ≡ requests.Start) ⊎ ((x : Instr) × (slice_get p.instrs f.place ≡ Some x))
    go (Some x) q = inr (x, q)
    go None q = let k : actions.Ended ≡ actions.Event r = sym (ap (instr_action p l f fs) q) ∙ e in absurd cc

pub request_at : (p : NumberedProgram) (s : State) (t : ℕ) (r : Request) → next_of p s t ≡ actions.Event r
    → (r ≡ requests.Start) ⊎ ((x : Instr) × (slice_get p.instrs (instr_of s t) ≡ Some x))
unfolding next_of next instr_of id_of
request_at p s t r e = go (slice_get s.locals t) e
  where
    go : (o : Option LocalState) → action_in p o ≡ actions.Event r → (r ≡ requests.Start) ⊎ ((x : Instr) × (slice_get p.instrs (id_in o) ≡ Some x))
    go None e = absurd cc
    go (Some l) e = local_instr p l l.begun l.frames r e

-- where no instruction stands none is made
pub nowhere : (gated : List InstrId) (p : NumberedProgram) (s : State) (t : ℕ) (ns : List ℕ) (a n m : ℕ) (action : Action) → next_of p s t ≡ action
    → slice_get p.instrs (instr_of s t) ≡ None → more_of (kind_told gated p s t ns a n action) m ≡ m
nowhere gated p s t ns a n m actions.Local e h = inner_more (kind_told gated p s t ns a n actions.Local) m (kind_inner gated p s t ns a n actions.Local tt)
nowhere gated p s t ns a n m (actions.Event r) e h = go (request_at p s t r e)
  where
    go : (r ≡ requests.Start) ⊎ ((x : Instr) × (slice_get p.instrs (instr_of s t) ≡ Some x)) → more_by (kind_of r) m ≡ m
    go (inl q) = ap (λ (z : Request). more_by (kind_of z) m) q
    go (inr q) = let k : Path (Option Instr) (Some q.0) None = sym q.1 ∙ h in absurd cc
nowhere gated p s t ns a n m (actions.Load r) e h = refl
nowhere gated p s t ns a n m (actions.Store r v) e h = refl
nowhere gated p s t ns a n m action e h = refl

-- ---- a step keeps them

module _ (R : Reference) (d : Taken) (n : ℕ) (m : Moment) (known : SymbolicState) (gated : List InstrId) (input : List ℤ) (s : State) (h : Takes gated R.program input s m.did.did) where
  is_instr : instr_in R.program m ≡ slice_get R.program.instrs (instr_of s (thread_in m))
  is_instr = ap (λ (z : Step). slice_get R.program.instrs z.instr.0) (told_is gated R.program input s h.after (thread_in m) m.did.did h.is_step)

  live_keeps : length (live_after R.program d n m (region_of R.program R.regions m (instr_in R.program m)) (instr_in R.program m) known).words ≡ more_of m.did.did.kind (length known.words)
  live_keeps = go (instr_in R.program m) refl
    where
      go : (o : Option Instr) → instr_in R.program m ≡ o → length (live_after R.program d n m (region_of R.program R.regions m (instr_in R.program m)) o known).words
          ≡ more_of m.did.did.kind (length known.words)
      go (Some x) e = live_words R.program d n m (region_of R.program R.regions m (instr_in R.program m)) x m.did.did.kind known
      go None e =
          let p = R.program in
          let t = thread_in m in
          let a = answer_to input s t (next_of p s t) in
          sym (ap (λ (z : Step). more_of z.kind (length known.words)) (told_is gated p input s h.after t m.did.did h.is_step)
          ∙ nowhere gated p s t (operands_in p (slice_get s.locals t)) a (number_in p (slice_get s.locals t) a) (length known.words) (next_of p s t) refl (sym is_instr ∙ e))

  pub words_kept : (is_live d.pinned (thread_of known (thread_in m)).extents ≡ false → is_some (happening_in m.did.did.kind) ≡ false) → length known.words ≡ length s.locals
      → length (after_step R d n m known).words ≡ length h.after.locals
  words_kept plain e = go (is_live d.pinned (thread_of known (thread_in m)).extents) refl
    where
      go : (b : Bool) → is_live d.pinned (thread_of known (thread_in m)).extents ≡ b → length (after_step R d n m known).words ≡ length h.after.locals
      go true l = ap (λ (b : Bool). length (if b then live_after R.program d n m (region_of R.program R.regions m (instr_in R.program m)) (instr_in R.program m) known else known).words) l
          ∙ live_keeps ∙ ap (more_of m.did.did.kind) e ∙ sym (step_locals gated R.program input s m.did.did h)
      go false l = ap (λ (b : Bool). length (if b then live_after R.program d n m (region_of R.program R.regions m (instr_in R.program m)) (instr_in R.program m) known else known).words) l
          ∙ e ∙ sym (plain_more m.did.did.kind (length s.locals) (plain l)) ∙ sym (step_locals gated R.program input s m.did.did h)
