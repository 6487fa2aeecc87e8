-- A thread inside that does an event comes from the join to a block that isn't quiet.
use Rattle.std.proofs.Common.{◌≡◌, ℕ, ℤ, ◌<◌, ◌^◌, Bool, true, false, List, [], ◌∷◌, length, Option, Some, None, refl, sym, ap, ◌∙◌, subst, inl, inr, ◌⊎◌}
use Rattle.std.specs.Prelude.{slice_get, if◌then◌else◌}
use Rattle.std.proofs.lemmas.Bool.{true≢false}
use Rattle.pg_ir.specs.declared.ids.InstrId.{InstrId}
use Rattle.pg_ir.specs.declared.instr.Instr.{Instr}
use Rattle.pg_ir.specs.declared.instr.Op.{Op}
use Rattle.pg_ir.specs.declared.instr.Op.TheVariants as op
use Rattle.pg_ir.specs.declared.request.Request.{Request}
use Rattle.pg_ir.specs.Program.{NumberedProgram}
use Rattle.pg_ir.specs.WellFormed.{IsProgram}
use Rattle.pg_cfg.specs.Graphs.Path.{here}
use Rattle.pg_region_accesses.specs.Accesses.{RootedList}
use Rattle.pg_region_accesses.specs.Laws.{IsQuiet}
use Rattle.pg_region_summaries.specs.Summaries.{AreSummaries}
use Rattle.pg_run_thread.specs.declared.action.Action.{Action}
use Rattle.pg_run_thread.specs.declared.action.Action.TheVariants as actions
use Rattle.pg_run_thread.specs.LocalState.{Frame, LocalState, own_memory}
use Rattle.pg_run_thread.specs.Step.{next, op_action, frames_action, instr_action, total}
use Rattle.pg_run_thread.specs.States.{AreFramesOf, IsOf}
use Rattle.pg_run_trace.specs.declared.step.Step.{Step}
use Rattle.pg_run_trace.specs.declared.step.StepKind.{StepKind}
use Rattle.pg_run_trace.specs.declared.step.StepKind.TheVariants as told
use Rattle.pg_run_trace.specs.Steps.{event_of, happening_in, access_happening, turn_at, access_kind, range_of}
use Rattle.pg_run.specs.State.{State}
use Rattle.pg_run.specs.MachineStep.{Did, is_gated, ready, step}
use Rattle.pg_run.specs.Runs.{IsRun}
use Rattle.pg_run.proofs.StepsKeepStates.{all_at}
use Rattle.pg_slice_replay.specs.pg_law_effects.Reached.{IsReached}
use Rattle.pg_slice_replay.proofs.of_pg_law_effects.ReachedStates.{reached_step}
use Rattle.pg_law_instances.specs.Inside.{Instance, IsInside, Joins}
use Rattle.pg_law_instances.specs.Moves.{IsLoad, IsStore, IsPlacedAt}
use Rattle.pg_law_instances.specs.Stays.{CanStepInside, StaysInside, TellsWithin}
use Rattle.pg_law_instances.specs.Together.{AreTogether, IsNext}
use Rattle.pg_law_instances.proofs.RunsOfOneThread.{inside_again}
use Rattle.pg_law_instances.proofs.PathsBeyondJoin.{Beyond, Loud, at_body, moves_on, not_quiet}
use Rattle.pg_law_instances.proofs.MachineSteps.{step_stays}
use Rattle.pg_law_instances.proofs.QuietInstructions.{AsksNothing, quiet_asks_nothing}
use Rattle.pg_law_instances.proofs.DoneSteps.{Plain, Requests, TellsAccess, TellsPlain, Took, took}
use Rattle.pg_num.specs.Pointers.{byte_place}
use Rattle.pg_run_trace.specs.declared.step.Access.{Access}

pub frames_of : (p : NumberedProgram) (s : State) (t : ℕ) (l : LocalState) → IsReached p s → slice_get s.locals t ≡ Some l → AreFramesOf p l.frames
unfolding IsOf
frames_of p s t l r e = (all_at (IsOf p) s.locals t l e r.machine.of).frames

-- ---- what is no event

access_event : (e : Bool) (o : Op) (a : Access) → TellsAccess e o a → (b : Bool) → a.event ≡ b → (access_happening a ≡ None) ⊎ ((e ≡ true) × (IsLoad o ⊎ IsStore o))
access_event e o a h false q = inl (rw q refl)
access_event e o a h true q = inr (sym h.event_is ∙ q, go h.by)
  where
    go : (IsLoad o × (a.writes ≡ false)) ⊎ (IsStore o × (a.writes ≡ true) × IsPlacedAt a.pointer (range_of a)) → IsLoad o ⊎ IsStore o
    go (inl k) = inl k.0
    go (inr k) = inr k.0

pub plain_event : (e : Bool) (o : Op) (k : StepKind) → TellsPlain e o k → (happening_in k ≡ None) ⊎ ((e ≡ true) × (IsLoad o ⊎ IsStore o))
plain_event e o (told.Access a) h = access_event e o a h a.event refl
plain_event e o (told.Event v) h = absurd h
plain_event e o told.Other h = inl refl
plain_event e o (told.Branch c) h = inl refl
plain_event e o (told.Allocation a r) h = inl refl

gated_loud : (gated : ℕ → Bool) (sums : ℕ → Option RootedList) (i : ℕ) (o : Op) → gated i ≡ true → IsLoad o ⊎ IsStore o → IsQuiet true gated sums i o → ⊥
gated_loud gated sums i (op.Load w from) g k q = true≢false (sym g ∙ q)
gated_loud gated sums i (op.Store w v at) g k q = true≢false (sym g ∙ q)
gated_loud gated sums i o g (inl k) q = absurd k
gated_loud gated sums i o g (inr k) q = absurd k

pub within_none : (I : Instance) (x : Step) → TellsWithin I x.kind → event_of x ≡ None
within_none I x h = go x.kind refl h
  where
    go : (k : StepKind) → x.kind ≡ k → TellsWithin I k → event_of x ≡ None
    go told.Other e w = ap (λ (k : StepKind). turn_at x (happening_in k)) e
    go (told.Branch c) e w = ap (λ (k : StepKind). turn_at x (happening_in k)) e
    go (told.Allocation a r) e w = absurd w
    go (told.Event v) e w = absurd w
    go (told.Access a) e w = ap (λ (k : StepKind). turn_at x (happening_in k)) e
        ∙ ap (λ (b : Bool). turn_at x (if◌then◌else◌ b (Some (record { kind = access_kind a.writes; object = byte_place a.pointer })) None)) w.plain

-- ---- the frame that asks

-- the present instruction of a thread that has begun and does something
pub record Present (p : NumberedProgram) (l : LocalState) (a : Action) : Type 0 where
  pub frame : Frame
  pub below : List Frame
  pub instr : Instr
  pub frames : l.frames ≡ frame ∷ below
  pub is : slice_get p.instrs frame.place ≡ Some instr
  pub action : op_action p (own_memory l) l.halfway frame.registers (length (frame ∷ below)) (total (frame ∷ below)) instr.block.0 instr.op ≡ a

pub present : (p : NumberedProgram) (l : LocalState) (a : Action) → l.begun ≡ true → next p l ≡ a → (a ≡ actions.Ended → ⊥) → Present p l a
unfolding next
present p l a b e n = by_frames l.frames refl
  where
    by_instr : (f : Frame) (fs : List Frame) (o : Option Instr) → l.frames ≡ f ∷ fs → slice_get p.instrs f.place ≡ o → Present p l a
    by_instr f fs None q i = absurd (n (sym e ∙ ap (λ (c : Bool). frames_action p l c l.frames) b ∙ ap (frames_action p l true) q ∙ ap (instr_action p l f fs) i))
    by_instr f fs (Some x) q i = record {
      frame = f;
      below = fs;
      instr = x;
      frames = q;
      is = i;
      action = sym (ap (λ (c : Bool). frames_action p l c l.frames) b ∙ ap (frames_action p l true) q ∙ ap (instr_action p l f fs) i) ∙ e;
    }

    by_frames : (gs : List Frame) → l.frames ≡ gs → Present p l a
    by_frames [] q = absurd (n (sym e ∙ ap (frames_action p l l.begun) q))
    by_frames (f ∷ fs) q = by_instr f fs (slice_get p.instrs f.place) q refl

not_event_ended : (r : Request) → actions.Event r ≡ actions.Ended → ⊥
not_event_ended r e = cc

module _ (p : NumberedProgram) (gates : List InstrId) (gated : ℕ → Bool) (same : (i : ℕ) → is_gated gates i ≡ gated i) (sums : ℕ → Option RootedList) (input : List ℤ)
    (program : IsProgram p) (summaries : AreSummaries p gated sums) (small : length input < 2 ^ 64) (j : ℕ) where
  abbrev IsLoud : Type 0
  IsLoud = Loud p gated sums program summaries j

  abbrev IsBeyond : List Frame → Type 0
  IsBeyond fs = Beyond p gated sums program summaries j fs

  asked_loud : (s : State) (t : ℕ) (l : LocalState) (x : Step) (z : State) (m : LocalState) → IsReached p s → slice_get s.locals t ≡ Some l → l.begun ≡ true → IsBeyond l.frames
      → Requests p s t l x z m → IsLoud
  asked_loud s t l x z m r e b y q =
      let h = present p l (actions.Event q.request) b q.asks (not_event_ended q.request) in
      not_quiet p gated sums program summaries j l.frames h.frame h.below h.instr h.frames (frames_of p s t l r e) y h.is (λ k.
      subst (AsksNothing h.below h.instr.op) h.action (quiet_asks_nothing p (own_memory l) l.halfway h.frame h.below h.instr.block.0 gated sums h.frame.place h.instr.op k))

  -- a step of a thread beyond the join, where more is known of what follows it
  beyond_step : (x : Step) (xs : List Step) (s z : State) (t : ℕ) (l : LocalState) → IsReached p s → slice_get s.locals t ≡ Some l → l.begun ≡ true → IsBeyond l.frames
      → (run : IsRun gates p input s (x ∷ xs) z) → AreTogether (x ∷ xs) → IsNext t (x ∷ xs) →
      ((m : LocalState) → IsReached p run.0.after → slice_get run.0.after.locals t ≡ Some m → m.begun ≡ true → IsBeyond m.frames → IsNext t xs → IsLoud) → IsLoud
  beyond_step x xs s z t l r e b y run to n more = go k.did
    where
      w : State
      w = run.0.after

      is_ready : ready p s t ≡ true
      is_ready = subst (λ (u : ℕ). ready p s u ≡ true) n run.0.is_ready

      is_step : step gates p input s t ≡ Did x w
      is_step = subst (λ (u : ℕ). step gates p input s u ≡ Did x w) n run.0.is_step

      k : Took gates p s t l x w
      k = took gates p input s w t l x e is_ready is_step

      goes_on : event_of x ≡ None → IsLoud ⊎ IsBeyond k.local.frames → IsLoud
      goes_on q (inl h) = h
      goes_on q (inr h) = more k.local (reached_step gates p input s w t x program small r is_ready is_step) k.is_local k.began h (subst (λ (u : ℕ). IsNext u xs) n (to.0 q))

      plain : Plain gates p s t l x w k.local → IsLoud
      plain h = by_event (plain_event (is_gated gates h.frame.place) h.instr.op x.kind h.tells)
        where
          by_event : (happening_in x.kind ≡ None) ⊎ ((is_gated gates h.frame.place ≡ true) × (IsLoad h.instr.op ⊎ IsStore h.instr.op)) → IsLoud
          by_event (inl q) = goes_on (ap (turn_at x) q) (moves_on p gated sums program summaries j l.frames h.frame h.below h.instr k.local.frames h.frames (frames_of p s t l r e) y h.is h.moves)
          by_event (inr q) = not_quiet p gated sums program summaries j l.frames h.frame h.below h.instr h.frames (frames_of p s t l r e) y h.is
              (λ v. absurd (gated_loud gated sums h.frame.place h.instr.op (sym (same h.frame.place) ∙ q.0) q.1 v))

      go : Plain gates p s t l x w k.local ⊎ Requests p s t l x w k.local → IsLoud
      go (inl h) = plain h
      go (inr h) = asked_loud s t l x w k.local r e b y h

  -- a thread beyond the join does an event
  pub beyond_run : (xs : List Step) (s z : State) (t : ℕ) (l : LocalState) → IsReached p s → slice_get s.locals t ≡ Some l → l.begun ≡ true → IsBeyond l.frames
      → IsRun gates p input s xs z → AreTogether xs → IsNext t xs → IsLoud
  beyond_run [] s z t l r e b y run to n = absurd n
  beyond_run (x ∷ xs) s z t l r e b y run to n = beyond_step x xs s z t l r e b y run to n (λ m r' e' b' y' n'. beyond_run xs run.0.after z t m r' e' b' y' run.1 to.1 n')

-- a thread inside, which does an event later, comes from the join to a block that isn't quiet
pub leads_out : (I : Instance) (gates : List InstrId) (input : List ℤ) (xs : List Step) (s z : State) (t : ℕ) (l : LocalState) → (program : IsProgram I.program)
    → (summaries : AreSummaries I.program I.gated I.sums) → length input < 2 ^ 64 → I.join < length I.program.blocks →
    CanStepInside I gates s t l → IsReached I.program s → IsRun gates I.program input s xs z → AreTogether xs → IsNext t xs → Loud I.program I.gated I.sums program summaries I.join
leads_out I gates input [] s z t l program summaries small lt c r run to n = absurd n
leads_out I gates input (x ∷ xs) s z t l program summaries small lt c r run to n =
    go k.goes_on (λ i. leads_out I gates input xs w z t k.local program summaries small lt (inside_again I gates s w t l x c k i) next_reached run.1 to.1 next_is)
  where
    w : State
    w = run.0.after

    is_ready : ready I.program s t ≡ true
    is_ready = subst (λ (u : ℕ). ready I.program s u ≡ true) n run.0.is_ready

    is_step : step gates I.program input s t ≡ Did x w
    is_step = subst (λ (u : ℕ). step gates I.program input s u ≡ Did x w) n run.0.is_step

    k : StaysInside I t l x s w
    k = step_stays I gates input s w t l x c is_ready is_step

    next_reached : IsReached I.program w
    next_reached = reached_step gates I.program input s w t x program small r is_ready is_step

    next_is : IsNext t xs
    next_is = subst (λ (u : ℕ). IsNext u xs) n (to.0 (within_none I x k.tells))

    joined : Joins I l k.local → Beyond I.program I.gated I.sums program summaries I.join k.local.frames
    joined h = record {
      above = [];
      base = h.there.frame;
      below = I.lower;
      frames = h.there.frames;
      reached = at_body I.program I.gated I.sums program summaries I.join h.there.frame I.join lt h.there.joined.place here;
    }

    go : IsInside I k.local ⊎ Joins I l k.local → (IsInside I k.local → Loud I.program I.gated I.sums program summaries I.join) → Loud I.program I.gated I.sums program summaries I.join
    go (inl i) more = more i
    go (inr h) more = beyond_run I.program gates I.gated c.gates I.sums input program summaries small I.join xs w z t k.local next_reached k.is_local h.there.begun (joined h) run.1 to.1 next_is
