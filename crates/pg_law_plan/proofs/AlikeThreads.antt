-- Two threads that stand alike stand at one instruction, or both are to begin.
use Rattle.std.proofs.Common.{◌≡◌, ℕ, ℤ, ◌⊎◌, Bool, true, false, List, [], ◌∷◌, Option, Some, None, refl, ap, ◌∙◌, subst, inl, inr, IfSome}
use Rattle.std.specs.Prelude.{slice_get, if◌then◌else◌}
use Rattle.pg_ir.specs.declared.ids.InstrId.{InstrId}
use Rattle.pg_ir.specs.declared.instr.Instr.{Instr}
use Rattle.pg_ir.specs.Program.{NumberedProgram}
use Rattle.pg_run_thread.specs.declared.action.Action.TheVariants as actions
use Rattle.pg_run_thread.specs.LocalState.{Frame, LocalState, fresh}
use Rattle.pg_run_thread.specs.States.{CanStep}
use Rattle.pg_run_thread.specs.Step.{next, instr_action}
use Rattle.pg_run_trace.specs.declared.step.Step.{Step}
use Rattle.pg_run.specs.Runs.{Takes}
use Rattle.pg_run.specs.State.{State, next_of}
use Rattle.pg_run.proofs.StepsBegin.{next_is, ready_made}
use Rattle.pg_law_effects.specs.Reached.{IsReached, IsThread}
use Rattle.pg_law_effects.specs.Views.{begun_in, local_at}
use Rattle.pg_law_effects.proofs.ReachedStates.{present}
use Rattle.pg_slice_rules.specs.SymbolicValues.{Symbolic}
use Rattle.pg_law_plan.specs.Likes.{AreCallsLike, IsCallLike, IsStandingLike, StandLike}
use Rattle.pg_law_plan.specs.Units.{standing_of}
use Rattle.pg_law_plan.proofs.ThreadAtInstruction.{Here, can_step, running}

running_is : (l : LocalState) (t : ℕ) (f : Frame) (fs : List Frame) → l.thread ≡ t → l.begun ≡ true → l.frames ≡ f ∷ fs → l ≡ running t l.halfway f fs l.heap
running_is l t f fs a b c =
    ap (λ (u : ℕ). record { thread = u; begun = l.begun; halfway = l.halfway; frames = l.frames; heap = l.heap }) a
    ∙ ap (λ (u : Bool). record { thread = t; begun = u; halfway = l.halfway; frames = l.frames; heap = l.heap }) b
    ∙ ap (λ (u : List Frame). record { thread = t; begun = true; halfway = l.halfway; frames = u; heap = l.heap }) c

same_running : (t : ℕ) (h h' : Bool) (f : Frame) (fs : List Frame) (n n' : ℕ) → h ≡ h' → n ≡ n' → running t h f fs n ≡ running t h' f fs n'
same_running t h h' f fs n n' a b = ap (λ (u : Bool). running t u f fs n) a ∙ ap (λ (u : ℕ). running t h' f fs u) b

-- both at an instruction
pub record Both (p : NumberedProgram) (input : List ℤ) (t : ℕ) (s0 s : State) (known : List (List Symbolic)) : Type 0 where
  pub h : Bool
  pub f0 : Frame
  pub fs0 : List Frame
  pub n : ℕ
  pub x : Instr
  pub f : Frame
  pub fs : List Frame
  pub ks : List Symbolic
  pub more : List (List Symbolic)
  pub here0 : Here p s0 t h f0 fs0 n x
  pub here : Here p s t h f fs n x
  pub calls : known ≡ ks ∷ more
  pub top : IsCallLike input f0 ks f
  pub rest : AreCallsLike input fs0 more fs

-- both to begin
pub record Beginning (p : NumberedProgram) (t : ℕ) (s0 s : State) : Type 0 where
  pub function : ℕ
  pub first : slice_get s0.locals t ≡ Some (fresh p t function)
  pub none : local_at s t ≡ None

pub record Parts (input : List ℤ) (fs0 : List Frame) (known : List (List Symbolic)) (gs : List Frame) : Type 0 where
  pub f0 : Frame
  pub more0 : List Frame
  pub ks : List Symbolic
  pub more : List (List Symbolic)
  pub f : Frame
  pub fs : List Frame
  pub is0 : fs0 ≡ f0 ∷ more0
  pub is_known : known ≡ ks ∷ more
  pub is : gs ≡ f ∷ fs
  pub top : IsCallLike input f0 ks f
  pub rest : AreCallsLike input more0 more fs

pub parts : (input : List ℤ) (fs0 : List Frame) (known : List (List Symbolic)) (gs : List Frame) → AreCallsLike input fs0 known gs → (fs0 ≡ []) ⊎ Parts input fs0 known gs
parts input [] known gs h = inl refl
parts input (f ∷ fs0) [] gs h = absurd h
parts input (f ∷ fs0) (k ∷ known) [] h = absurd h
parts input (f ∷ fs0) (k ∷ known) (g ∷ gs) h = inr (record { f0 = f; more0 = fs0; ks = k; more = known; f = g; fs = gs; is0 = refl; is_known = refl; is = refl; top = h.0; rest = h.1 })

module _ (gated : List InstrId) (p : NumberedProgram) (input0 input : List ℤ) (s0 s : State) (x0 : Step) (known : List (List Symbolic)) (reached0 : IsReached p s0)
    (takes0 : Takes gated p input0 s0 x0) (reached : IsReached p s) where
  abbrev t : ℕ
  t = x0.thread.0

  can : CanStep (next_of p s0 x0.thread.0)
  can = can_step gated p input0 s0 x0 takes0

  thread_at : (z : State) (l : LocalState) → IsReached p z → slice_get z.locals x0.thread.0 ≡ Some l → IsThread p x0.thread.0 l
  thread_at z l h e = subst (λ (o : Option LocalState). IfSome o (IsThread p x0.thread.0)) e (h.threads x0.thread.0)

  -- it has a frame, and stands at an instruction
  no_end : (l0 : LocalState) → slice_get s0.locals x0.thread.0 ≡ Some l0 → l0.frames ≡ [] → ⊥
  unfolding next
  no_end l0 e q =
      let k : next_of p s0 x0.thread.0 ≡ actions.Ended = next_is p s0 x0.thread.0 l0 e ∙ ap (Rattle.pg_run_thread.specs.Step.frames_action p l0 l0.begun) q in
      subst CanStep k can

  instr_at : (h : Bool) (f : Frame) (fs : List Frame) (n : ℕ) → slice_get s0.locals x0.thread.0 ≡ Some (running x0.thread.0 h f fs n) → (x : Instr) × (slice_get p.instrs f.place ≡ Some x)
  unfolding next
  instr_at h f fs n e = go (slice_get p.instrs f.place) refl
    where
      go : (o : Option Instr) → slice_get p.instrs f.place ≡ o → (x : Instr) × (slice_get p.instrs f.place ≡ Some x)
      go (Some x) q = (x, q)
      go None q =
          let k : next_of p s0 x0.thread.0 ≡ actions.Ended = next_is p s0 x0.thread.0 (running x0.thread.0 h f fs n) e ∙ ap (instr_action p (running x0.thread.0 h f fs n) f fs) q in
          absurd (subst CanStep k can)

  both : (l0 k0 : LocalState) → slice_get s0.locals x0.thread.0 ≡ Some l0 → slice_get s.locals x0.thread.0 ≡ Some k0 → l0.begun ≡ true → k0.begun ≡ true
      → IsStandingLike input (record { local = l0; known = known }) k0 → Both p input x0.thread.0 s0 s known
  both l0 k0 e0 e b0 b z = go (parts input l0.frames known k0.frames z.calls)
    where
      go : (l0.frames ≡ []) ⊎ Parts input l0.frames known k0.frames → Both p input x0.thread.0 s0 s known
      go (inl q) = absurd (no_end l0 e0 q)
      go (inr q) =
          let is0 : slice_get s0.locals x0.thread.0 ≡ Some (running x0.thread.0 l0.halfway q.f0 q.more0 l0.heap) =
          e0 ∙ ap (λ (l : LocalState). Some l) (running_is l0 x0.thread.0 q.f0 q.more0 (thread_at s0 l0 reached0 e0).number b0 q.is0) in
          let is : slice_get s.locals x0.thread.0 ≡ Some (running x0.thread.0 l0.halfway q.f q.fs l0.heap) =
          e ∙ ap (λ (l : LocalState). Some l) (running_is k0 x0.thread.0 q.f q.fs (thread_at s k0 reached e).number b q.is
          ∙ same_running x0.thread.0 k0.halfway l0.halfway q.f q.fs k0.heap l0.heap z.halfway z.heap) in
          let i = instr_at l0.halfway q.f0 q.more0 l0.heap is0 in
          record {
            h = l0.halfway;
            f0 = q.f0;
            fs0 = q.more0;
            n = l0.heap;
            x = i.0;
            f = q.f;
            fs = q.fs;
            ks = q.ks;
            more = q.more;
            here0 = record { local = is0; instr = i.1 };
            here = record { local = is; instr = ap (slice_get p.instrs) q.top.place ∙ i.1 };
            calls = q.is_known;
            top = q.top;
            rest = q.rest;
          }

  begun_local : (z : State) (o : Option LocalState) (l : LocalState) → slice_get z.locals x0.thread.0 ≡ o → begun_in o ≡ Some l
      → (slice_get z.locals x0.thread.0 ≡ Some l) × (l.begun ≡ true)
  begun_local z None l e q = absurd cc
  begun_local z (Some k) l e q = go k.begun refl q
    where
      go : (b : Bool) → k.begun ≡ b → Path (Option LocalState) (if b then Some k else None) (Some l) → (slice_get z.locals x0.thread.0 ≡ Some l) × (l.begun ≡ true)
      go true w v = let i : k ≡ l = cc in (e ∙ ap (λ (m : LocalState). Some m) i, subst (λ (m : LocalState). m.begun ≡ true) i w)
      go false w v = absurd cc

  pub opened : StandLike input (standing_of (local_at s0 x0.thread.0) known) (local_at s x0.thread.0) → Both p input x0.thread.0 s0 s known ⊎ Beginning p x0.thread.0 s0 s
  opened h = let y = present s0 x0.thread.0 (ready_made p s0 x0.thread.0 takes0.is_ready) in go y.0 y.1 y.0.begun refl
    where
      go : (l0 : LocalState) → slice_get s0.locals x0.thread.0 ≡ Some l0 → (b : Bool) → l0.begun ≡ b → Both p input x0.thread.0 s0 s known ⊎ Beginning p x0.thread.0 s0 s
      go l0 e false b = inr (none (local_at s x0.thread.0) refl (rw (ap begun_in e ∙ ap (λ (c : Bool). if c then Some l0 else None) b) at h))
        where
          none : (o : Option LocalState) → local_at s x0.thread.0 ≡ o → StandLike input (standing_of None known) o → Beginning p x0.thread.0 s0 s
          none None q k = let w = (thread_at s0 l0 reached0 e).waiting b in record { function = w.0; first = e ∙ ap (λ (l : LocalState). Some l) w.1; none = q }
          none (Some l) q k = absurd k
      go l0 e true b = inl (some (local_at s x0.thread.0) refl (rw (ap begun_in e ∙ ap (λ (c : Bool). if c then Some l0 else None) b) at h))
        where
          some : (o : Option LocalState) → local_at s x0.thread.0 ≡ o → StandLike input (standing_of (Some l0) known) o → Both p input x0.thread.0 s0 s known
          some None q k = absurd k
          some (Some l) q k = let w = begun_local s (slice_get s.locals x0.thread.0) l refl q in both l0 l e w.0 b w.1 k
