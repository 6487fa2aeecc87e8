-- A move of a whole instance fits the unit whose branch step is left free.
use Rattle.std.proofs.Common.{◌≡◌, ℕ, ℤ, ◌+◌, ◌-◌, ◌⊎◌, ◌<◌, ◌^◌, ◌++◌, suc, not, Bool, true, false, List, [], ◌∷◌, length, arith, Option, Some}
use Rattle.std.proofs.Common.{None, refl, sym, ap, ◌∙◌, subst, inl, inr}
use Rattle.std.specs.Prelude.{◌&&◌, ◌||◌, Contains, nat_le, nat_lt, map, slice_get, if◌then◌else◌}
use Rattle.std.specs.List.{AllByRecursion as AllOf, list_any}
use Rattle.std.proofs.lemmas.Bool.{and_from, and_parts, leb-true, le-leb, lt-ltb, ltb-true, true≢false}
use Rattle.pg_num.specs.Places.{ByteRange}
use Rattle.pg_num.specs.declared.layout.TheConstants.{MEMORY_BYTES}
use Rattle.pg_ir.specs.declared.instr.Instr.{Instr}
use Rattle.pg_ir.specs.declared.instr.Op.{Op}
use Rattle.pg_ir.specs.declared.instr.Op.TheVariants as op
use Rattle.pg_ir.specs.declared.value.Scalar.{Scalar}
use Rattle.pg_ir.specs.Edges.{body_of}
use Rattle.pg_ir.specs.Program.{NumberedProgram, types_of}
use Rattle.pg_ir.specs.WellFormed.{IsProgram}
use Rattle.pg_law_threads.specs.Effects.{IsSame, or_old}
use Rattle.pg_law_threads.specs.Plans.{Fits}
use Rattle.pg_law_threads.proofs.DoneLists.{cons_head, cons_tail}
use Rattle.pg_region_accesses.specs.Accesses.{RootedList}
use Rattle.pg_region_paths.proofs.Elements.{cases, none_in}
use Rattle.pg_run_thread.specs.LocalState.{Frame, LocalState}
use Rattle.pg_run_thread.specs.Operands.{flat}
use Rattle.pg_run_thread.specs.States.{AreFramesOf, AreValuesOf}
use Rattle.pg_run_trace.specs.declared.step.Access.{Access}
use Rattle.pg_run_trace.specs.declared.step.Happening.{Happening}
use Rattle.pg_run_trace.specs.declared.step.Step.{Step}
use Rattle.pg_run_trace.specs.declared.step.StepKind.{StepKind}
use Rattle.pg_run_trace.specs.declared.step.StepKind.TheVariants as kinds
use Rattle.pg_run_trace.specs.declared.turn.Turn.{Turn}
use Rattle.pg_run_trace.specs.Races.{is_in, reads_in, recorded, reply_in, writes_in}
use Rattle.pg_run_trace.specs.Steps.{access_in, access_of, happening_in, range_of, turn_at}
use Rattle.pg_run.specs.MachineStep.{step_told}
use Rattle.pg_run.specs.Runs.{IsRun}
use Rattle.pg_run.specs.State.{State, instr_of, next_of}
use Rattle.pg_law_effects.specs.Effect.{answer_to}
use Rattle.pg_law_effects.specs.PermittedSteps.{none_taken}
use Rattle.pg_law_effects.specs.Reached.{IsReached}
use Rattle.pg_law_effects.specs.Views.{begun_in, cell_at, is_thread, local_at}
use Rattle.pg_law_effects.proofs.ReachedStates.{reached_run}
use Rattle.pg_law_plan.proofs.of_pg_law_runs.ToldCells.{told}
use Rattle.pg_slice_rules.specs.declared.decision.Decision.{Decision}
use Rattle.pg_slice_rules.specs.declared.decision.Decision.TheVariants.{Pinned}
use Rattle.pg_slice_rules.specs.Freeable.{FreeAccess, FreeRegion, bounds_of}
use Rattle.pg_slice_rules.specs.Known.{Taken, after_op, forgotten_from, region_of, result_in, thread_of}
use Rattle.pg_slice_rules.specs.Moments.{Moment, instr_in, thread_in}
use Rattle.pg_slice_rules.specs.Rules.{Footprint, footprints_in}
use Rattle.pg_slice_rules.specs.SymbolicValues.{Symbolic, Unknown}
use Rattle.pg_law_instances.specs.Inside.{Instance, IsAtJoin, IsBranch, registers_by}
use Rattle.pg_law_instances.specs.Leads.{IsReached as LeadsTo, IsWithin}
use Rattle.pg_law_instances.specs.Stays.{TellsWithin}
use Rattle.pg_law_instances.proofs.JoinLeadsOut.{frames_of}
use Rattle.pg_law_plan.specs.Fits.{IsAlikeFor}
use Rattle.pg_law_plan.specs.Likes.{AreCallsLike, AreLike, IsCellLike, IsLike, IsThreadLike, IsToldLike, MovedThread, StandLike, like}
use Rattle.pg_law_plan.specs.Moves.{RunDeed, RunState}
use Rattle.pg_law_plan.specs.Units.{PlanUnit, ReferenceRun, access_touch, cell_known, deed_of, is_event_at, is_instance, is_read_in, is_written_in, reads_cell, reference_of, standing_of}
use Rattle.pg_law_plan.specs.Units.{word_read, writes_cell}
use Rattle.pg_law_plan.proofs.EachUnit.{IsUnit}
use Rattle.pg_law_plan.proofs.FreeBranchEffects.{IsFree, IsUnknown, freed_unknown, writes_freed}
use Rattle.pg_law_plan.proofs.ThreadAtInstruction.{instr_here, running, told_is}
use Rattle.pg_law_plan.proofs.KnownCalls.{IsInnerKind, inner_calls}
use Rattle.pg_law_plan.proofs.AlikeThreads.{Both}
use Rattle.pg_law_plan.proofs.StepFits.{fits_same}
use Rattle.pg_law_plan.proofs.UnitTurns.{is_some_if}
use Rattle.pg_law_admitted.specs.Free.{IsPartMove, IsWholeMove, JoinsAgain, StepsInside, begun_instance, deed_along}
use Rattle.pg_law_admitted.proofs.InstanceStarts as begin

-- ---- registers behind an instance

values_length : (ss : List Scalar) (vs : List (Option ℕ)) → AreValuesOf ss vs → length vs ≡ length ss
values_length [] [] h = refl
values_length [] (v ∷ vs) h = absurd h
values_length (s ∷ ss) [] h = absurd h
values_length (s ∷ ss) (v ∷ vs) h = ap suc (values_length ss vs h.1)

-- those that may be set are unknown, and the others are as they were
forgotten_like : (input : List ℤ) (k : ℕ) (sets : ℕ → Bool) (x : Decision) (ss : List Symbolic) (vs ws : List (Option ℕ)) → AreLike input ss vs → length ws ≡ length vs →
    ((i : ℕ) → sets (k + i) ≡ false → flat (slice_get ws i) ≡ flat (slice_get vs i)) → AreLike input (forgotten_from k sets x ss) ws
forgotten_like input k sets x [] [] [] h n kept = tt
forgotten_like input k sets x [] [] (w ∷ ws) h n kept = absurd cc
forgotten_like input k sets x [] (v ∷ vs) ws h n kept = absurd h
forgotten_like input k sets x (s ∷ ss) [] ws h n kept = absurd h
forgotten_like input k sets x (s ∷ ss) (v ∷ vs) [] h n kept = absurd cc
forgotten_like input k sets x (s ∷ ss) (v ∷ vs) (w ∷ ws) h n kept = (
  one (sets k) refl,
  forgotten_like input (suc k) sets x ss vs ws h.1 (omega (arith, n))
      (λ i e. kept (suc i) (subst (λ (j : ℕ). sets j ≡ false) (let q : suc k + i ≡ k + suc i = omega arith in q) e)),
)
  where
    one : (b : Bool) → sets k ≡ b → IsLike input (if b then Unknown x else s) w
    one true e = tt
    one false e = subst (IsLike input s) (sym (kept 0 (subst (λ (j : ℕ). sets j ≡ false) (let q : k ≡ k + 0 = omega arith in q) e))) h.0

-- ---- what the steps of an instance touch

any_of : {A : Type 0} (f : A → Bool) (P : Type 0) (xs : List A) → AllOf (λ (x : A). f x ≡ true → P) xs → list_any f xs ≡ true → P
any_of f P [] h e = absurd (true≢false (sym e))
any_of f P (x ∷ xs) h e = go (f x) refl e (λ q. any_of f P xs h.1 q)
  where
    go : (b : Bool) → f x ≡ b → (b || list_any f xs) ≡ true → (list_any f xs ≡ true → P) → P
    go true q k more = h.0 q
    go false q k more = more k

both_all : {A : Type 0} (P Q R : A → Type 0) → ((x : A) → P x → Q x → R x) → (xs : List A) → AllOf P xs → AllOf Q xs → AllOf R xs
both_all P Q R f [] h k = tt
both_all P Q R f (x ∷ xs) h k = (f x h.0 k.0, both_all P Q R f xs h.1 k.1)

-- accesses lie in memory
run_in_memory : (r : ReferenceRun) (input : List ℤ) (s z : State) (xs : List Step) → IsRun r.gated r.program input s xs z
    → AllOf (λ (x : Step). (b : ℕ) → (reads_in (access_of x) b ≡ true) ⊎ (writes_in (access_of x) b ≡ true) → b < MEMORY_BYTES) xs
run_in_memory r input s z [] h = tt
run_in_memory r input s z (x ∷ xs) h = (within, run_in_memory r input h.0.after z xs h.1)
  where
    within : (b : ℕ) → (reads_in (access_of x) b ≡ true) ⊎ (writes_in (access_of x) b ≡ true) → b < MEMORY_BYTES
    within b (inl e) = (told r.gated r.program input s none_taken x h.0).read_within b e
    within b (inr e) = (told r.gated r.program input s none_taken x h.0).written_within b e

in_range : (q bounds : ByteRange) (b : ℕ) → IsWithin q bounds → is_in q b ≡ true → is_in bounds b ≡ true
in_range q bounds b w h =
    let v = and_parts (nat_le q.start b) (nat_lt b (q.start + q.bytes)) h in
    let i = leb-true q.start b v.0 in
    let j = ltb-true b (q.start + q.bytes) v.1 in
    let x = w.from in
    let y = w.end in
    and_from (nat_le bounds.start b) (nat_lt b (bounds.start + bounds.bytes)) (le-leb bounds.start b (omega (arith, i, x))) (lt-ltb b (bounds.start + bounds.bytes) (omega (arith, j, y)))

pub some_map : {A B : Type 0} (f : B → Bool) (g : A → B) (xs : List A) (x : A) → Contains xs x → f (g x) ≡ true → list_any f (map g xs) ≡ true
some_map f g [] x c h = absurd (none_in x c)
some_map f g (y ∷ xs) x c h = go (cases y xs x c) (some_map f g xs x)
  where
    go : (y ≡ x) ⊎ Contains xs x → (Contains xs x → f (g x) ≡ true → list_any f (map g xs) ≡ true) → (f (g y) || list_any f (map g xs)) ≡ true
    go (inl e) more = ap (λ (b : Bool). b || list_any f (map g xs)) (ap (λ z. f (g z)) e ∙ h)
    go (inr d) more = ap (λ (b : Bool). f (g y) || b) (more d h) ∙ any_true (f (g y))
      where
        any_true : (b : Bool) → (b || true) ≡ true
        any_true true = refl
        any_true false = refl

-- an access that leads to the bounds of a recorded one of its kind reads or writes there
reads_footprint : (q : FreeRegion) (a : Access) (b : ℕ) → LeadsTo q.accesses a.writes (bounds_of a.pointer) → IsWithin (range_of a) (bounds_of a.pointer)
    → (not a.writes && is_in (range_of a) b) ≡ true → list_any (λ f. is_read_in f b) (footprints_in (Some q)) ≡ true
reads_footprint q a b l w h =
    let k = and_parts (not a.writes) (is_in (range_of a) b) h in
    some_map (λ (f : Footprint). is_read_in f b) (λ (x : FreeAccess). record { bytes = bounds_of x.at.last; writes = x.writes }) q.accesses l.access l.among
    (and_from (not l.access.writes) (is_in (bounds_of l.access.at.last) b) (ap not l.kind ∙ k.0) (ap (λ (z : ByteRange). is_in z b) l.same ∙ in_range (range_of a) (bounds_of a.pointer) b w k.1))

writes_footprint : (q : FreeRegion) (a : Access) (b : ℕ) → LeadsTo q.accesses a.writes (bounds_of a.pointer) → IsWithin (range_of a) (bounds_of a.pointer)
    → (a.writes && is_in (range_of a) b) ≡ true → list_any (λ f. is_written_in f b) (footprints_in (Some q)) ≡ true
writes_footprint q a b l w h =
    let k = and_parts a.writes (is_in (range_of a) b) h in
    some_map (λ (f : Footprint). is_written_in f b) (λ (x : FreeAccess). record { bytes = bounds_of x.at.last; writes = x.writes }) q.accesses l.access l.among
    (and_from l.access.writes (is_in (bounds_of l.access.at.last) b) (l.kind ∙ k.0) (ap (λ (z : ByteRange). is_in z b) l.same ∙ in_range (range_of a) (bounds_of a.pointer) b w k.1))

step_reads : (I : Instance) (q : FreeRegion) → I.recorded ≡ q.accesses → (k : StepKind) → TellsWithin I k → (b : ℕ) → reads_in (access_in k) b ≡ true
    → list_any (λ f. is_read_in f b) (footprints_in (Some q)) ≡ true
step_reads I q e (kinds.Access a) h b r = reads_footprint q a b (subst (λ (xs : List FreeAccess). LeadsTo xs a.writes (bounds_of a.pointer)) e h.bounds) h.within r
step_reads I q e kinds.Other h b r = absurd (true≢false (sym r))
step_reads I q e (kinds.Branch c) h b r = absurd (true≢false (sym r))
step_reads I q e (kinds.Event v) h b r = absurd h
step_reads I q e (kinds.Allocation m n) h b r = absurd h

step_writes : (I : Instance) (q : FreeRegion) → I.recorded ≡ q.accesses → (k : StepKind) → TellsWithin I k → (b : ℕ) → writes_in (access_in k) b ≡ true
    → list_any (λ f. is_written_in f b) (footprints_in (Some q)) ≡ true
step_writes I q e (kinds.Access a) h b r = writes_footprint q a b (subst (λ (xs : List FreeAccess). LeadsTo xs a.writes (bounds_of a.pointer)) e h.bounds) h.within r
step_writes I q e kinds.Other h b r = absurd (true≢false (sym r))
step_writes I q e (kinds.Branch c) h b r = absurd (true≢false (sym r))
step_writes I q e (kinds.Event v) h b r = absurd h
step_writes I q e (kinds.Allocation m n) h b r = absurd h

-- such a step is no event
pub quiet_event : (I : Instance) (k : StepKind) → TellsWithin I k → happening_in k ≡ None
quiet_event I kinds.Other h = refl
quiet_event I (kinds.Branch c) h = refl
quiet_event I (kinds.Access a) h = go a.event _ h.plain
  where
    go : (b : Bool) (v : Happening) → b ≡ false → Path (Option Happening) (if b then Some v else None) None
    go true v e = absurd (true≢false e)
    go false v e = refl
quiet_event I (kinds.Event v) h = absurd h
quiet_event I (kinds.Allocation m n) h = absurd h

quiet_reply : (I : Instance) (k : StepKind) → TellsWithin I k → reply_in k ≡ None
quiet_reply I kinds.Other h = refl
quiet_reply I (kinds.Branch c) h = refl
quiet_reply I (kinds.Access a) h = go a.event h.plain
  where
    go : (b : Bool) → b ≡ false → Path (Option ℕ) (if b then Some 0 else None) None
    go true e = absurd (true≢false e)
    go false e = refl
quiet_reply I (kinds.Event v) h = absurd h
quiet_reply I (kinds.Allocation m n) h = absurd h

below_is : (b : ℕ) → b < MEMORY_BYTES → nat_lt b MEMORY_BYTES ≡ true
below_is b h = lt-ltb b MEMORY_BYTES h

-- ---- the calls behind a branch step that is left free

after_free : (p : NumberedProgram) (n res : ℕ) (m : Moment) (q : FreeRegion) (x : Instr) (o : Op) (ks : List Symbolic) (more : List (List Symbolic)) → IsBranch o
    → after_op p false n m (Some q) res x o (ks ∷ more) ≡ forgotten_from 0 q.sets (Pinned n) ks ∷ more
after_free p n res m q x (op.CondBr c a b) ks more h = refl
after_free p n res m q x (op.Switch w on other cs) ks more h = refl
after_free p n res m q x o ks more h = absurd h

pub begun_some : (l : LocalState) → l.begun ≡ true → begun_in (Some l) ≡ Some l
begun_some l h = go l.begun h
  where
    go : (b : Bool) → b ≡ true → Path (Option LocalState) (if b then Some l else None) (Some l)
    go true e = refl
    go false e = absurd (true≢false (sym e))

local_same : (l k : LocalState) (o : Option LocalState) → o ≡ Some l → o ≡ Some k → l ≡ k
local_same l k o e f = let q : Some l ≡ Some k = sym e ∙ f in cc

-- ---- the move

module _ (r : ReferenceRun) (d : Taken) (input : List ℤ) (sums : ℕ → Option RootedList) (turns : List Turn)
    (u : PlanUnit) (unit : IsUnit r d u) (free : is_instance d u.seen ≡ true) (a : RunState) (g : ℕ) (m : StepsInside r input sums turns u a g) (alike : IsAlikeFor input d u a) where
  abbrev t : ℕ
  t = thread_in u.seen.moment

  abbrev I : Instance
  I = begun_instance r sums u m.state m.begun

  stands : StandLike input (standing_of (local_at u.state (thread_in u.seen.moment)) (thread_of u.seen.before (thread_in u.seen.moment)).calls) (local_at m.state (thread_in u.seen.moment))
  stands = subst (λ (l : MovedThread). StandLike input (standing_of (local_at u.state (thread_in u.seen.moment)) (thread_of u.seen.before (thread_in u.seen.moment)).calls) l.local)
      (m.looks.locals (thread_in u.seen.moment) refl) alike.thread.stands

  abbrev b : Both r.program input (thread_in u.seen.moment) u.state m.state (thread_of u.seen.before (thread_in u.seen.moment)).calls
  b = begin.both r d input u unit free m.state m.reached stands

  abbrev step : IsFree r.program d u.seen
  step = begin.step_free r d input u unit free m.state m.reached stands

  -- the frames of the branch, in both runs
  mine : m.begun.local ≡ running (thread_in u.seen.moment) b.h b.f b.fs b.n
  mine = local_same m.begun.local (running (thread_in u.seen.moment) b.h b.f b.fs b.n) (slice_get m.state.locals (thread_in u.seen.moment)) m.begun.is_local b.here.local

  frames : m.begun.frame ∷ m.begun.lower ≡ b.f ∷ b.fs
  frames = sym m.begun.frames ∙ ap (λ (l : LocalState). l.frames) mine

  step_is_free : step.free ≡ m.begun.free
  step_is_free = let q : Some step.free ≡ Some m.begun.free = sym step.region ∙ m.begun.is_region in cc

  -- what is known of its calls
  calls : (thread_of u.known (thread_in u.seen.moment)).calls ≡ forgotten_from 0 step.free.sets (Pinned u.seen.number) b.ks ∷ b.more
  calls =
      let n = u.seen.number in
      let w = u.seen.moment in
      ap (λ known. (thread_of known (thread_in u.seen.moment)).calls) unit.known
      ∙ inner_calls (reference_of r) d n w u.seen.before b.x (begin.instr_is r d input u unit free m.state m.reached stands) (sym unit.met.live ∙ unit.live) b.ks b.more b.calls
      (subst IsInnerKind (sym step.kind) tt)
      ∙ ap (λ (c : Bool). after_op r.program c n w (region_of r.program r.regions w (instr_in r.program w)) (result_in w.did.did.kind) b.x b.x.op (b.ks ∷ b.more)) step.pinned
      ∙ ap (λ (q : Option FreeRegion). after_op r.program false n w q (result_in w.did.did.kind) b.x b.x.op (b.ks ∷ b.more)) (sym unit.met.region ∙ step.region)
      ∙ after_free r.program n (result_in w.did.did.kind) w step.free b.x b.x.op b.ks b.more (begin.is_branching r d input u unit free m.state m.reached stands)

  -- a frame at the join has as many registers as the branch's
  module _ (program : IsProgram r.program) (small : length input < 2 ^ 64) (local : LocalState) (is_local : slice_get m.end.locals (thread_in u.seen.moment) ≡ Some local)
      (joined : IsAtJoin (begun_instance r sums u m.state m.begun) local) where
    reached_end : IsReached r.program m.end
    reached_end = reached_run r.gated r.program input m.state m.end (m.told ∷ m.inner) program small m.reached m.run

    end_frames : AreFramesOf r.program (joined.frame ∷ m.begun.lower)
    end_frames = subst (AreFramesOf r.program) joined.frames (frames_of r.program m.end (thread_in u.seen.moment) local reached_end is_local)

    pub joined_length : length joined.frame.registers ≡ length m.begun.frame.registers
    joined_length =
        let of = frames_of r.program m.state (thread_in u.seen.moment) (running (thread_in u.seen.moment) b.h b.f b.fs b.n) m.reached b.here.local in
        values_length (types_of r.program joined.frame.function) joined.frame.registers end_frames.0.registers
        ∙ ap (λ (f : ℕ). length (types_of r.program f)) (joined.joined.function ∙ ap (λ (f : Frame). f.function) (cons_head frames))
        ∙ sym (values_length (types_of r.program b.f.function) b.f.registers of.0.registers) ∙ sym (ap (λ (f : Frame). length f.registers) (cons_head frames))

  -- where the steps lead to the join, or a frame stands there with as many registers
  module _ (local : LocalState) (joined : IsAtJoin (begun_instance r sums u m.state m.begun) local) (same_length : length joined.frame.registers ≡ length m.begun.frame.registers)
      (again : JoinsAgain r sums u) where
    theirs : again.begun.local ≡ running (thread_in u.seen.moment) b.h b.f0 b.fs0 b.n
    theirs = local_same again.begun.local (running (thread_in u.seen.moment) b.h b.f0 b.fs0 b.n) (slice_get u.state.locals (thread_in u.seen.moment)) again.begun.is_local b.here0.local

    frames0 : again.begun.frame ∷ again.begun.lower ≡ b.f0 ∷ b.fs0
    frames0 = sym again.begun.frames ∙ ap (λ (l : LocalState). l.frames) theirs

    same_free : m.begun.free ≡ again.begun.free
    same_free = let q : Some m.begun.free ≡ Some again.begun.free = sym m.begun.is_region ∙ again.begun.is_region in cc

    same_join : m.begun.region.join ≡ again.begun.region.join
    same_join = sym m.begun.join ∙ ap (λ (q : FreeRegion). q.join) same_free ∙ again.begun.join

    -- its registers
    end_length : length joined.frame.registers ≡ length b.f.registers
    end_length = same_length ∙ ap (λ (f : Frame). length f.registers) (cons_head frames)

    registers : AreLike input (forgotten_from 0 step.free.sets (Pinned u.seen.number) b.ks) joined.frame.registers
    registers = forgotten_like input 0 step.free.sets (Pinned u.seen.number) b.ks b.f.registers joined.frame.registers b.top.registers end_length
        (λ i k. joined.joined.kept i (sym (m.begun.sets i) ∙ ap (λ (q : FreeRegion). q.sets i) (sym step_is_free)
        ∙ subst (λ (j : ℕ). step.free.sets j ≡ false) (let z : 0 + i ≡ i = omega arith in z) k) ∙ ap (λ (f : Frame). registers_by f.registers i) (cons_head frames))

    frames_like : AreCallsLike input (again.joined.frame ∷ again.begun.lower) (forgotten_from 0 step.free.sets (Pinned u.seen.number) b.ks ∷ b.more) (joined.frame ∷ m.begun.lower)
    frames_like = (
      record {
        function = joined.joined.function ∙ ap (λ (f : Frame). f.function) (cons_head frames) ∙ b.top.function ∙ sym (ap (λ (f : Frame). f.function) (cons_head frames0))
            ∙ sym again.joined.joined.function;
        place = joined.joined.place ∙ ap (body_of r.program) same_join ∙ sym again.joined.joined.place;
        height = joined.joined.height ∙ ap (λ (f : Frame). f.height) (cons_head frames) ∙ b.top.height ∙ sym (ap (λ (f : Frame). f.height) (cons_head frames0))
            ∙ sym again.joined.joined.height;
        registers = registers;
      },
      subst (λ (fs : List Frame). AreCallsLike input again.begun.lower b.more fs) (sym (cons_tail frames))
          (subst (λ (fs : List Frame). AreCallsLike input fs b.more b.fs) (sym (cons_tail frames0)) b.rest),
    )

    -- the thread behind them
    pub joined_stands : StandLike input (standing_of u.local (thread_of u.known (thread_in u.seen.moment)).calls) (Some local)
    joined_stands =
        subst (λ (o : Option LocalState). StandLike input (standing_of o (thread_of u.known (thread_in u.seen.moment)).calls) (Some local)) (sym again.is_local)
        (subst (λ ks. StandLike input (standing_of (Some again.local) ks) (Some local)) (sym calls) (record {
          thread = joined.thread ∙ ap (λ (l : LocalState). l.thread) mine ∙ sym (ap (λ (l : LocalState). l.thread) theirs) ∙ sym again.joined.thread;
          halfway = joined.halfway ∙ sym again.joined.halfway;
          heap = joined.heap ∙ ap (λ (l : LocalState). l.heap) mine ∙ sym (ap (λ (l : LocalState). l.heap) theirs) ∙ sym again.joined.heap;
          calls = subst (λ (fs : List Frame). AreCallsLike input fs (forgotten_from 0 step.free.sets (Pinned u.seen.number) b.ks ∷ b.more) local.frames) (sym again.joined.frames)
              (subst (λ (fs : List Frame). AreCallsLike input (again.joined.frame ∷ again.begun.lower) (forgotten_from 0 step.free.sets (Pinned u.seen.number) b.ks ∷ b.more) fs)
              (sym joined.frames) frames_like);
        }))

  own : m.told.thread.0 ≡ thread_in u.seen.moment
  own = m.own.0

  -- ---- what is told

  told_here : m.told ≡ step_told r.gated r.program m.state (thread_in u.seen.moment) (answer_to input m.state (thread_in u.seen.moment) (next_of r.program m.state (thread_in u.seen.moment)))
  told_here = told_is r.gated r.program input m.state m.run.0.after m.told.thread.0 m.told m.run.0.is_step
      ∙ ap (λ (v : ℕ). step_told r.gated r.program m.state v (answer_to input m.state v (next_of r.program m.state v))) own

  same_place : instr_of m.state (thread_in u.seen.moment) ≡ instr_of u.state (thread_in u.seen.moment)
  same_place = instr_here r.program m.state (thread_in u.seen.moment) b.h b.f b.fs b.n b.x b.here ∙ b.top.place ∙ sym (begin.place0 r d input u unit free m.state m.reached stands)

  told_like : IsToldLike u.seen.moment.did.did m.told
  told_like = record {
    thread = ap (λ (i : ℕ). record { 0 = i }) own;
    instr = ap (λ (z : Step). z.instr) told_here ∙ ap (λ (i : ℕ). record { 0 = i }) same_place ∙ sym (ap (λ (z : Step). z.instr) (begin.told0 r d input u unit free m.state m.reached stands));
    turn = ap (turn_at m.told) (quiet_event I m.told.kind m.tells.0) ∙ sym (ap (turn_at u.seen.moment.did.did) (ap happening_in step.kind));
    reply = quiet_reply I m.told.kind m.tells.0 ∙ sym (ap reply_in step.kind);
  }

  -- ---- what is touched

  abbrev xs : List Step
  xs = m.told ∷ m.inner

  reads_freed : (c : ℕ) → c < MEMORY_BYTES → list_any (λ f. is_read_in f c) (footprints_in (Some m.begun.free)) ≡ true → reads_cell d u.seen c ≡ true
  reads_freed c lt h =
      ap (λ (k : StepKind). if nat_lt c MEMORY_BYTES then list_any (λ f. is_read_in f c)
      (access_touch d u.seen.number (access_in k) ++ (if is_instance d u.seen then footprints_in u.seen.region else [])) else is_thread (word_read (thread_in u.seen.moment) k)
      (c - MEMORY_BYTES)) step.kind
      ∙ ap (λ (y : Bool). if y then list_any (λ f. is_read_in f c) (if is_instance d u.seen then footprints_in u.seen.region else []) else false) (below_is c lt)
      ∙ ap (λ (y : Bool). list_any (λ f. is_read_in f c) (if y then footprints_in u.seen.region else [])) free
      ∙ ap (λ (q : Option FreeRegion). list_any (λ f. is_read_in f c) (footprints_in q)) m.begun.is_region ∙ h

  writes_there : (c : ℕ) → c < MEMORY_BYTES → list_any (λ f. is_written_in f c) (footprints_in (Some m.begun.free)) ≡ true → writes_cell d u.seen c ≡ true
  writes_there c lt h =
      writes_freed (reference_of r) d u.seen unit.met.region (sym unit.met.live ∙ unit.live) free c
      ∙ ap (λ (y : Bool). if y then list_any (λ f. is_written_in f c) (footprints_in (Some step.free)) else false) (below_is c lt)
      ∙ ap (λ (q : FreeRegion). list_any (λ f. is_written_in f c) (footprints_in (Some q))) step_is_free ∙ h

  steps_read : (c : ℕ) → list_any (λ y. recorded.reads y c) (m.told ∷ m.inner) ≡ true → reads_cell d u.seen c ≡ true
  steps_read c h = any_of (λ (y : Step). recorded.reads y c) (reads_cell d u.seen c ≡ true) (m.told ∷ m.inner)
      (both_all (λ (y : Step). TellsWithin I y.kind) (λ (y : Step). (b : ℕ) → (reads_in (access_of y) b ≡ true) ⊎ (writes_in (access_of y) b ≡ true) → b < MEMORY_BYTES)
      (λ (y : Step). recorded.reads y c ≡ true → reads_cell d u.seen c ≡ true)
      (λ y w k z. reads_freed c (k c (inl z)) (step_reads I m.begun.free refl y.kind w c z)) (m.told ∷ m.inner) m.tells (run_in_memory r input m.state m.end (m.told ∷ m.inner) m.run)) h

  steps_write : (c : ℕ) → list_any (λ y. recorded.writes y c) (m.told ∷ m.inner) ≡ true → writes_cell d u.seen c ≡ true
  steps_write c h = any_of (λ (y : Step). recorded.writes y c) (writes_cell d u.seen c ≡ true) (m.told ∷ m.inner)
      (both_all (λ (y : Step). TellsWithin I y.kind) (λ (y : Step). (b : ℕ) → (reads_in (access_of y) b ≡ true) ⊎ (writes_in (access_of y) b ≡ true) → b < MEMORY_BYTES)
      (λ (y : Step). recorded.writes y c ≡ true → writes_cell d u.seen c ≡ true)
      (λ y w k z. writes_there c (k c (inr z)) (step_writes I m.begun.free refl y.kind w c z)) (m.told ∷ m.inner) m.tells (run_in_memory r input m.state m.end (m.told ∷ m.inner) m.run)) h

  -- nothing is known of what it may write
  unknown_there : (c : ℕ) → writes_cell d u.seen c ≡ true → IsUnknown (cell_known u.known c)
  unknown_there c h = subst (λ known. IsUnknown (cell_known known c)) (sym unit.known) (freed_unknown (reference_of r) d u.seen unit.met.region (sym unit.met.live ∙ unit.live) free c h)

  cell_there : (c : ℕ) (v : Symbolic) (w : ℕ) → IsCellLike input v w →
      IsCellLike input (or_old (if writes_cell d u.seen c then Some (cell_known u.known c) else None) v)
      (or_old (if list_any (λ y. recorded.writes y c) (m.told ∷ m.inner) then Some (cell_at m.end c) else None) w)
  cell_there c v w h = go (writes_cell d u.seen c) refl (list_any (λ y. recorded.writes y c) (m.told ∷ m.inner)) refl
    where
      any_number : (n : ℕ) → IsUnknown (cell_known u.known c) → IsCellLike input (cell_known u.known c) n
      any_number n k = subst (λ (s : Symbolic). IsCellLike input s n) (sym k.1) tt

      go : (x : Bool) → writes_cell d u.seen c ≡ x → (y : Bool) → list_any (λ y. recorded.writes y c) (m.told ∷ m.inner) ≡ y →
          IsCellLike input (or_old (if x then Some (cell_known u.known c) else None) v) (or_old (if y then Some (cell_at m.end c) else None) w)
      go true i true j = any_number (cell_at m.end c) (unknown_there c i)
      go true i false j = any_number w (unknown_there c i)
      go false i true j = absurd (true≢false (sym (steps_write c j) ∙ i))
      go false i false j = h

  no_event : is_event_at u.seen ≡ false
  no_event = begin.not_event r d input u unit free m.state m.reached stands

  none_if : {A : Type 0} (x : Bool) (y : A) → x ≡ false → Path (Option A) None (if x then Some y else None)
  none_if true y h = absurd (true≢false h)
  none_if false y h = refl

  either_true : (x y : Bool) → x ≡ true → (x || y) ≡ true
  either_true true y h = refl
  either_true false y h = absurd (true≢false (sym h))

  -- wherever the thread is left, if that is alike with where the unit leads
  module _ (local : LocalState) (there : StandLike input (standing_of u.local (thread_of u.known (thread_in u.seen.moment)).calls) (Some local)) (e : RunDeed)
      (is_deed : IsSame e (deed_along m.moves m.told m.inner m.end (Some local))) where
    to_like : IsThreadLike input (deed_of d u).to (deed_along m.moves m.told m.inner m.end (Some local)).to
    to_like = record {
      moves = ap (λ (i : ℕ). suc (m.moves i)) own ∙ ap suc (ap (λ (l : MovedThread). l.moves) (sym (m.looks.locals (thread_in u.seen.moment) refl)) ∙ alike.thread.moves);
      stands = there;
    }

    pub steps_fit : Fits (like input) (deed_of d u) e
    steps_fit = fits_same input (deed_of d u) e (deed_along m.moves m.told m.inner m.end (Some local)) is_deed (record {
      thread = own;
      to = to_like;
      told = told_like;
      objects = none_if (is_event_at u.seen) u.objects no_event;
      cells = cell_there;
      reads = λ c h. either_true (reads_cell d u.seen c) _ (steps_read c h);
      writes = λ c h. is_some_if (writes_cell d u.seen c) (cell_known u.known c)
          ∙ steps_write c (sym (is_some_if (list_any (λ y. recorded.writes y c) (m.told ∷ m.inner)) (cell_at m.end c)) ∙ h);
    })

-- ---- moves of either kind fit

module _ (r : ReferenceRun) (d : Taken) (input : List ℤ) (sums : ℕ → Option RootedList) (turns : List Turn) (u : PlanUnit) (unit : IsUnit r d u) (free : is_instance d u.seen ≡ true)
    (a : RunState) (g : ℕ) (e : RunDeed) (alike : IsAlikeFor input d u a) where
  pub whole_fits : IsProgram r.program → length input < 2 ^ 64 → JoinsAgain r sums u → IsWholeMove r input sums turns u a g e → Fits (like input) (deed_of d u) e
  whole_fits program small again w = steps_fit r d input sums turns u unit free a g w.steps alike w.local
      (joined_stands r d input sums turns u unit free a g w.steps alike w.local w.joined
      (joined_length r d input sums turns u unit free a g w.steps alike program small w.local w.is_local w.joined) again) e w.is_deed

  pub part_fits : IsPartMove r input sums turns u a g e → Fits (like input) (deed_of d u) e
  part_fits w = steps_fit r d input sums turns u unit free a g w.steps alike w.local w.stands e w.is_deed
