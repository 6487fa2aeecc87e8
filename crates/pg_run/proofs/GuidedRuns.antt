-- The trace of a guided run is a run, whose events are the turns that it did.
use Rattle.std.proofs.Common.{◌≡◌, ℕ, ℤ, zero, suc, ◌+◌, List, [], ◌∷◌, ◌++◌, take, Bool, true, false, Option, Some, None, Result, Ok, Err, refl, sym, ap, ◌∙◌}
use Rattle.std.proofs.Common.{subst, arith}
use Rattle.std.specs.Prelude.{◌==◌, ◌&&◌, ◌↔◌, IsTrue, slice_get, slice_set, slice_index, if◌then◌else◌}
use Rattle.std.proofs.lemmas.Bool.Decides.{nat_tests}
use Rattle.std.proofs.lemmas.List.Elements.{filter_map-append}
use Rattle.pg_run_trace.specs.pg_ir.declared.ids.InstrId.{InstrId}
use Rattle.pg_run_trace.specs.pg_ir.declared.request.TrapName.{TrapName}
use Rattle.pg_run_trace.specs.pg_ir.Program.{NumberedProgram}
use Rattle.pg_run_trace.specs.declared.turn.Turn.{Turn}
use Rattle.pg_run_trace.specs.declared.turn.TurnKind.{TurnKind}
use Rattle.pg_run_trace.specs.declared.turn.TurnKind.TheVariants as kinds
use Rattle.pg_run_trace.specs.declared.step.Step.{Step}
use Rattle.pg_run_trace.specs.Kinds.{kind_number}
use Rattle.pg_run.specs.declared.guided_end.GuidedEnd.{GuidedEnd}
use Rattle.pg_run.specs.declared.guided_end.GuidedEnd.TheVariants as ends
use Rattle.pg_run.specs.State.{State, initial, next_of}
use Rattle.pg_run.specs.MachineStep.{Answered, Stepped, Did, Trapped, happening_of, settled, step, step_told, trap_of, turn_with, ready}
use Rattle.pg_run.specs.Guided.{GuidedRun, Walk, all_left, due, ended_at, guided, guided_of, is_turn, on_due, on_event, on_step, trap_or, walk}
use Rattle.pg_run.specs.Runs.{IsRun, Takes, event_of, events}
use Rattle.pg_run.proofs.OwnersMayStep.{due_ready}
use Rattle.pg_run.proofs.ToldTurns.{event_told_is}

-- ---- runs one behind the other

pub run_append : (gated : List InstrId) (p : NumberedProgram) (input : List ℤ) (s z t : State) (xs ys : List Step) → IsRun gated p input s xs z → IsRun gated p input z ys t
    → IsRun gated p input s (xs ++ ys) t
run_append gated p input s z t [] ys h k = subst (λ (w : State). IsRun gated p input w ys t) (sym h) k
run_append gated p input s z t (x ∷ xs) ys h k = (h.0, run_append gated p input h.0.after z t xs ys h.1 k)

-- ---- turns that are equal

-- the kinds in the order of their numbers
kind_list : List TurnKind
kind_list = kinds.Start ∷ kinds.Exit ∷ kinds.Create ∷ kinds.Join ∷ kinds.MutexInit ∷ kinds.Lock ∷ kinds.Trylock ∷ kinds.Unlock ∷ kinds.MutexDestroy ∷ kinds.CondInit ∷
    kinds.Wait ∷ kinds.Wake ∷ kinds.Signal ∷ kinds.Broadcast ∷ kinds.CondDestroy ∷ kinds.BarrierInit ∷ kinds.Arrive ∷ kinds.Leave ∷ kinds.BarrierDestroy ∷ kinds.Out ∷
    kinds.Putchar ∷ kinds.Load ∷ kinds.Store ∷ []

kind_here : (k : TurnKind) → slice_get kind_list (kind_number k) ≡ Some k
unfolding kind_list
kind_here kinds.Start = refl
kind_here kinds.Exit = refl
kind_here kinds.Create = refl
kind_here kinds.Join = refl
kind_here kinds.MutexInit = refl
kind_here kinds.Lock = refl
kind_here kinds.Trylock = refl
kind_here kinds.Unlock = refl
kind_here kinds.MutexDestroy = refl
kind_here kinds.CondInit = refl
kind_here kinds.Wait = refl
kind_here kinds.Wake = refl
kind_here kinds.Signal = refl
kind_here kinds.Broadcast = refl
kind_here kinds.CondDestroy = refl
kind_here kinds.BarrierInit = refl
kind_here kinds.Arrive = refl
kind_here kinds.Leave = refl
kind_here kinds.BarrierDestroy = refl
kind_here kinds.Out = refl
kind_here kinds.Putchar = refl
kind_here kinds.Load = refl
kind_here kinds.Store = refl

one_kind : (a b : TurnKind) → kind_number a ≡ kind_number b → a ≡ b
one_kind a b e =
    let k : Path (Option TurnKind) (Some a) (Some b) = sym (kind_here a) ∙ ap (slice_get kind_list) e ∙ kind_here b in
    cc

both_true : (x y : Bool) → (x && y) ≡ true → (x ≡ true) × (y ≡ true)
both_true true true e = (refl, refl)
both_true true false e = absurd cc
both_true false y e = absurd cc

pub same_number : (a b : ℕ) → (a == b) ≡ true → a ≡ b
same_number a b e = grind (arith, nat_tests)

pub one_turn : (a b : Turn) → is_turn a b ≡ true → a ≡ b
one_turn a b e =
    let l = both_true _ (a.object == b.object) e in
    let k = both_true _ (kind_number a.kind == kind_number b.kind) l.0 in
    let i = both_true (a.thread.0 == b.thread.0) (a.instr.0 == b.instr.0) k.0 in
    let x = same_number _ _ i.0 in
    let y = same_number _ _ i.1 in
    let z = one_kind _ _ (same_number _ _ k.1) in
    let w = same_number _ _ l.1 in
    ap (λ (t : ℕ). record { thread = record { 0 = t }; instr = a.instr; kind = a.kind; object = a.object }) x
    ∙ ap (λ (t : ℕ). record { thread = b.thread; instr = record { 0 = t }; kind = a.kind; object = a.object }) y
    ∙ ap (λ (t : TurnKind). record { thread = b.thread; instr = b.instr; kind = t; object = a.object }) z
    ∙ ap (λ (t : ℕ). record { thread = b.thread; instr = b.instr; kind = b.kind; object = t }) w

pub same_as_itself : (n : ℕ) → (n == n) ≡ true
same_as_itself n = grind (arith, nat_tests)

turn_itself : (a : Turn) → is_turn a a ≡ true
turn_itself a = rw (same_as_itself a.thread.0, same_as_itself a.instr.0, same_as_itself (kind_number a.kind), same_as_itself a.object) refl

pub turn_is_itself : (a b : Turn) → IsTrue (is_turn a b) ↔ (a ≡ b)
turn_is_itself a b = (λ h. one_turn a b h, λ e. subst (λ (c : Turn). is_turn a c ≡ true) e (turn_itself a))

-- ---- what a step of a turn's owner is

module _ (gated : List InstrId) (p : NumberedProgram) (input : List ℤ) (u : Turn) where
  unfoldable pub turn_if : Bool → Option Turn
  turn_if true = Some u
  turn_if false = None

  passes : (s : State) (b held : Bool) (trap : Option TrapName) (rest : Result Bool GuidedEnd)
      → Path (Result Bool GuidedEnd) (if held then Err ends.Strayed else trap_or s u.thread.0 trap rest) (Ok b) → rest ≡ Ok b
  passes s b true trap rest e = absurd cc
  passes s b false None rest e = e
  passes s b false (Some name) rest e = absurd cc

  is_both : (same is_ready b : Bool) → Path (Result Bool GuidedEnd) (if same && is_ready then Ok true else Err ends.Strayed) (Ok b) → (same ≡ true) × (true ≡ b)
  is_both true true b e = (refl, cc)
  is_both true false b e = absurd cc
  is_both false is_ready b e = absurd cc

  event_is : (is_ready b : Bool) (o : Option Turn) → on_event u is_ready o ≡ Ok b → o ≡ turn_if b
  unfolding turn_if
  event_is is_ready true None e = absurd cc
  event_is is_ready false None e = refl
  event_is is_ready b (Some v) e =
      let k = is_both (is_turn v u) is_ready b e in
      subst (λ (c : Bool). Some v ≡ turn_if c) k.1 (ap (λ (t : Turn). Some t) (one_turn v u k.0))

  due_turn : (s : State) (b : Bool) → due gated p u s ≡ Ok b → turn_with s u.thread.0 (happening_of gated s u.thread.0 (next_of p s u.thread.0)) ≡ turn_if b
  unfolding due
  due_turn s b e = event_is _ b _ (passes s b _ (trap_of s u.thread.0 (next_of p s u.thread.0)) _ e)

  told_by : (s z : State) (t : ℕ) (x : Step) (a : Answered) → settled gated p s t a ≡ Did x z → (n : ℕ) × (step_told gated p s t n ≡ x)
  told_by s z t x (w, Err name) e = absurd cc
  told_by s z t x (w, Ok n) e = (n, cc)

  pub told : (s z : State) (t : ℕ) (x : Step) → step gated p input s t ≡ Did x z → (n : ℕ) × (step_told gated p s t n ≡ x)
  unfolding step
  told s z t x e = told_by s z t x _ e

  -- x is a step from s to z
  pub record IsStep (s : State) (x : Step) (z : State) : Type 0 where
    pub goes : ready p s x.thread.0 ≡ true
    pub did : step gated p input s x.thread.0 ≡ Did x z

  -- the step, with the state that it leaves
  abbrev taken_by : (s z : State) (x : Step) → IsStep s x z → Takes gated p input s x
  taken_by s z x h = record { after = z; is_ready = h.goes; is_step = h.did }

  pub step_is : (s z : State) (b : Bool) (x : Step) → due gated p u s ≡ Ok b → step gated p input s u.thread.0 ≡ Did x z → IsStep s x z × (event_of x ≡ turn_if b)
  step_is s z b x d e =
      let k = told s z u.thread.0 x e in
      let own : IsStep s (step_told gated p s u.thread.0 k.0) z × (event_of (step_told gated p s u.thread.0 k.0) ≡ turn_if b) = (
        record { goes = due_ready gated p u s b d; did = e ∙ ap (λ (y : Step). Did y z) (sym k.1) },
        event_told_is gated p s u.thread.0 k.0 ∙ due_turn s b d,
      ) in
      subst (λ (y : Step). IsStep s y z × (event_of y ≡ turn_if b)) k.1 own

  -- ---- one walk

  done_of : Option GuidedEnd → List Turn
  done_of None = u ∷ []
  done_of (Some e) = []

  -- a walk is a run, whose only event is the turn
  IsWalk : State → Walk → Type 0
  IsWalk s w = IsRun gated p input s w.trace w.state × (events w.trace ≡ done_of w.end)

  stepped_walk : (n : ℕ) (s : State) (b : Bool) (o : Stepped) (more : State → Walk) → due gated p u s ≡ Ok b → step gated p input s u.thread.0 ≡ o
      → ((z : State) → IsWalk z (more z)) → IsWalk s (on_step s n b o more)
  unfolding IsWalk done_of turn_if
  stepped_walk n s b (Trapped name id) more d e h = (refl, refl)
  stepped_walk n s true (Did x z) more d e h = let k = step_is s z true x d e in ((taken_by s z x k.0, refl), rw k.1 refl)
  stepped_walk n s false (Did x z) more d e h = let k = step_is s z false x d e in ((taken_by s z x k.0, (h z).0), rw k.1 (h z).1)

  due_walk : (n : ℕ) (s : State) (d : Result Bool GuidedEnd) → due gated p u s ≡ d → ((z : State) → IsWalk z (walk n gated p input u z))
      → IsWalk s (on_due s n d (λ b. on_step s n b (step gated p input s u.thread.0) (λ t. walk n gated p input u t)))
  unfolding IsWalk done_of
  due_walk n s (Err end) e h = (refl, refl)
  due_walk n s (Ok b) e h = stepped_walk n s b (step gated p input s u.thread.0) (λ t. walk n gated p input u t) e refl h

  walk_run : (n : ℕ) (s : State) → IsWalk s (walk n gated p input u s)
  unfolding walk IsWalk done_of
  walk_run zero s = (refl, refl)
  walk_run (suc n) s = due_walk n s (due gated p u s) refl (walk_run n)

-- ---- the run

module _ (gated : List InstrId) (p : NumberedProgram) (input : List ℤ) where
  -- a run whose events are the first of the turns us, where k were done before
  record IsGuided (us : List Turn) (k : ℕ) (s : State) (r : GuidedRun) : Type 0 where
    count : ℕ
    turns : r.turns ≡ k + count
    steps : IsRun gated p input s r.trace r.state
    in_order : events r.trace ≡ take count us

  ended_run : (u : Turn) (us : List Turn) (k : ℕ) (s : State) (w : Walk) (left : List ℕ) (e : Option GuidedEnd) (more : State → List ℕ → GuidedRun) → w.end ≡ e
      → IsWalk gated p input u s w → ((z : State) (rest : List ℕ) → IsGuided us (k + 1) z (more z rest)) → IsGuided (u ∷ us) k s (ended_at w left k e more)
  unfolding IsWalk done_of
  ended_run u us k s w left (Some e) more q h g = record { count = 0; turns = omega arith; steps = h.0; in_order = h.1 ∙ ap (done_of gated p input u) q }
  ended_run u us k s w left None more q h g =
      let r = g w.state left in
      record {
        count = suc r.count;
        turns = let e = r.turns in omega arith;
        steps = run_append gated p input s w.state _ w.trace _ h.0 r.steps;
        in_order = filter_map-append event_of w.trace _ ∙ ap (λ (xs : List Turn). xs ++ events (more w.state left).trace) (h.1 ∙ ap (done_of gated p input u) q)
            ∙ ap (λ (xs : List Turn). u ∷ xs) r.in_order;
      }

  guided_run : (us : List Turn) (k : ℕ) (s : State) (left : List ℕ) → IsGuided us k s (guided gated p input us k s left)
  unfolding guided
  guided_run [] k s left = record { count = 0; turns = omega arith; steps = refl; in_order = refl }
  guided_run (u ∷ us) k s left =
      let w = walk (slice_index left u.thread.0) gated p input u s in
      ended_run u us k s w (slice_set left u.thread.0 w.left) w.end (λ t rest. guided gated p input us (k + 1) t rest) refl (walk_run gated p input u (slice_index left u.thread.0) s)
      (λ z rest. guided_run us (k + 1) z rest)

pub guided_is : (p : NumberedProgram) (input : List ℤ) (us : List Turn) (gated : List InstrId)
    → IsRun gated p input (initial p) (guided_of p input us gated).trace (guided_of p input us gated).state
    × (events (guided_of p input us gated).trace ≡ take (guided_of p input us gated).turns us)
unfolding guided_of
guided_is p input us gated =
    let r = guided_run gated p input us 0 (initial p) all_left in
    let e : (guided gated p input us 0 (initial p) all_left).turns ≡ r.count = let q = r.turns in omega arith in
    (r.steps, r.in_order ∙ ap (λ (n : ℕ). take n us) (sym e))
