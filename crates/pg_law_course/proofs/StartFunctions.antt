-- The functions with which threads will begin are those that the schedule's turns name.
use Rattle.std.proofs.Common.{◌≡◌, ℕ, ℤ, zero, suc, ◌<◌, ◌≤◌, List, [], ◌∷◌, ◌++◌, length, drop, map, Bool, true, false, Option, Some, None, refl, sym, ◌∙◌, ap, subst, arith, ◌⊎◌, inl, inr}
use Rattle.std.specs.Prelude.{◌==◌, ◌&&◌, find, is_some, slice_get, slice_set, if◌then◌else◌}
use Rattle.std.proofs.lemmas.Bool.{cases_lt}
use Rattle.std.proofs.lemmas.Bool.Decides.{nat_tests}
use Rattle.std.proofs.lemmas.List.{length-append}
use Rattle.pg_num.specs.Places.{ByteRange}
use Rattle.pg_ir.specs.declared.ids.InstrId.{InstrId}
use Rattle.pg_ir.specs.declared.request.Request.{Request}
use Rattle.pg_ir.specs.declared.request.Request.TheVariants as requests
use Rattle.pg_ir.specs.Program.{NumberedProgram}
use Rattle.pg_ir.specs.WellFormed.{IsProgram}
use Rattle.pg_law_threads.specs.Intervals.{done_after}
use Rattle.pg_run_thread.specs.declared.action.Action.{Action}
use Rattle.pg_run_thread.specs.declared.action.Action.TheVariants as actions
use Rattle.pg_run_thread.specs.LocalState.{LocalState, fresh}
use Rattle.pg_run_thread.specs.Step.{next}
use Rattle.pg_run_trace.specs.declared.turn.Turn.{Turn}
use Rattle.pg_run_trace.specs.declared.turn.TurnKind.{TurnKind}
use Rattle.pg_run_trace.specs.declared.turn.TurnKind.TheVariants as kinds
use Rattle.pg_run_trace.specs.declared.step.Step.{Step}
use Rattle.pg_run_trace.specs.Kinds.{kind_of}
use Rattle.pg_run.specs.MachineStep.{happening_if, happening_of, turn_of, turn_with}
use Rattle.pg_run.specs.State.{State, initial, instr_of, next_of}
use Rattle.pg_run.specs.Runs.{Takes, event_of}
use Rattle.pg_run.proofs.GuidedRuns.{same_as_itself, same_number}
use Rattle.pg_run.proofs.StepsBegin.{next_is, ready_made}
use Rattle.pg_run.proofs.Threads.{set_length}
use Rattle.pg_law_runs.specs.pg_law_effects.Effect.{effect_of, request_effect}
use Rattle.pg_law_runs.specs.pg_law_effects.PermittedSteps.{IsDue}
use Rattle.pg_law_runs.specs.pg_law_effects.Reached.{IsReached, IsThread}
use Rattle.pg_law_runs.specs.pg_law_effects.Views.{LeadsTo, Objects, objects_of, objects_with, start_of}
use Rattle.pg_law_runs.proofs.of_pg_law_effects.ReachedStates.{present}
use Rattle.pg_law_runs.proofs.of_pg_law_effects.StepsApart.{left_by}
use Rattle.pg_law_runs.proofs.of_pg_law_effects.StepViews.{leads_to}
use Rattle.pg_law_runs.proofs.of_pg_law_effects.ToldByStep.{event_is}
use Rattle.pg_law_runs.proofs.RunsAsDeeds.{next_state}
use Rattle.pg_law_runs.proofs.StepRules.{instr_is}
use Rattle.pg_law_course.specs.Threads.{created_by, creates, function_operand, is_create, or_main, start_function}
use Rattle.pg_law_course.proofs.NamedOperands.{created_function}

-- ---- the turn that creates a thread

drop_get : {A : Type 0} (xs : List A) (g : ℕ) (x : A) (ys : List A) → drop g xs ≡ x ∷ ys → slice_get xs g ≡ Some x
drop_get xs zero x ys e = ap (λ l. slice_get l 0) e
drop_get [] (suc g) x ys e = absurd cc
drop_get (y ∷ xs) (suc g) x ys e = drop_get xs g x ys e

pub due_get : (v : Turn) (us : List Turn) (g : ℕ) → IsDue (Some v) (drop g us) → slice_get us g ≡ Some v
due_get v us g h = go (drop g us) refl h
  where
    go : (l : List Turn) → drop g us ≡ l → IsDue (Some v) l → slice_get us g ≡ Some v
    go [] e d = absurd d
    go (u ∷ l) e d = drop_get us g u l e ∙ ap (λ (w : Turn). Some w) (sym d)

first_found : (f : Turn → Bool) (us : List Turn) (g : ℕ) (u : Turn) → slice_get us g ≡ Some u → f u ≡ true → ((i : ℕ) (v : Turn) → i < g → slice_get us i ≡ Some v → f v ≡ false) → find f us ≡ Some u
first_found f [] g u e h n = absurd cc
first_found f (w ∷ us) zero u e h n = let q : w ≡ u = cc in rw (ap f q ∙ h) (ap (λ (v : Turn). Some v) q)
first_found f (w ∷ us) (suc g) u e h n = rw (n 0 w (omega arith) refl) (first_found f us g u e h (λ i v l k. n (suc i) v (omega (arith, l)) k))

-- ---- what is kept

module _ (p : NumberedProgram) (turns : List Turn) where
  -- g turns are done: what the objects know of threads that will begin, and which threads are made
  pub record Knows (g : ℕ) (s : State) : Type 0 where
    pub starts : (t f : ℕ) → slice_get (map start_of s.locals) t ≡ Some (Some f) → f ≡ start_function p turns t
    pub made : (i : ℕ) (u : Turn) → i < g → slice_get turns i ≡ Some u → is_create u.kind ≡ true → u.object < length s.locals

  starts_first : (t f : ℕ) → slice_get (map start_of (initial p).locals) t ≡ Some (Some f) → f ≡ start_function p turns t
  unfolding initial fresh
  starts_first zero f e = let k : p.main ≡ f = cc in sym k
  starts_first (suc t) f e = absurd cc

  pub knows_first : Knows 0 (initial p)
  knows_first = record { starts = starts_first; made = λ i u l. absurd (omega (arith, l)) }

  -- the thread that the turn with the number g creates
  new_function : (g : ℕ) (s : State) (u : Turn) (f : ℕ) → Knows g s → slice_get turns g ≡ Some u → is_create u.kind ≡ true → u.object ≡ length s.locals → 0 < length s.locals
      → function_operand (slice_get p.instrs u.instr.0) ≡ Some f → f ≡ start_function p turns (length s.locals)
  new_function g s u f h e k o some named = sym (ap (λ (b : Bool). if b then p.main else created_by p (find (creates (length s.locals)) turns)) zero_not ∙ ap (created_by p) found ∙ ap (or_main p) named)
    where
      zero_not : (length s.locals == 0) ≡ false
      zero_not = grind (arith, nat_tests)

      mine : creates (length s.locals) u ≡ true
      mine = rw (k, o) (same_as_itself (length s.locals))

      earlier : (i : ℕ) (v : Turn) → i < g → slice_get turns i ≡ Some v → creates (length s.locals) v ≡ false
      earlier i v l q = go (is_create v.kind) refl (v.object == length s.locals) refl
        where
          go : (b : Bool) → is_create v.kind ≡ b → (c : Bool) → (v.object == length s.locals) ≡ c → (is_create v.kind && (v.object == length s.locals)) ≡ false
          go false w c z = rw w refl
          go true w false z = rw (w, z) refl
          go true w true z = absurd (let less = h.made i v l q w in let same = same_number v.object (length s.locals) z in omega (arith, less, same))

      found : find (creates (length s.locals)) turns ≡ Some u
      found = first_found (creates (length s.locals)) turns g u e mine earlier

-- ---- the objects behind a step

map_length : (ls : List LocalState) → length (map start_of ls) ≡ length ls
map_length [] = refl
map_length (l ∷ ls) = ap suc (map_length ls)

set_none : (ss : List (Option ℕ)) (t u f : ℕ) → slice_get (slice_set ss t None) u ≡ Some (Some f) → slice_get ss u ≡ Some (Some f)
set_none [] t u f e = e
set_none (x ∷ ss) zero zero f e = absurd cc
set_none (x ∷ ss) zero (suc u) f e = e
set_none (x ∷ ss) (suc t) zero f e = e
set_none (x ∷ ss) (suc t) (suc u) f e = set_none ss t u f e

start_fresh : (p : NumberedProgram) (t f : ℕ) → start_of (fresh p t f) ≡ Some f
unfolding fresh
start_fresh p t f = refl

module _ (gated : List InstrId) (p : NumberedProgram) (input : List ℤ) (turns : List Turn) (s : State) (t : ℕ) where
  abbrev starts_with : Action → List (Option ℕ)
  starts_with action = (objects_with t (request_effect p s t action) (objects_of s)).starts

  grows : (action : Action) → length (map start_of s.locals) ≤ length (starts_with action)
  grows (actions.Event (requests.Create q f n)) =
      let a = set_length (map start_of s.locals ++ start_of (fresh p (length s.locals) f) ∷ []) t None in
      let b = length-append (map start_of s.locals) (start_of (fresh p (length s.locals) f) ∷ []) in
      omega (arith, a, b)
  grows (actions.Event r) = let a = set_length (map start_of s.locals) t None in omega (arith, a)
  grows action = omega arith

  grows_create : (q : ByteRange) (f n : ℕ) → length (starts_with (actions.Event (requests.Create q f n))) ≡ suc (length s.locals)
  grows_create q f n =
      let a = set_length (map start_of s.locals ++ start_of (fresh p (length s.locals) f) ∷ []) t None in
      let b = length-append (map start_of s.locals) (start_of (fresh p (length s.locals) f) ∷ []) in
      let c = map_length s.locals in
      omega (arith, a, b, c)

  -- ---- a turn that creates a thread

  pub record IsCreate (action : Action) (u : Turn) : Type 0 where
    pub at : ByteRange
    pub function : ℕ
    pub argument : ℕ
    pub action_is : action ≡ actions.Event (requests.Create at function argument)
    pub object : u.object ≡ length s.sync.threads
    pub instr : u.instr.0 ≡ instr_of s t

  grows_by : (action : Action) (u : Turn) → IsCreate action u → length (starts_with action) ≡ suc (length s.locals)
  grows_by action u y = ap (λ (a : Action). length (starts_with a)) y.action_is ∙ grows_create y.at y.function y.argument

  no_create : (b : Bool) (kind : TurnKind) (o : ℕ) (u : Turn) → is_create kind ≡ false
      → turn_with s t (happening_if b kind o) ≡ Some u → is_create u.kind ≡ true → ⊥
  no_create true kind o u k e c =
      let q : Path (Option TurnKind) (Some kind) (Some u.kind) = ap kind_in e in
      let same : kind ≡ u.kind = cc in
      let z : true ≡ false = sym c ∙ ap is_create (sym same) ∙ k in
      absurd cc
    where
      kind_in : Option Turn → Option TurnKind
      kind_in None = None
      kind_in (Some v) = Some v.kind
  no_create false kind o u k e c = absurd cc

  create_is : (q : ByteRange) (f n : ℕ) (u : Turn)
      → turn_with s t (happening_of gated s t (actions.Event (requests.Create q f n))) ≡ Some u
      → IsCreate (actions.Event (requests.Create q f n)) u
  create_is q f n u e = record {
    at = q;
    function = f;
    argument = n;
    action_is = refl;
    object = sym (number_of (ap object_in e));
    instr = sym (number_of (ap instr_in e));
  }
    where
      object_in : Option Turn → Option ℕ
      object_in None = None
      object_in (Some v) = Some v.object

      instr_in : Option Turn → Option ℕ
      instr_in None = None
      instr_in (Some v) = Some v.instr.0

      number_of : {m n : ℕ} → Path (Option ℕ) (Some m) (Some n) → m ≡ n
      number_of e = cc

  other_request : (r : Request) (u : Turn) → turn_with s t (happening_of gated s t (actions.Event r)) ≡ Some u
      → is_create u.kind ≡ true → is_create (kind_of r) ≡ true
  other_request r u e c = go (kind_of r) (ap kind_in e)
    where
      kind_in : Option Turn → Option TurnKind
      kind_in None = None
      kind_in (Some v) = Some v.kind

      go : (k : TurnKind) → Path (Option TurnKind) (Some k) (Some u.kind) → is_create k ≡ true
      go k q = let same : k ≡ u.kind = cc in ap is_create same ∙ c

  creates_by : (action : Action) (u : Turn) → turn_with s t (happening_of gated s t action) ≡ Some u
      → is_create u.kind ≡ true → IsCreate action u
  creates_by (actions.Event (requests.Create q f n)) u e c = create_is q f n u e
  creates_by (actions.Event r) u e c = absurd (let k = other_request r u e c in cc)
  creates_by (actions.Load q) u e c = absurd (no_create _ kinds.Load q.start u refl e c)
  creates_by (actions.Store q n) u e c = absurd (no_create _ kinds.Store q.start u refl e c)
  creates_by action u e c = absurd cc

  -- ---- the step

  get_last : (ss : List (Option ℕ)) (x : Option ℕ) (u f : ℕ) → slice_get (ss ++ x ∷ []) u ≡ Some (Some f) → (slice_get ss u ≡ Some (Some f)) ⊎ ((u ≡ length ss) × (x ≡ Some f))
  get_last [] x zero f e = inr (refl, cc)
  get_last [] x (suc u) f e = absurd cc
  get_last (y ∷ ss) x zero f e = inl e
  get_last (y ∷ ss) x (suc u) f e = go (get_last ss x u f e)
    where
      go : (slice_get ss u ≡ Some (Some f)) ⊎ ((u ≡ length ss) × (x ≡ Some f)) → (slice_get (y ∷ ss) (suc u) ≡ Some (Some f)) ⊎ ((suc u ≡ length (y ∷ ss)) × (x ≡ Some f))
      go (inl k) = inl k
      go (inr k) = inr (ap suc k.0, k.1)

  module _ (g : ℕ) (h : Knows p turns g s) (new : (q : ByteRange) (f n : ℕ) → next_of p s t ≡ actions.Event (requests.Create q f n) → f ≡ start_function p turns (length s.locals)) where
    starts_created : (q : ByteRange) (f n : ℕ) → next_of p s t ≡ actions.Event (requests.Create q f n) → (u v : ℕ)
        → (slice_get (map start_of s.locals) u ≡ Some (Some v)) ⊎ ((u ≡ length (map start_of s.locals)) × (start_of (fresh p (length s.locals) f) ≡ Some v)) → v ≡ start_function p turns u
    starts_created q f n e u v (inl k) = h.starts u v k
    starts_created q f n e u v (inr k) =
        let same : f ≡ v = one_of (sym (start_fresh p (length s.locals) f) ∙ k.1) in
        sym same ∙ new q f n e ∙ ap (start_function p turns) (sym (k.0 ∙ map_length s.locals))
      where
        one_of : {a b : ℕ} → Path (Option ℕ) (Some a) (Some b) → a ≡ b
        one_of e = cc

    starts_by : (action : Action) → next_of p s t ≡ action → (u v : ℕ) → slice_get (starts_with action) u ≡ Some (Some v) → v ≡ start_function p turns u
    starts_by (actions.Event (requests.Create q f n)) e u v k = starts_created q f n e u v
        (get_last (map start_of s.locals) (start_of (fresh p (length s.locals) f)) u v (set_none (map start_of s.locals ++ start_of (fresh p (length s.locals) f) ∷ []) t u v k))
    starts_by (actions.Event r) e u v k = h.starts u v (set_none (map start_of s.locals) t u v k)
    starts_by action e u v k = h.starts u v k

module _ (gated : List InstrId) (p : NumberedProgram) (input : List ℤ) (turns : List Turn) (program : IsProgram p) where
  objects_next : (s : State) (x : Step) → IsReached p s → Takes gated p input s x
      → map start_of (next_state gated p input s x).locals ≡ starts_with gated p input turns s x.thread.0 (next_of p s x.thread.0)
  unfolding effect_of
  objects_next s x reached h = ap (λ (o : Objects). o.starts)
      (subst (λ (z : State). LeadsTo (effect_of p input s x.thread.0) s z) (left_by gated p input s h.after x.thread.0 x h.is_step)
      (leads_to gated p input s h.after x.thread.0 x reached h.is_ready h.is_step)).objects

  module _ (s : State) (x : Step) (g : ℕ) (reached : IsReached p s) (takes : Takes gated p input s x) (due : IsDue (event_of x) (drop g turns)) (h : Knows p turns g s) where
    turn_is : event_of x ≡ turn_with s x.thread.0 (happening_of gated s x.thread.0 (next_of p s x.thread.0))
    unfolding turn_of
    turn_is = event_is gated p input s takes.after x.thread.0 x takes.is_step

    made_there : x.thread.0 < length s.locals
    made_there = ready_made p s x.thread.0 takes.is_ready

    -- the event of a create
    new : (q : ByteRange) (f n : ℕ) → next_of p s x.thread.0 ≡ actions.Event (requests.Create q f n) → f ≡ start_function p turns (length s.locals)
    new q f n e =
        let y = present s x.thread.0 made_there in
        let k : next p y.0 ≡ actions.Event (requests.Create q f n) = sym (next_is p s x.thread.0 y.0 y.1) ∙ e in
        let named : function_operand (slice_get p.instrs (instr_of s x.thread.0)) ≡ Some f =
        ap (λ (i : ℕ). function_operand (slice_get p.instrs i)) (instr_is s x.thread.0 y.0 y.1) ∙ created_function p y.0 q f n program k in
        let u : Turn = record { thread = record { 0 = x.thread.0 }; instr = record { 0 = instr_of s x.thread.0 }; kind = kinds.Create; object = length s.sync.threads } in
        let there : event_of x ≡ Some u = turn_is ∙ ap (λ (a : Action). turn_with s x.thread.0 (happening_of gated s x.thread.0 a)) e in
        new_function p turns g s u f h (due_get u turns g (subst (λ (o : Option Turn). IsDue o (drop g turns)) there due)) refl reached.machine.threads (omega (arith, made_there)) named

    made_by : (o : Option Turn) → event_of x ≡ o → (i : ℕ) (u : Turn) → i < done_after (is_some o) g → slice_get turns i ≡ Some u → is_create u.kind ≡ true
        → u.object < length (starts_with gated p input turns s x.thread.0 (next_of p s x.thread.0))
    made_by None e i u l k c = let a = h.made i u l k c in let b = grows gated p input turns s x.thread.0 (next_of p s x.thread.0) in let d = map_length s.locals in omega (arith, a, b, d)
    made_by (Some v) e i u l k c = go (cases_lt i g)
      where
        go : (i < g) ⊎ (g ≤ i) → u.object < length (starts_with gated p input turns s x.thread.0 (next_of p s x.thread.0))
        go (inl m) = let a = h.made i u m k c in let b = grows gated p input turns s x.thread.0 (next_of p s x.thread.0) in let d = map_length s.locals in omega (arith, a, b, d)
        go (inr m) =
            let same : i ≡ g = omega (arith, l, m) in
            let there : slice_get turns g ≡ Some v = due_get v turns g (subst (λ (o : Option Turn). IsDue o (drop g turns)) e due) in
            let one : v ≡ u = one_turn (sym there ∙ ap (slice_get turns) (sym same) ∙ k) in
            let y = creates_by gated p input turns s x.thread.0 (next_of p s x.thread.0) u (sym turn_is ∙ e ∙ ap (λ (w : Turn). Some w) one) c in
            let more = grows_by gated p input turns s x.thread.0 (next_of p s x.thread.0) u y in
            let o = y.object in
            let r = reached.machine.threads in
            omega (arith, more, o, r)
          where
            one_turn : {a b : Turn} → Path (Option Turn) (Some a) (Some b) → a ≡ b
            one_turn e = cc

    pub knows_more : Knows p turns (done_after (is_some (event_of x)) g) (next_state gated p input s x)
    knows_more = record {
      starts = λ u v k. starts_by gated p input turns s x.thread.0 g h new (next_of p s x.thread.0) refl u v (ap (λ (l : List (Option ℕ)). slice_get l u) (sym (objects_next s x reached takes)) ∙ k);
      made = λ i u l k c.
          let a = made_by (event_of x) refl i u l k c in
          let b = ap (λ (l : List (Option ℕ)). length l) (objects_next s x reached takes) in
          let d = map_length (next_state gated p input s x).locals in
          omega (arith, a, b, d);
    }

-- a thread that hasn't begun will begin with its function
pub waits_for : (p : NumberedProgram) (turns : List Turn) (g : ℕ) (s : State) (t : ℕ) (l : LocalState) → IsReached p s → Knows p turns g s → slice_get s.locals t ≡ Some l → l.begun ≡ false
    → l ≡ fresh p t (start_function p turns t)
waits_for p turns g s t l reached h e b =
    let own : IsThread p t l = subst (λ (o : Option LocalState). Rattle.std.specs.Prelude.IfSome o (IsThread p t)) e (reached.threads t) in
    let w = own.waiting b in
    let k : slice_get (map start_of s.locals) t ≡ Some (Some w.0) = start_at s.locals t l e ∙ ap (λ (m : LocalState). Some (start_of m)) w.1 ∙ ap (λ (o : Option ℕ). Some o) (start_fresh p t w.0) in
    w.1 ∙ ap (fresh p t) (h.starts t w.0 k)
  where
    start_at : (ls : List LocalState) (t : ℕ) (l : LocalState) → slice_get ls t ≡ Some l → slice_get (map start_of ls) t ≡ Some (start_of l)
    start_at [] t l e = absurd cc
    start_at (x ∷ ls) zero l e = let k : x ≡ l = cc in ap (λ y. Some (start_of y)) k
    start_at (x ∷ ls) (suc t) l e = start_at ls t l e
