-- The threads of what is known, from step to step: as many as the machine's, each with as many calls.
use Rattle.std.proofs.Common.{◌≡◌, ◌≢◌, ℕ, zero, suc, ◌+◌, ◌<◌, ◌≤◌, Bool, true, false, List, [], ◌∷◌, ◌++◌, length, get_or, Option, Some, refl, sym}
use Rattle.std.proofs.Common.{ap, ◌∙◌, subst, arith, inl, inr, ◌⊎◌, get_or-set_same, get_or-set_other}
use Rattle.std.specs.Prelude.{slice_get, slice_index_or, if◌then◌else◌, slice_index}
use Rattle.std.proofs.lemmas.List.{get_or_past}
use Rattle.pg_ir.specs.declared.instr.Instr.{Instr}
use Rattle.pg_ir.specs.declared.instr.Op.{Op}
use Rattle.pg_ir.specs.declared.instr.Op.TheVariants as op
use Rattle.pg_ir.specs.declared.request.Request.{Request}
use Rattle.pg_ir.specs.declared.request.Request.TheVariants as requests
use Rattle.pg_ir.specs.Program.{NumberedProgram}
use Rattle.pg_run_thread.specs.LocalState.{Frame, LocalState}
use Rattle.pg_run_thread.specs.Step.{returned}
use Rattle.pg_run_trace.specs.declared.turn.TurnKind.{TurnKind}
use Rattle.pg_run_trace.specs.declared.step.Event.{Event}
use Rattle.pg_run_trace.specs.declared.step.StepKind.{StepKind}
use Rattle.pg_run_trace.specs.declared.step.StepKind.TheVariants as told
use Rattle.pg_run_trace.specs.Kinds.{kind_of}
use Rattle.pg_run.specs.State.{State}
use Rattle.pg_run.proofs.Threads.{set_length}
use Rattle.pg_slice_replay.specs.pg_slice_rules.Moments.{Moment, instr_in, thread_in}
use Rattle.pg_slice_replay.specs.pg_slice_rules.Extents.{Extent, is_live, open_after}
use Rattle.pg_slice_replay.specs.pg_slice_rules.Freeable.{FreeRegion}
use Rattle.pg_slice_replay.specs.pg_slice_rules.SymbolicValues.{Symbolic, unset}
use Rattle.pg_slice_replay.specs.pg_slice_rules.Known as known
use Rattle.pg_slice_replay.specs.pg_slice_rules.Known.{Reference, SymbolicState, SymbolicThread, after_event, after_op, after_step, edge_of, fresh_thread, live_after, live_by, no_thread, on_thread, region_of}
use Rattle.pg_slice_replay.specs.pg_slice_rules.Known.{thread_of, threads_after, under_top, with_extents, with_top}
use Rattle.pg_law_least.specs.Keeps.{every}
use Rattle.pg_run_trace.specs.Steps.{range_of}
use Rattle.pg_law_instances.specs.Moves.{GoesAlong, GoesBack, GoesInto, GoesPast, Moves, RequestMoves, IsLoad, IsStore, IsPlacedAt}
use Rattle.pg_law_instances.proofs.DoneSteps.{AddsThread, TellsPlain}

-- ---- calls

top_length : (f : List Symbolic → List Symbolic) (calls : List (List Symbolic)) → length (with_top f calls) ≡ length calls
top_length f [] = refl
top_length f (rs ∷ calls) = refl

under_length : (calls : List (List Symbolic)) (n : ℕ) → length calls ≡ suc n → length (under_top calls) ≡ n
under_length [] n e = absurd (omega (arith, e))
under_length (rs ∷ calls) n e = omega (arith, e)

returned_length : (p : NumberedProgram) (below : List Frame) (n : ℕ) → length (returned p below n) ≡ length below
returned_length p [] n = refl
returned_length p (f ∷ fs) n = refl

module _ (p : NumberedProgram) (n : ℕ) (m : Moment) (region : Option FreeRegion) (result : ℕ) (x : Instr) (calls : List (List Symbolic)) (f : Frame) (below : List Frame)
    (size : length calls ≡ length (f ∷ below)) where
  abbrev after_it : Op → List (List Symbolic)
  after_it o = after_op p true n m region result x o calls

  same_size : (g : List Symbolic → List Symbolic) (fs : List Frame) → length fs ≡ length (f ∷ below) → length (with_top g calls) ≡ length fs
  same_size g fs e = top_length g calls ∙ size ∙ sym e

  along_length : (o : Op) (fs : List Frame) → GoesAlong p f below x.block.0 o fs → length (after_it o) ≡ length fs
  along_length (op.Br to) fs a = same_size _ fs (ap (λ (l : List Frame). length l) a.is)
  along_length (op.CondBr c y z) fs a = same_size _ fs (ap (λ (l : List Frame). length l) a.is)
  along_length (op.Switch w on other cases) fs a = same_size _ fs (ap (λ (l : List Frame). length l) a.is)
  along_length o fs a = absurd (let e = a.edge in cc)

  into_length : (o : Op) (fs : List Frame) → GoesInto p f below o fs → length (after_it o) ≡ length fs
  into_length (op.Call g args) fs a = let e = ap (λ (l : List Frame). length l) a.is in omega (arith, e, size)
  into_length o fs a = absurd a.call

  back_length : (o : Op) (fs : List Frame) → GoesBack p below o fs → length (after_it o) ≡ length fs
  back_length (op.Ret v) fs a =
      let e = ap (λ (l : List Frame). length l) a.is in
      top_length _ (under_top calls) ∙ under_length calls (length below) (omega (arith, size)) ∙ sym (returned_length p below a.number) ∙ sym e
  back_length o fs a = absurd a.back

  past_length : (o : Op) (fs : List Frame) → GoesPast f below o fs → length (after_it o) ≡ length fs
  past_length (op.Call g args) fs a = absurd (a.no_call g refl)
  past_length (op.Ret v) fs a = absurd (let e = a.plain in cc)
  past_length o fs a = same_size _ fs (ap (λ (l : List Frame). length l) a.is)

  pub op_length : (o : Op) (fs : List Frame) → Moves p f below x o fs → length (after_it o) ≡ length fs
  op_length o fs (inl a) = along_length o fs a
  op_length o fs (inr (inl a)) = into_length o fs a
  op_length o fs (inr (inr (inl a))) = back_length o fs a
  op_length o fs (inr (inr (inr a))) = past_length o fs a

event_length : (p : NumberedProgram) (m : Moment) (e : Event) (argument : Symbolic) (x : Instr) (calls : List (List Symbolic)) (before fs : List Frame) (r : Request)
    → length calls ≡ length before → RequestMoves before r fs → length (after_event p m e (kind_of r) argument x calls) ≡ length fs
event_length p m e argument x calls before fs requests.Start s h = top_length _ calls ∙ s ∙ sym h
event_length p m e argument x calls before fs (requests.Exit v k) s h = ap (λ (l : List Frame). length l) (sym h)
event_length p m e argument x calls before fs (requests.Wait c v) s h = s ∙ sym h
event_length p m e argument x calls before fs (requests.Arrive v) s h = s ∙ sym h
event_length p m e argument x calls before fs (requests.Putchar v) s h = top_length _ calls ∙ s ∙ sym h
event_length p m e argument x calls before fs r s h = top_length _ calls ∙ s ∙ sym h

-- ---- threads

at_front : {X : Type 0} (xs : List X) (y d : X) (u : ℕ) → u < length xs → get_or (xs ++ y ∷ []) u d ≡ get_or xs u d
at_front [] y d u lt = absurd (omega arith)
at_front (x ∷ xs) y d zero lt = refl
at_front (x ∷ xs) y d (suc u) lt = at_front xs y d u (omega arith)

at_last : {X : Type 0} (xs : List X) (y d : X) (u : ℕ) → length xs ≤ u → (get_or (xs ++ y ∷ []) u d ≡ y) ⊎ (get_or (xs ++ y ∷ []) u d ≡ d)
at_last [] y d zero le = inl refl
at_last [] y d (suc u) le = inr refl
at_last (x ∷ xs) y d zero le = absurd (omega arith)
at_last (x ∷ xs) y d (suc u) le = at_last xs y d u (omega arith)

last_length : {X : Type 0} (xs : List X) (y : X) → length (xs ++ y ∷ []) ≡ length xs + 1
last_length [] y = omega arith
last_length (x ∷ xs) y = let h = last_length xs y in omega (arith, h)

-- at the end a new thread or none
pub record Grown (ts us : List SymbolicThread) (t : ℕ) (calls : List (List Symbolic)) : Type 0 where
  pub own : (slice_index_or us t no_thread).calls ≡ calls
  pub others : (u : ℕ) → u ≢ t → u < length ts → slice_index_or us u no_thread ≡ slice_index_or ts u no_thread
  pub past : (u : ℕ) → length ts ≤ u → ((slice_index_or us u no_thread).extents ≡ []) × (u < length us → length (slice_index_or us u no_thread).calls ≡ 1)
  pub more : length ts ≤ length us

grown_on : (g : List (List Symbolic) → List (List Symbolic)) (t : ℕ) (ts : List SymbolicThread) → t < length ts → Grown ts (on_thread g t ts) t (g (slice_index_or ts t no_thread).calls)
grown_on g t ts lt =
    let n = set_length ts t (record (slice_index_or ts t no_thread) { calls = g (slice_index_or ts t no_thread).calls }) in
    record {
      own = ap (λ (th : SymbolicThread). th.calls) (get_or-set_same ts t (record (slice_index_or ts t no_thread) { calls = g (slice_index_or ts t no_thread).calls }) no_thread lt);
      others = λ u ne l. get_or-set_other ts t u (record (slice_index_or ts t no_thread) { calls = g (slice_index_or ts t no_thread).calls }) no_thread ne;
      past = λ u le. (ap (λ (th : SymbolicThread). th.extents) (get_or_past (on_thread g t ts) u no_thread (omega (arith, n, le))), λ l. absurd (omega (arith, n, le, l)));
      more = omega (arith, n);
    }

grown_last : (p : NumberedProgram) (k : ℕ) (ts us : List SymbolicThread) (t : ℕ) (calls : List (List Symbolic)) → t < length ts → length us ≡ length ts → Grown ts us t calls
    → Grown ts (us ++ fresh_thread p k ∷ []) t calls
grown_last p k ts us t calls lt n h = record {
  own = ap (λ (th : SymbolicThread). th.calls) (at_front us (fresh_thread p k) no_thread t (omega (arith, lt, n))) ∙ h.own;
  others = λ u ne l. at_front us (fresh_thread p k) no_thread u (omega (arith, l, n)) ∙ h.others u ne l;
  past = λ u le. go u le (at_last us (fresh_thread p k) no_thread u (omega (arith, le, n)));
  more = let m = last_length us (fresh_thread p k) in omega (arith, m, n);
}
  where
    go : (u : ℕ) → length ts ≤ u → (get_or (us ++ fresh_thread p k ∷ []) u no_thread ≡ fresh_thread p k) ⊎ (get_or (us ++ fresh_thread p k ∷ []) u no_thread ≡ no_thread) →
        ((slice_index_or (us ++ fresh_thread p k ∷ []) u no_thread).extents ≡ [])
        × (u < length (us ++ fresh_thread p k ∷ []) → length (slice_index_or (us ++ fresh_thread p k ∷ []) u no_thread).calls ≡ 1)
    go u le (inl e) = (ap (λ (th : SymbolicThread). th.extents) e, λ l. ap (λ (th : SymbolicThread). length th.calls) e)
    go u le (inr e) = (ap (λ (th : SymbolicThread). th.extents) e, λ l. in_range u le l)
      where
        fresh_there : (xs : List SymbolicThread) (u : ℕ) → length xs ≤ u → u < length (xs ++ fresh_thread p k ∷ []) → get_or (xs ++ fresh_thread p k ∷ []) u no_thread ≡ fresh_thread p k
        fresh_there [] zero le l = refl
        fresh_there [] (suc u) le l = absurd (omega (arith, l))
        fresh_there (x ∷ xs) zero le l = absurd (omega arith)
        fresh_there (x ∷ xs) (suc u) le l = fresh_there xs u (omega arith) (omega (arith, l))

        in_range : (u : ℕ) → length ts ≤ u → u < length (us ++ fresh_thread p k ∷ []) → length (slice_index_or (us ++ fresh_thread p k ∷ []) u no_thread).calls ≡ 1
        in_range u le l = ap (λ (th : SymbolicThread). length th.calls) (fresh_there us u (omega (arith, le, n)) l)

-- the extents of a thread are set
pub record Extended (ts us : List SymbolicThread) (t : ℕ) (calls : List (List Symbolic)) (es : List Extent) : Type 0 where
  pub own_calls : (slice_index_or us t no_thread).calls ≡ calls
  pub own_extents : (slice_index_or us t no_thread).extents ≡ es
  pub others : (u : ℕ) → u ≢ t → u < length ts → slice_index_or us u no_thread ≡ slice_index_or ts u no_thread
  pub past : (u : ℕ) → length ts ≤ u → ((slice_index_or us u no_thread).extents ≡ []) × (u < length us → length (slice_index_or us u no_thread).calls ≡ 1)

pub extended : (ts us : List SymbolicThread) (t : ℕ) (calls : List (List Symbolic)) (es : List Extent) → t < length ts → Grown ts us t calls → Extended ts (with_extents t es us) t calls es
extended ts us t calls es lt g =
    let v : SymbolicThread = record (slice_index_or us t no_thread) { extents = es } in
    let n = set_length us t v in
    let more = g.more in
    let own = get_or-set_same us t v no_thread (omega (arith, lt, more)) in
    record {
      own_calls = ap (λ (th : SymbolicThread). th.calls) own ∙ g.own;
      own_extents = ap (λ (th : SymbolicThread). th.extents) own;
      others = λ u ne l. get_or-set_other us t u v no_thread ne ∙ g.others u ne l;
      past = λ u le.
          let q = get_or-set_other us t u v no_thread (λ e. omega (arith, lt, le, e)) in
          (ap (λ (th : SymbolicThread). th.extents) q ∙ (g.past u le).0, λ l. ap (λ (th : SymbolicThread). length th.calls) q ∙ (g.past u le).1 (omega (arith, n, l)));
    }

-- a create adds a thread
abbrev pub Adds : ℕ → Request → ℕ → Type 0
Adds n (requests.Create r g v) size = size ≡ n + 1
Adds n r size = size ≡ n

pub adds_by : (s z : State) (n : ℕ) (r : Request) → n ≡ length s.locals → AddsThread r s z → Adds n r (length z.locals)
adds_by s z n (requests.Create r g v) e h = omega (arith, e, h)
adds_by s z n (requests.Exit v b) e h = omega (arith, e, h)
adds_by s z n r e h = omega (arith, e, h)

-- ---- a step

pub live_always : (es : List Extent) → is_live every.pinned es ≡ true
live_always [] = refl
live_always (e ∷ es) = live_always es

-- the machine's threads and those of what is known are as many, with as many calls
pub record Match (w : SymbolicState) (s : State) : Type 0 where
  pub count : length w.threads ≡ length s.locals
  pub calls : (u : ℕ) (l : LocalState) → slice_get s.locals u ≡ Some l → length (thread_of w u).calls ≡ length l.frames

-- what a step makes of the threads
pub record Walked (w v : SymbolicState) (t : ℕ) (frames : List Frame) (es : List Extent) (size : ℕ) : Type 0 where
  pub own_calls : length (thread_of v t).calls ≡ length frames
  pub own_extents : (thread_of v t).extents ≡ es
  pub others : (u : ℕ) → u ≢ t → u < length w.threads → thread_of v u ≡ thread_of w u
  pub past : (u : ℕ) → length w.threads ≤ u → ((thread_of v u).extents ≡ []) × (u < length v.threads → length (thread_of v u).calls ≡ 1)
  pub count : length v.threads ≡ size

module _ (R : Reference) (n : ℕ) (m : Moment) (w : SymbolicState) (i : Instr) (at : instr_in R.program m ≡ Some i) (lt : thread_in m < length w.threads) where
  abbrev p : NumberedProgram
  p = R.program

  abbrev t : ℕ
  t = thread_in m

  abbrev region : Option FreeRegion
  region = region_of p R.regions m (instr_in p m)

  abbrev es : List Extent
  es = open_after n (length m.calls) region (edge_of p m m.did.did.kind) (thread_of w t).extents

  abbrev live : SymbolicState
  live = live_by p every n m region i m.did.did.kind w

  step_is : after_step R every n m w ≡ record live { threads = with_extents t es live.threads }
  step_is =
      ap (λ (b : Bool). let z = if b then live_after p every n m region (instr_in p m) w else w in record z { threads = with_extents t es z.threads }) (live_always (thread_of w t).extents)
      ∙ ap (λ (o : Option Instr). let z = live_after p every n m region o w in record z { threads = with_extents t es z.threads }) at

  -- ---- the threads of the live step, by what it tells

  abbrev live_at : StepKind → SymbolicState
  live_at k = live_by p every n m region i k w

  -- the threads grow to so many, this one's calls to those of the frames
  pub record Lives (k : StepKind) (frames : List Frame) (size : ℕ) : Type 0 where
    pub calls : List (List Symbolic)
    pub grown : Grown w.threads (live_at k).threads t calls
    pub length_is : length calls ≡ length frames
    pub size_is : length (live_at k).threads ≡ size

  on_length : (g : List (List Symbolic) → List (List Symbolic)) → length (on_thread g t w.threads) ≡ length w.threads
  on_length g = set_length w.threads t (record (slice_index_or w.threads t no_thread) { calls = g (slice_index_or w.threads t no_thread).calls })

  load_moves : (f : Frame) (below fs : List Frame) (o : Op) → IsLoad o → Moves p f below i o fs → length fs ≡ length (f ∷ below)
  load_moves f below fs (op.Load v from) h (inl a) = absurd (let e = a.edge in cc)
  load_moves f below fs (op.Load v from) h (inr (inl a)) = absurd a.call
  load_moves f below fs (op.Load v from) h (inr (inr (inl a))) = absurd a.back
  load_moves f below fs (op.Load v from) h (inr (inr (inr a))) = ap (λ (l : List Frame). length l) a.is
  load_moves f below fs o h k = absurd h

  store_moves : (f : Frame) (below fs : List Frame) (o : Op) → IsStore o → Moves p f below i o fs → length fs ≡ length (f ∷ below)
  store_moves f below fs (op.Store v u at) h (inl a) = absurd (let e = a.edge in cc)
  store_moves f below fs (op.Store v u at) h (inr (inl a)) = absurd a.call
  store_moves f below fs (op.Store v u at) h (inr (inr (inl a))) = absurd a.back
  store_moves f below fs (op.Store v u at) h (inr (inr (inr a))) = ap (λ (l : List Frame). length l) a.is
  store_moves f below fs o h k = absurd h

  lives_op : (k : StepKind) (f : Frame) (below fs : List Frame) → length (thread_of w t).calls ≡ length (f ∷ below) → Moves p f below i i.op fs
      → (live_at k).threads ≡ on_thread (after_op p true n m region (known.result_in k) i i.op) t w.threads → Lives k fs (length w.threads)
  lives_op k f below fs size v e = record {
    calls = after_op p true n m region (known.result_in k) i i.op (thread_of w t).calls;
    grown = subst (λ (ts : List SymbolicThread). Grown w.threads ts t (after_op p true n m region (known.result_in k) i i.op (thread_of w t).calls)) (sym e)
        (grown_on (after_op p true n m region (known.result_in k) i i.op) t w.threads lt);
    length_is = op_length p n m region (known.result_in k) i (thread_of w t).calls f below size i.op fs v;
    size_is = ap (λ (ts : List SymbolicThread). length ts) e ∙ on_length (after_op p true n m region (known.result_in k) i i.op);
  }

  pub lives_plain : (b : Bool) (k : StepKind) (f : Frame) (below fs : List Frame) → length (thread_of w t).calls ≡ length (f ∷ below) → TellsPlain b i.op k → Moves p f below i i.op fs
      → Lives k fs (length w.threads)
  lives_plain b told.Other f below fs size h v = lives_op told.Other f below fs size v refl
  lives_plain b (told.Branch c) f below fs size h v = lives_op (told.Branch c) f below fs size v refl
  lives_plain b (told.Allocation a r) f below fs size h v = lives_op (told.Allocation a r) f below fs size v refl
  lives_plain b (told.Event e) f below fs size h v = absurd h
  lives_plain b (told.Access a) f below fs size h v = record {
    calls = with_top (known.after_access p true n a w.bytes i i.op) (thread_of w t).calls;
    grown = grown_on (with_top (known.after_access p true n a w.bytes i i.op)) t w.threads lt;
    length_is = top_length (known.after_access p true n a w.bytes i i.op) (thread_of w t).calls ∙ size ∙ sym (same h.by);
    size_is = on_length (with_top (known.after_access p true n a w.bytes i i.op));
  }
    where
      same : (IsLoad i.op × (a.writes ≡ false)) ⊎ (IsStore i.op × (a.writes ≡ true) × IsPlacedAt a.pointer (range_of a)) → length fs ≡ length (f ∷ below)
      same (inl c) = load_moves f below fs i.op c.0 v
      same (inr c) = store_moves f below fs i.op c.0 v

  -- a request
  abbrev asked_threads : Event → TurnKind → List SymbolicThread
  asked_threads e k = threads_after p e k (on_thread (after_event p m e k (slice_index_or w.words t unset) i) t w.threads)

  abbrev asked_calls : Event → TurnKind → List (List Symbolic)
  asked_calls e k = after_event p m e k (slice_index_or w.words t unset) i (thread_of w t).calls

  record Asked (e : Event) (k : TurnKind) (frames : List Frame) (size : ℕ) : Type 0 where
    grown : Grown w.threads (asked_threads e k) t (asked_calls e k)
    length_is : length (asked_calls e k) ≡ length frames
    size_is : length (asked_threads e k) ≡ size

  asked_by : (e : Event) (r : Request) (before fs : List Frame) (size : ℕ) → length (thread_of w t).calls ≡ length before → RequestMoves before r fs → Adds (length w.threads) r size
      → Asked e (kind_of r) fs size
  asked_by e (requests.Create at g v) before fs size c h k =
      let f : List (List Symbolic) → List (List Symbolic) = after_event p m e (kind_of (requests.Create at g v)) (slice_index_or w.words t unset) i in
      record {
        grown = grown_last p (slice_index e.operands 2) w.threads (on_thread f t w.threads) t (f (thread_of w t).calls) lt (on_length f) (grown_on f t w.threads lt);
        length_is = event_length p m e (slice_index_or w.words t unset) i (thread_of w t).calls before fs (requests.Create at g v) c h;
        size_is = (let n = last_length (on_thread f t w.threads) (fresh_thread p (slice_index e.operands 2)) in let o = on_length f in omega (arith, n, o, k));
      }
  asked_by e (requests.Exit v b) before fs size c h k = record {
    grown = grown_on (after_event p m e (kind_of (requests.Exit v b)) (slice_index_or w.words t unset) i) t w.threads lt;
    length_is = event_length p m e (slice_index_or w.words t unset) i (thread_of w t).calls before fs (requests.Exit v b) c h;
    size_is = on_length (after_event p m e (kind_of (requests.Exit v b)) (slice_index_or w.words t unset) i) ∙ sym k;
  }
  asked_by e r before fs size c h k = record {
    grown = grown_on (after_event p m e (kind_of r) (slice_index_or w.words t unset) i) t w.threads lt;
    length_is = event_length p m e (slice_index_or w.words t unset) i (thread_of w t).calls before fs r c h;
    size_is = on_length (after_event p m e (kind_of r) (slice_index_or w.words t unset) i) ∙ sym k;
  }

  pub lives_event : (e : Event) (r : Request) (before fs : List Frame) (size : ℕ) → length (thread_of w t).calls ≡ length before → e.kind ≡ kind_of r → RequestMoves before r fs
      → Adds (length w.threads) r size → Lives (told.Event e) fs size
  lives_event e r before fs size c q h k =
      let a : Asked e e.kind fs size = subst (λ (z : TurnKind). Asked e z fs size) (sym q) (asked_by e r before fs size c h k) in
      record { calls = asked_calls e e.kind; grown = a.grown; length_is = a.length_is; size_is = a.size_is }

  -- from the threads of the live step
  pub walked_by : (frames : List Frame) (size : ℕ) → Lives m.did.did.kind frames size → Walked w (after_step R every n m w) t frames es size
  walked_by frames size h =
      let x = extended w.threads live.threads t h.calls es lt h.grown in
      subst (λ (v : SymbolicState). Walked w v t frames es size) (sym step_is) (record {
        own_calls = ap (λ (l : List (List Symbolic)). length l) x.own_calls ∙ h.length_is;
        own_extents = x.own_extents;
        others = x.others;
        past = x.past;
        count = set_length live.threads t (record (slice_index_or live.threads t no_thread) { extents = es }) ∙ h.size_is;
      })
