-- A single live step changes what is known only of the cells that it may write.
use Rattle.std.proofs.Common.{◌≡◌, ℕ, ℤ, ◌-◌, ◌==◌, ◌&&◌, ◌||◌, zero, suc, not, Bool, true, false, List, [], ◌∷◌, ◌++◌, length, Option, Some, None, refl}
use Rattle.std.proofs.Common.{sym, ap, ◌∙◌, subst}
use Rattle.std.specs.Prelude.{nat_lt, slice_get, slice_set, slice_index_or, if◌then◌else◌}
use Rattle.std.specs.List.{list_any}
use Rattle.std.proofs.lemmas.Bool.{true≢false}
use Rattle.pg_num.specs.declared.layout.TheConstants.{MEMORY_BYTES}
use Rattle.pg_ir.specs.declared.ids.InstrId.{InstrId}
use Rattle.pg_ir.specs.declared.instr.Instr.{Instr}
use Rattle.pg_ir.specs.declared.instr.Op.{Op}
use Rattle.pg_ir.specs.declared.instr.Op.TheVariants as op
use Rattle.pg_ir.specs.declared.request.Request.TheVariants as requests
use Rattle.pg_ir.specs.Program.{NumberedProgram}
use Rattle.pg_run.proofs.Actions.{on_place_is, on_value_is}
use Rattle.pg_run.specs.MachineStep.{kind_told, number_in, operands_in}
use Rattle.pg_run.specs.Runs.{Takes}
use Rattle.pg_run.specs.State.{State, action_in, id_in, instr_of, next_of}
use Rattle.pg_run_thread.specs.declared.action.Action.{Action}
use Rattle.pg_run_thread.specs.declared.action.Action.TheVariants as actions
use Rattle.pg_run_thread.specs.declared.thread_memory.ThreadMemory.{ThreadMemory}
use Rattle.pg_run_thread.specs.LocalState.{Frame, LocalState, own_memory}
use Rattle.pg_run_thread.specs.Operands.{operand}
use Rattle.pg_run_thread.specs.Step.{bytes_of, frames_action, instr_action, next, op_action, total}
use Rattle.pg_run_thread.specs.Told.{id_of, place_in}
use Rattle.pg_run_trace.specs.declared.turn.TurnKind.{TurnKind}
use Rattle.pg_run_trace.specs.declared.turn.TurnKind.TheVariants as turns
use Rattle.pg_run_trace.specs.declared.step.Access.{Access}
use Rattle.pg_run_trace.specs.declared.step.Event.{Event}
use Rattle.pg_run_trace.specs.declared.step.Step.{Step}
use Rattle.pg_run_trace.specs.declared.step.StepKind.{StepKind}
use Rattle.pg_run_trace.specs.declared.step.StepKind.TheVariants as kinds
use Rattle.pg_run_trace.specs.declared.step.Write.{Write}
use Rattle.pg_run_trace.specs.Races.{is_in}
use Rattle.pg_run_trace.specs.Steps.{access_by, access_in, range_of, write_by}
use Rattle.pg_law_effects.specs.Effect.{answer_to}
use Rattle.pg_law_effects.specs.Views.{is_thread}
use Rattle.pg_slice_rules.specs.declared.decision.Decision.TheVariants.{Exact}
use Rattle.pg_slice_rules.specs.Extents.{is_live}
use Rattle.pg_slice_rules.specs.Freeable.{FreeRegion, bounds_of}
use Rattle.pg_slice_rules.specs.Known.{Reference, SymbolicState, Taken, after_step, bytes_by, bytes_freed, bytes_stored, live_after, live_by, region_of, thread_of, words_after}
use Rattle.pg_slice_rules.specs.Moments.{Moment, instr_in, thread_in}
use Rattle.pg_slice_rules.specs.Rules.{has_region}
use Rattle.pg_slice_rules.specs.SymbolicValues.{Symbolic, always, spoiled, stored}
use Rattle.pg_law_plan.specs.Units.{access_touch, cell_known, event_word_written, is_written_in, range_touched, word_written}
use Rattle.pg_law_plan.proofs.ThreadAtInstruction.{told_is}
use Rattle.pg_law_plan.proofs.LocalStepFits.{kind_inner}
use Rattle.pg_law_plan.proofs.KnownCalls.{IsInnerKind}

outside : {A : Type 0} (b : Bool) (x y : A) → b ≡ false → (if b then x else y) ≡ y
outside true x y h = absurd (true≢false h)
outside false x y h = refl

no_or : (b : Bool) → (b || false) ≡ false → b ≡ false
no_or true h = absurd (true≢false h)
no_or false h = refl

-- ---- words

word_other : (xs : List Symbolic) (t i : ℕ) (x z : Symbolic) → (t ≡ i → ⊥) → slice_index_or (slice_set xs t x) i z ≡ slice_index_or xs i z
word_other [] t i x z h = refl
word_other (y ∷ xs) zero zero x z h = absurd (h refl)
word_other (y ∷ xs) zero (suc i) x z h = refl
word_other (y ∷ xs) (suc t) zero x z h = refl
word_other (y ∷ xs) (suc t) (suc i) x z h = word_other xs t i x z (λ e. h (ap suc e))

word_older : (xs : List Symbolic) (i : ℕ) (x z : Symbolic) → (length xs ≡ i → ⊥) → slice_index_or (xs ++ x ∷ []) i z ≡ slice_index_or xs i z
word_older [] zero x z h = absurd (h refl)
word_older [] (suc i) x z h = refl
word_older (y ∷ xs) zero x z h = refl
word_older (y ∷ xs) (suc i) x z h = word_older xs i x z (λ e. h (ap suc e))

apart : (t i : ℕ) → (t == i) ≡ false → t ≡ i → ⊥
apart t i h e = true≢false (sym (Rattle.std.proofs.lemmas.Bool.eq-eqb t i e) ∙ h)

-- ---- what the trace tells of a step

-- a store writes
abbrev IsStoreWriting : Op → Access → Type 0
IsStoreWriting (op.Store w v at) a = a.writes ≡ true
IsStoreWriting o a = Unit {0}

abbrev IsWriting : Op → StepKind → Type 0
IsWriting o (kinds.Access a) = IsStoreWriting o a
IsWriting o k = Unit {0}

-- a create tells of a new thread
abbrev is_counted : ℕ → Event → TurnKind → Type 0
is_counted n e turns.Create = e.object ≡ n
is_counted n e k = Unit {0}

abbrev IsCounted : ℕ → StepKind → Type 0
IsCounted n (kinds.Event e) = is_counted n e e.kind
IsCounted n k = Unit {0}

abbrev IsNoStore : Op → Type 0
IsNoStore (op.Store w v at) = ⊥
IsNoStore o = Unit {0}

-- a load is no store
abbrev IsFor : Op → Action → Type 0
IsFor o (actions.Load r) = IsNoStore o
IsFor o action = Unit {0}

any_for : (o : Op) (action : Action) → IsNoStore o → IsFor o action
any_for o (actions.Load r) h = h
any_for o action h = tt

op_for : (p : NumberedProgram) (rs : List (Option ℕ)) (r : ThreadMemory) (halfway : Bool) (depth used block : ℕ) (o : Op) → IsFor o (op_action p r halfway rs depth used block o)
op_for p rs r halfway depth used block (op.Store w v at) =
    let Q = IsFor (op.Store w v at) in
    on_value_is Q (operand p rs v) _ (λ k. tt) (λ n e. on_value_is Q (operand p rs at) _ (λ k. tt) (λ a f. on_place_is Q a (bytes_of w) _ (λ k. tt) (λ q h. tt)))
op_for p rs r halfway depth used block o = any_for o (op_action p r halfway rs depth used block o) tt

frames_for : (p : NumberedProgram) (l : LocalState) (x : Instr) (b : Bool) (fs : List Frame) → slice_get p.instrs (place_in fs) ≡ Some x → IsFor x.op (frames_action p l b fs)
frames_for p l x b [] e = tt
frames_for p l x false (f ∷ fs) e = tt
frames_for p l x true (f ∷ fs) e = subst (λ (o : Option Instr). IsFor x.op (instr_action p l f fs o)) (sym e)
    (op_for p f.registers (own_memory l) l.halfway (length (f ∷ fs)) (total (f ∷ fs)) x.block.0 x.op)

next_for : (p : NumberedProgram) (s : State) (t : ℕ) (x : Instr) → slice_get p.instrs (instr_of s t) ≡ Some x → IsFor x.op (next_of p s t)
unfolding next_of next instr_of id_of
next_for p s t x e = go (slice_get s.locals t) e
  where
    go : (o : Option LocalState) → slice_get p.instrs (id_in o) ≡ Some x → IsFor x.op (action_in p o)
    go None e = tt
    go (Some l) e = frames_for p l x l.begun l.frames e

load_for : (o : Op) (a : Access) → IsNoStore o → IsStoreWriting o a
load_for (op.Store w v at) a h = absurd h
load_for o a h = tt

store_for : (o : Op) (a : Access) → a.writes ≡ true → IsStoreWriting o a
store_for (op.Store w v at) a h = h
store_for o a h = tt

inner_writing : (o : Op) (k : StepKind) → IsInnerKind k → IsWriting o k
inner_writing o (kinds.Access a) h = absurd h
inner_writing o k h = tt

inner_counted : (n : ℕ) (k : StepKind) → IsInnerKind k → IsCounted n k
inner_counted n (kinds.Event e) h = absurd h
inner_counted n k h = tt

told_writing : (gated : List InstrId) (p : NumberedProgram) (s : State) (t : ℕ) (ns : List ℕ) (a n : ℕ) (o : Op) (action : Action) → IsFor o action
    → IsWriting o (kind_told gated p s t ns a n action)
told_writing gated p s t ns a n o actions.Local h = inner_writing o (kind_told gated p s t ns a n actions.Local) (kind_inner gated p s t ns a n actions.Local tt)
told_writing gated p s t ns a n o (actions.Load r) h = load_for o _ h
told_writing gated p s t ns a n o (actions.Store r m) h = store_for o _ refl
told_writing gated p s t ns a n o action h = tt

told_counted : (gated : List InstrId) (p : NumberedProgram) (s : State) (t : ℕ) (ns : List ℕ) (a n : ℕ) (action : Action)
    → IsCounted (length s.sync.threads) (kind_told gated p s t ns a n action)
told_counted gated p s t ns a n actions.Local = inner_counted (length s.sync.threads) (kind_told gated p s t ns a n actions.Local) (kind_inner gated p s t ns a n actions.Local tt)
told_counted gated p s t ns a n (actions.Event (requests.Create r f m)) = refl
told_counted gated p s t ns a n (actions.Event r) = tt
told_counted gated p s t ns a n action = tt

-- ---- what a step changes

module _ (p : NumberedProgram) (d : Taken) (n : ℕ) (m : Moment) (region : Option FreeRegion) (s : SymbolicState) where
  -- a single step of this kind may write this cell
  abbrev pub may_write : StepKind → ℕ → Bool
  may_write k c = if nat_lt c MEMORY_BYTES then list_any (λ f. is_written_in f c) (access_touch d n (access_in k) ++ []) else is_thread (word_written (thread_in m) k) (c - MEMORY_BYTES)

  store_bytes : (a : Access) (c : ℕ) (x y w : Bool) (sh : Symbolic) (bytes : ℕ → Symbolic) → ((w && is_in (range_touched (y || x) a) c) || false) ≡ false → w ≡ true
      → (if x || y then stored (range_of a) sh bytes else spoiled (bounds_of a.pointer) (Exact n) bytes) c ≡ bytes c
  store_bytes a c x y false sh bytes h e = absurd (true≢false (sym e))
  store_bytes a c true true true sh bytes h e = outside (is_in (range_of a) c) _ _ (no_or (is_in (range_of a) c) h)
  store_bytes a c true false true sh bytes h e = outside (is_in (range_of a) c) _ _ (no_or (is_in (range_of a) c) h)
  store_bytes a c false true true sh bytes h e = outside (is_in (range_of a) c) _ _ (no_or (is_in (range_of a) c) h)
  store_bytes a c false false true sh bytes h e = outside (is_in (bounds_of a.pointer) c) _ _ (no_or (is_in (bounds_of a.pointer) c) h)

  access_bytes : (a : Access) (c : ℕ) (rs : List Symbolic) (o : Op) (bytes : ℕ → Symbolic) → IsStoreWriting o a
      → list_any (λ f. is_written_in f c) (access_touch d n (Some a) ++ []) ≡ false → bytes_stored p (d.exact n || a.event) n a rs o bytes c ≡ bytes c
  access_bytes a c rs (op.Store w v at) bytes e h = store_bytes a c (d.exact n) a.event a.writes _ bytes h e
  access_bytes a c rs o bytes e h = refl

  event_bytes : (e : Event) (c : ℕ) (w : Option Write) (words : List Symbolic) (bytes : ℕ → Symbolic) → list_any (λ f. is_written_in f c) (access_touch d n (access_by w) ++ []) ≡ false
      → bytes_by e w words bytes c ≡ bytes c
  event_bytes e c None words bytes h = refl
  event_bytes e c (Some w) words bytes h = outside (is_in (range_of (write_by w)) c) _ _ (no_or (is_in (range_of (write_by w)) c) h)

  event_words : (e : Event) (i : ℕ) (k : TurnKind) (rs : List Symbolic) (o : Op) (words : List Symbolic) → is_counted (length words) e k
      → is_thread (event_word_written (thread_in m) e k) i ≡ false →
      slice_index_or (words_after p (thread_in m) k rs o words) i (always 0) ≡ slice_index_or words i (always 0)
  event_words e i turns.Exit rs o words q h = word_other words (thread_in m) i _ _ (apart (thread_in m) i h)
  event_words e i turns.Create rs o words q h = word_older words i _ _ (λ z. apart e.object i h (q ∙ z))
  event_words e i k rs o words q h = refl

  freed_bytes : (b : Bool) (o : Option FreeRegion) (bytes : ℕ → Symbolic) → (has_region o && not b) ≡ false → bytes_freed b n o bytes ≡ bytes
  freed_bytes true o bytes h = refl
  freed_bytes false None bytes h = refl
  freed_bytes false (Some r) bytes h = absurd (true≢false h)

  cells_by : (z : SymbolicState) (k : StepKind) (c : ℕ) → may_write k c ≡ false
      → (list_any (λ f. is_written_in f c) (access_touch d n (access_in k) ++ []) ≡ false → z.bytes c ≡ s.bytes c) →
      (is_thread (word_written (thread_in m) k) (c - MEMORY_BYTES) ≡ false → slice_index_or z.words (c - MEMORY_BYTES) (always 0) ≡ slice_index_or s.words (c - MEMORY_BYTES) (always 0))
      → cell_known z c ≡ cell_known s c
  cells_by z k c h bytes words = go (nat_lt c MEMORY_BYTES) h
    where
      go : (b : Bool) → (if b then list_any (λ f. is_written_in f c) (access_touch d n (access_in k) ++ []) else is_thread (word_written (thread_in m) k) (c - MEMORY_BYTES)) ≡ false →
          (if b then z.bytes c else slice_index_or z.words (c - MEMORY_BYTES) (always 0)) ≡ (if b then s.bytes c else slice_index_or s.words (c - MEMORY_BYTES) (always 0))
      go true e = bytes e
      go false e = words e

  pub live_cells : (x : Instr) (k : StepKind) → IsWriting x.op k → IsCounted (length s.words) k → (has_region region && not (d.pinned n)) ≡ false → (c : ℕ) → may_write k c ≡ false
      → cell_known (live_by p d n m region x k s) c ≡ cell_known s c
  live_cells x (kinds.Access a) w q f c h = cells_by (live_by p d n m region x (kinds.Access a) s) (kinds.Access a) c h (access_bytes a c _ x.op s.bytes w) (λ z. refl)
  live_cells x (kinds.Event e) w q f c h = cells_by (live_by p d n m region x (kinds.Event e) s) (kinds.Event e) c h (event_bytes e c e.write s.words s.bytes)
      (event_words e (c - MEMORY_BYTES) e.kind _ x.op s.words q)
  live_cells x kinds.Other w q f c h = cells_by (live_by p d n m region x kinds.Other s) kinds.Other c h (λ z. ap (λ (g : ℕ → Symbolic). g c) (freed_bytes (d.pinned n) region s.bytes f))
      (λ z. refl)
  live_cells x (kinds.Branch b) w q f c h = cells_by (live_by p d n m region x (kinds.Branch b) s) (kinds.Branch b) c h
      (λ z. ap (λ (g : ℕ → Symbolic). g c) (freed_bytes (d.pinned n) region s.bytes f)) (λ z. refl)
  live_cells x (kinds.Allocation a b) w q f c h = cells_by (live_by p d n m region x (kinds.Allocation a b) s) (kinds.Allocation a b) c h
      (λ z. ap (λ (g : ℕ → Symbolic). g c) (freed_bytes (d.pinned n) region s.bytes f)) (λ z. refl)

module _ (R : Reference) (d : Taken) (n : ℕ) (m : Moment) (known : SymbolicState) (gated : List InstrId) (input : List ℤ) (s : State) (h : Takes gated R.program input s m.did.did) where
  abbrev region : Option FreeRegion
  region = region_of R.program R.regions m (instr_in R.program m)

  here : instr_in R.program m ≡ slice_get R.program.instrs (instr_of s (thread_in m))
  here = ap (λ (z : Step). slice_get R.program.instrs z.instr.0) (told_is gated R.program input s h.after (thread_in m) m.did.did h.is_step)

  abbrev ns : List ℕ
  ns = operands_in R.program (slice_get s.locals (thread_in m))

  abbrev answer : ℕ
  answer = answer_to input s (thread_in m) (next_of R.program s (thread_in m))

  abbrev number : ℕ
  number = number_in R.program (slice_get s.locals (thread_in m)) answer

  kind_is : m.did.did.kind ≡ kind_told gated R.program s (thread_in m) ns answer number (next_of R.program s (thread_in m))
  kind_is = ap (λ (z : Step). z.kind) (told_is gated R.program input s h.after (thread_in m) m.did.did h.is_step)

  -- a single live step changes no other cells
  pub cells_kept : is_live d.pinned (thread_of known (thread_in m)).extents ≡ true → (has_region region && not (d.pinned n)) ≡ false → length s.sync.threads ≡ length known.words →
      (c : ℕ) → may_write R.program d n m region known m.did.did.kind c ≡ false → cell_known (after_step R d n m known) c ≡ cell_known known c
  cells_kept live plain threads c w =
      ap (λ (b : Bool). cell_known (if b then live_after R.program d n m region (instr_in R.program m) known else known) c) live ∙ go (instr_in R.program m) refl
    where
      go : (o : Option Instr) → instr_in R.program m ≡ o → cell_known (live_after R.program d n m region o known) c ≡ cell_known known c
      go None e = refl
      go (Some x) e = live_cells R.program d n m region known x m.did.did.kind
          (subst (IsWriting x.op) (sym kind_is) (told_writing gated R.program s (thread_in m) ns answer number x.op (next_of R.program s (thread_in m))
          (next_for R.program s (thread_in m) x (sym here ∙ e))))
          (subst (λ (i : ℕ). IsCounted i m.did.did.kind) threads
          (subst (IsCounted (length s.sync.threads)) (sym kind_is) (told_counted gated R.program s (thread_in m) ns answer number (next_of R.program s (thread_in m))))) plain c w
