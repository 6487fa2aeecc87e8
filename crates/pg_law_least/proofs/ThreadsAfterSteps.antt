-- The threads after a step: its own with new calls and extents, and those that are made.
use Rattle.std.proofs.Common.{◌≡◌, ℕ, ◌+◌, ◌-◌, ◌<◌, ◌≤◌, Bool, true, false, List, [], ◌∷◌, ◌++◌, length, Option, Some, None, refl, sym, ap, ◌∙◌}
use Rattle.std.proofs.Common.{arith, length-append}
use Rattle.std.specs.Prelude.{slice_index, slice_index_or, slice_set, if◌then◌else◌}
use Rattle.std.proofs.lemmas.List.{length-set, set-get_or, get_or-set_same, get_or-set_other, get_or_append_left, get_or-append_right}
use Rattle.pg_ir.specs.declared.instr.Instr.{Instr}
use Rattle.pg_ir.specs.Program.{NumberedProgram}
use Rattle.pg_run_trace.specs.declared.turn.TurnKind.{TurnKind}
use Rattle.pg_run_trace.specs.declared.turn.TurnKind.TheVariants as turns
use Rattle.pg_run_trace.specs.declared.step.StepKind.{StepKind}
use Rattle.pg_run_trace.specs.declared.step.StepKind.TheVariants as kinds
use Rattle.pg_run_trace.specs.declared.step.Event.{Event}
use Rattle.pg_slice_rules.specs.Moments.{Moment, instr_in, thread_in}
use Rattle.pg_slice_rules.specs.Freeable.{FreeRegion}
use Rattle.pg_slice_rules.specs.SymbolicValues.{Symbolic}
use Rattle.pg_slice_rules.specs.Extents.{Extent, is_live, open_after}
use Rattle.pg_slice_rules.specs.Known.{Reference, SymbolicState, Taken, SymbolicThread, after_step, edge_of, fresh_thread, live_after, no_thread, region_of, thread_of, threads_after, with_extents}
use Rattle.pg_law_least.proofs.LiveSteps.{calls_by, known_bytes, known_words}

-- ---- the parts after a step

abbrev pub calls_after : NumberedProgram → Taken → ℕ → Moment → Option FreeRegion → Option Instr → SymbolicState → List (List Symbolic) → List (List Symbolic)
calls_after p d n m region None s calls = calls
calls_after p d n m region (Some x) s calls = calls_by p d n m region x m.did.did.kind s calls

abbrev pub bytes_after : NumberedProgram → Taken → ℕ → Moment → Option FreeRegion → Option Instr → SymbolicState → ℕ → Symbolic
bytes_after p d n m region None s = s.bytes
bytes_after p d n m region (Some x) s = known_bytes p d n m region x m.did.did.kind s

abbrev pub words_behind : NumberedProgram → Moment → Option Instr → SymbolicState → List Symbolic
words_behind p m None s = s.words
words_behind p m (Some x) s = known_words p m x m.did.did.kind s

-- the thread that a create makes
abbrev pub made_by : NumberedProgram → Event → TurnKind → List SymbolicThread
made_by p e turns.Create = fresh_thread p (slice_index e.operands 2) ∷ []
made_by p e kind = []

abbrev pub made_in : NumberedProgram → StepKind → List SymbolicThread
made_in p (kinds.Event e) = made_by p e e.kind
made_in p k = []

abbrev pub made_at : NumberedProgram → Moment → Option Instr → List SymbolicThread
made_at p m None = []
made_at p m (Some x) = made_in p m.did.did.kind

-- the threads with new calls of one
abbrev pub with_calls : ℕ → List (List Symbolic) → List SymbolicThread → List SymbolicThread
with_calls t calls threads = slice_set threads t (record (slice_index_or threads t no_thread) { calls = calls })

end_nil : {A : Type 0} (xs : List A) → xs ≡ xs ++ []
end_nil [] = refl
end_nil (x ∷ xs) = ap (λ ys. x ∷ ys) (end_nil xs)

made_threads : (p : NumberedProgram) (e : Event) (kind : TurnKind) (threads : List SymbolicThread) → threads_after p e kind threads ≡ threads ++ made_by p e kind
made_threads p e turns.Create threads = refl
made_threads p e _ threads = end_nil threads

same_thread : (t : ℕ) (threads : List SymbolicThread) → threads ≡ with_calls t (slice_index_or threads t no_thread).calls threads
same_thread t threads = sym (set-get_or threads t no_thread)

module _ (p : NumberedProgram) (d : Taken) (n : ℕ) (m : Moment) (region : Option FreeRegion) (s : SymbolicState) where
  by_kind : (x : Instr) (k : StepKind) → m.did.did.kind ≡ k →
      (live_after p d n m region (Some x) s).threads ≡ with_calls (thread_in m) (calls_by p d n m region x k s (thread_of s (thread_in m)).calls) s.threads ++ made_in p k
  by_kind x (kinds.Event e) q = rw q (made_threads p e e.kind _)
  by_kind x k q = rw q (end_nil _)

  live_threads : (i : Option Instr) →
      (live_after p d n m region i s).threads ≡ with_calls (thread_in m) (calls_after p d n m region i s (thread_of s (thread_in m)).calls) s.threads ++ made_at p m i
  live_threads None = same_thread (thread_in m) s.threads ∙ end_nil _
  live_threads (Some x) = by_kind x m.did.did.kind refl

  bytes_kind : (x : Instr) (k : StepKind) → m.did.did.kind ≡ k → (live_after p d n m region (Some x) s).bytes ≡ known_bytes p d n m region x k s
  bytes_kind x (kinds.Event e) q = rw q refl
  bytes_kind x k q = rw q refl

  live_bytes : (i : Option Instr) → (live_after p d n m region i s).bytes ≡ bytes_after p d n m region i s
  live_bytes None = refl
  live_bytes (Some x) = bytes_kind x m.did.did.kind refl

  words_kind : (x : Instr) (k : StepKind) → m.did.did.kind ≡ k → (live_after p d n m region (Some x) s).words ≡ known_words p m x k s
  words_kind x (kinds.Event e) q = rw q refl
  words_kind x k q = rw q refl

  live_words : (i : Option Instr) → (live_after p d n m region i s).words ≡ words_behind p m i s
  live_words None = refl
  live_words (Some x) = words_kind x m.did.did.kind refl

  -- where the step may be live or not
  abbrev pub own_calls : Bool → Option Instr → List (List Symbolic)
  own_calls b i = if b then calls_after p d n m region i s (thread_of s (thread_in m)).calls else (thread_of s (thread_in m)).calls

  abbrev pub own_bytes : Bool → Option Instr → ℕ → Symbolic
  own_bytes b i = if b then bytes_after p d n m region i s else s.bytes

  abbrev pub own_words : Bool → Option Instr → List Symbolic
  own_words b i = if b then words_behind p m i s else s.words

  abbrev pub own_made : Bool → Option Instr → List SymbolicThread
  own_made b i = if b then made_at p m i else []

  abbrev state_by : Bool → Option Instr → SymbolicState
  state_by b i = if b then live_after p d n m region i s else s

  pub state_threads : (b : Bool) (i : Option Instr) → (state_by b i).threads ≡ with_calls (thread_in m) (own_calls b i) s.threads ++ own_made b i
  state_threads true i = live_threads i
  state_threads false i = same_thread (thread_in m) s.threads ∙ end_nil _

  pub state_bytes : (b : Bool) (i : Option Instr) → (state_by b i).bytes ≡ own_bytes b i
  state_bytes true i = live_bytes i
  state_bytes false i = refl

  pub state_words : (b : Bool) (i : Option Instr) → (state_by b i).words ≡ own_words b i
  state_words true i = live_words i
  state_words false i = refl

-- ---- threads with new calls and extents of one, and with more behind

module _ (t : ℕ) (calls : List (List Symbolic)) (es : List Extent) (xs made : List SymbolicThread) where
  abbrev renewed : List SymbolicThread
  renewed = with_calls t calls xs ++ made

  renewed_long : length renewed ≡ length xs + length made
  renewed_long = length-append (with_calls t calls xs) made ∙ ap (λ (k : ℕ). k + length made) (length-set xs t (record (slice_index_or xs t no_thread) { calls = calls }))

  with_long : length (with_extents t es renewed) ≡ length xs + length made
  with_long = length-set renewed t (record (slice_index_or renewed t no_thread) { extents = es }) ∙ renewed_long

  with_own : t < length xs → slice_index_or (with_extents t es renewed) t no_thread ≡ record { calls = calls; extents = es }
  with_own l =
      let a : slice_index_or renewed t no_thread ≡ slice_index_or (with_calls t calls xs) t no_thread =
      get_or_append_left (with_calls t calls xs) made no_thread t (let i = length-set xs t (record (slice_index_or xs t no_thread) { calls = calls }) in omega (arith, i, l)) in
      let b : slice_index_or (with_calls t calls xs) t no_thread ≡ record (slice_index_or xs t no_thread) { calls = calls } =
      get_or-set_same xs t (record (slice_index_or xs t no_thread) { calls = calls }) no_thread l in
      get_or-set_same renewed t (record (slice_index_or renewed t no_thread) { extents = es }) no_thread (omega (arith, renewed_long, l))
      ∙ ap (λ (h : SymbolicThread). record h { extents = es }) (a ∙ b)

  with_other : (u : ℕ) → (u ≡ t → ⊥) → u < length xs → slice_index_or (with_extents t es renewed) u no_thread ≡ slice_index_or xs u no_thread
  with_other u o l =
      get_or-set_other renewed t u (record (slice_index_or renewed t no_thread) { extents = es }) no_thread o
      ∙ get_or_append_left (with_calls t calls xs) made no_thread u (let i = length-set xs t (record (slice_index_or xs t no_thread) { calls = calls }) in omega (arith, i, l))
      ∙ get_or-set_other xs t u (record (slice_index_or xs t no_thread) { calls = calls }) no_thread o

  with_made : (u : ℕ) → (u ≡ t → ⊥) → length xs ≤ u → slice_index_or (with_extents t es renewed) u no_thread ≡ slice_index_or made (u - length xs) no_thread
  with_made u o l =
      get_or-set_other renewed t u (record (slice_index_or renewed t no_thread) { extents = es }) no_thread o
      ∙ get_or-append_right (with_calls t calls xs) made (length xs) u no_thread (length-set xs t (record (slice_index_or xs t no_thread) { calls = calls })) l

-- ---- after a whole step

module _ (R : Reference) (d : Taken) (n : ℕ) (m : Moment) (s : SymbolicState) where
  abbrev pub own_region : Option FreeRegion
  own_region = region_of R.program R.regions m (instr_in R.program m)

  abbrev pub own_extents : List Extent
  own_extents = (thread_of s (thread_in m)).extents

  abbrev pub extents_after : List Extent
  extents_after = open_after n (length m.calls) own_region (edge_of R.program m m.did.did.kind) own_extents

  abbrev pub live_at : Bool
  live_at = is_live d.pinned own_extents

  abbrev pub next_calls : List (List Symbolic)
  next_calls = own_calls R.program d n m own_region s live_at (instr_in R.program m)

  abbrev pub next_bytes : ℕ → Symbolic
  next_bytes = own_bytes R.program d n m own_region s live_at (instr_in R.program m)

  abbrev pub next_words : List Symbolic
  next_words = own_words R.program d n m own_region s live_at (instr_in R.program m)

  abbrev pub next_made : List SymbolicThread
  next_made = own_made R.program d n m own_region s live_at (instr_in R.program m)

  pub bytes_next : (after_step R d n m s).bytes ≡ next_bytes
  bytes_next = state_bytes R.program d n m own_region s live_at (instr_in R.program m)

  pub words_next : (after_step R d n m s).words ≡ next_words
  words_next = state_words R.program d n m own_region s live_at (instr_in R.program m)

  pub threads_next : (after_step R d n m s).threads ≡ with_extents (thread_in m) extents_after (with_calls (thread_in m) next_calls s.threads ++ next_made)
  threads_next = ap (with_extents (thread_in m) extents_after) (state_threads R.program d n m own_region s live_at (instr_in R.program m))

  pub length_next : length (after_step R d n m s).threads ≡ length s.threads + length next_made
  length_next = ap length threads_next ∙ with_long (thread_in m) next_calls extents_after s.threads next_made

  pub thread_own : thread_in m < length s.threads → thread_of (after_step R d n m s) (thread_in m) ≡ record { calls = next_calls; extents = extents_after }
  thread_own l = ap (λ (xs : List SymbolicThread). slice_index_or xs (thread_in m) no_thread) threads_next ∙ with_own (thread_in m) next_calls extents_after s.threads next_made l

  pub thread_other : (u : ℕ) → (u ≡ thread_in m → ⊥) → u < length s.threads → thread_of (after_step R d n m s) u ≡ thread_of s u
  thread_other u o l = ap (λ (xs : List SymbolicThread). slice_index_or xs u no_thread) threads_next ∙ with_other (thread_in m) next_calls extents_after s.threads next_made u o l

  pub thread_made : (u : ℕ) → (u ≡ thread_in m → ⊥) → length s.threads ≤ u → thread_of (after_step R d n m s) u ≡ slice_index_or next_made (u - length s.threads) no_thread
  thread_made u o l = ap (λ (xs : List SymbolicThread). slice_index_or xs u no_thread) threads_next ∙ with_made (thread_in m) next_calls extents_after s.threads next_made u o l
