-- What an action reads and writes of cells, as its effect on a state has it.
use Rattle.std.proofs.Common.{◌≡◌, ℕ, zero, suc, ◌+◌, ◌-◌, ◌<◌, ◌≤◌, length, Bool, true, false, Option, Some, None, refl, sym, ◌∙◌, ap, arith}
use Rattle.std.specs.Prelude.{◌==◌, nat_le, nat_lt, slice_index, if◌then◌else◌}
use Rattle.std.proofs.lemmas.Bool.Decides.{nat_tests}
use Rattle.pg_num.specs.Places.{ByteRange}
use Rattle.pg_num.specs.declared.layout.TheConstants.{MEMORY_BYTES}
use Rattle.pg_ir.specs.declared.request.Request.TheVariants as requests
use Rattle.pg_ir.specs.Program.{NumberedProgram}
use Rattle.pg_run_memory.specs.Bytes.{number_of}
use Rattle.pg_run_memory.specs.Memory as memory
use Rattle.pg_run_memory.specs.Memory.{byte_at}
use Rattle.pg_run_thread.specs.declared.action.Action.{Action}
use Rattle.pg_run_thread.specs.declared.action.Action.TheVariants as actions
use Rattle.pg_run_thread.specs.LocalState.{fresh}
use Rattle.pg_run.specs.State.{State}
use Rattle.pg_law_runs.specs.pg_law_effects.Effect.{request_effect, write_of}
use Rattle.pg_law_runs.specs.pg_law_effects.Meets.{is_in}
use Rattle.pg_law_runs.specs.pg_law_effects.Views.{cell_at, word_in as effect_word}
use Rattle.pg_law_runs.proofs.of_pg_law_effects.ReachedStates.{fresh_number}
use Rattle.pg_law_course.specs.Steps.{number_in, word_by, word_in, write_by}

-- ---- numbers and words

pub number_same : (f g : ℕ → ℕ) (at n : ℕ) → ((b : ℕ) → at ≤ b → b < at + n → f b ≡ g b) → number_of f at n ≡ number_of g at n
unfolding number_of
number_same f g at zero h = refl
number_same f g at (suc n) h =
    let a : f at ≡ g at = h at (omega arith) (omega arith) in
    let b : number_of f (suc at) n ≡ number_of g (suc at) n = number_same f g (suc at) n (λ b l m. h b (omega (arith, l)) (omega (arith, m))) in
    rw (a, b) refl

-- the thread that a create makes has the next number
abbrev pub Makes : State → ℕ → Action → Type 0
Makes s made (actions.Event (requests.Create q f n)) = made ≡ length s.locals
Makes s made action = Unit {0}

module _ (s : State) (cells : ℕ → ℕ) (same : (c : ℕ) → cells c ≡ cell_at s c) where
  pub word_same : (t : ℕ) → word_in cells t ≡ slice_index s.words t
  word_same t =
      let above : nat_lt (MEMORY_BYTES + t) MEMORY_BYTES ≡ false = above_is MEMORY_BYTES t in
      let at : MEMORY_BYTES + t - MEMORY_BYTES ≡ t = behind_is MEMORY_BYTES t in
      same (MEMORY_BYTES + t) ∙ ap (λ (b : Bool). if b then byte_at s.memory (MEMORY_BYTES + t) else slice_index s.words (MEMORY_BYTES + t - MEMORY_BYTES)) above ∙ ap (slice_index s.words) at
    where
      above_is : (m t : ℕ) → nat_lt (m + t) m ≡ false
      above_is m t = grind (arith, nat_tests)

      behind_is : (m t : ℕ) → m + t - m ≡ t
      behind_is m t = omega arith

  -- a range of memory reads the number of its cells
  pub read_same : (q : ByteRange) → ((b : ℕ) → is_in q b ≡ true → b < MEMORY_BYTES) → memory.read s.memory q ≡ number_in cells q
  unfolding memory.read
  read_same q h = number_same (byte_at s.memory) cells q.start q.bytes (λ b l m.
      let below : nat_lt b MEMORY_BYTES ≡ true = below_is MEMORY_BYTES b (h b (in_range b l m)) in
      sym (same b ∙ ap (λ (c : Bool). if c then byte_at s.memory b else slice_index s.words (b - MEMORY_BYTES)) below))
    where
      below_is : (m b : ℕ) → b < m → nat_lt b m ≡ true
      below_is m b l = grind (arith, nat_tests)

      in_range : (b : ℕ) → q.start ≤ b → b < q.start + q.bytes → is_in q b ≡ true
      in_range b l m = let x : nat_le q.start b ≡ true = grind (arith, nat_tests) in let y : nat_lt b (q.start + q.bytes) ≡ true = grind (arith, nat_tests) in rw (x, y) refl

  -- ---- writes

  pub write_same : (made : ℕ) (action : Action) → Makes s made action → write_of s action ≡ write_by cells made action
  write_same made (actions.Store q n) m = refl
  write_same made (actions.Event (requests.Create q f n)) m = ap (λ (v : ℕ). Some (record { at = q; number = v })) (sym m)
  write_same made (actions.Event (requests.Join u (Some q))) m = ap (λ (v : ℕ). Some (record { at = q; number = v })) (sym (word_same u))
  write_same made (actions.Event (requests.Join u None)) m = refl
  write_same made (actions.Event r) m = refl
  write_same made action m = refl

  no_word : (b : Bool) → Path (Option ℕ) (if b then None else None) None
  no_word true = refl
  no_word false = refl

  pub word_left_same : (p : NumberedProgram) (t made : ℕ) (action : Action) → Makes s made action → (u : ℕ) → effect_word t (request_effect p s t action) u ≡ word_by t made action u
  word_left_same p t made (actions.Event (requests.Create q f n)) m u =
      let i : (fresh p (length s.locals) f).thread ≡ made = fresh_number p (length s.locals) f ∙ sym m in
      ap (λ (o : Option ℕ). if (fresh p (length s.locals) f).thread == u then Some n else o) (no_word (t == u)) ∙ ap (λ (i : ℕ). if i == u then Some n else None) i
  word_left_same p t made (actions.Event (requests.Exit n is_return)) m u = refl
  word_left_same p t made (actions.Event r) m u = no_word (t == u)
  word_left_same p t made action m u = refl
