-- States that runs reach and that look alike are equal.
use Rattle.std.proofs.Common.{◌≡◌, ℕ, ℤ, ◌+◌, ◌-◌, ◌<◌, ◌≤◌, List, [], ◌∷◌, length, map, true, false, Some, refl, sym, ◌∙◌, ap, subst, arith, suc}
use Rattle.std.proofs.Common.{inl, inr, ◌⊎◌}
use Rattle.std.specs.Prelude.{nat_lt, slice_get, slice_index, if◌then◌else◌}
use Rattle.std.proofs.lemmas.Bool.Decides.{nat_tests}
use Rattle.std.proofs.lemmas.Bool.{cases_lt}
use Rattle.pg_num.specs.declared.layout.TheConstants.{MEMORY_BYTES}
use Rattle.pg_ir.specs.Program.{NumberedProgram}
use Rattle.pg_law_threads.specs.Effects.{Same}
use Rattle.pg_run_memory.specs.Memory.{Words, byte_at}
use Rattle.pg_run_memory.proofs.ReadsAndWrites.{same_bytes}
use Rattle.pg_run_objects.specs.Sync as sync
use Rattle.pg_run_thread.specs.LocalState.{LocalState}
use Rattle.pg_run.specs.State.{State}
use Rattle.pg_law_effects.specs.Effect.{effect_of}
use Rattle.pg_law_effects.specs.Reached.{IsReached}
use Rattle.pg_law_effects.specs.Views.{AreLikeFor, Objects, objects_of, start_of}
use Rattle.pg_law_effects.proofs.MemoryBytes.{past_end}
use Rattle.pg_law_effects.proofs.StepViews.{agree_like}
use Rattle.pg_law_runs.specs.Deeds.{Shared, Thread, seen}

get_same : {A : Type 0} (xs ys : List A) → length xs ≡ length ys → ((t : ℕ) → t < length xs → slice_get xs t ≡ slice_get ys t) → xs ≡ ys
get_same [] [] l h = refl
get_same [] (y ∷ ys) l h = absurd (omega (arith, l))
get_same (x ∷ xs) [] l h = absurd (omega (arith, l))
get_same (x ∷ xs) (y ∷ ys) l h =
    let first : Some x ≡ Some y = h 0 (omega arith) in
    let e : x ≡ y = cc in
    let rest : xs ≡ ys = get_same xs ys (omega (arith, l)) (λ t k. h (suc t) (omega (arith, k))) in cc

index_same : (xs ys : List ℕ) → length xs ≡ length ys → ((t : ℕ) → slice_index xs t ≡ slice_index ys t) → xs ≡ ys
index_same [] [] l h = refl
index_same [] (y ∷ ys) l h = absurd (omega (arith, l))
index_same (x ∷ xs) [] l h = absurd (omega (arith, l))
index_same (x ∷ xs) (y ∷ ys) l h =
    let first : x ≡ y = h 0 in
    let rest : xs ≡ ys = index_same xs ys (omega (arith, l)) (λ t. h (suc t)) in cc

map_length : (ls : List LocalState) → length (map start_of ls) ≡ length ls
map_length [] = refl
map_length (l ∷ ls) = ap suc (map_length ls)

state_of : List LocalState → Words → sync.Sync → List ℕ → List ℕ → ℕ → State
state_of ls m y ws bytes v = record { locals = ls; memory = m; sync = y; words = ws; printed = bytes; value = v }

made_of : (z w : State) → z.locals ≡ w.locals → z.memory ≡ w.memory → z.sync ≡ w.sync → z.words ≡ w.words → z.printed ≡ w.printed → z.value ≡ w.value → z ≡ w
unfolding state_of
made_of z w a b c d e f =
    ap (λ (l : List LocalState). state_of l z.memory z.sync z.words z.printed z.value) a
    ∙ ap (λ (m : Words). state_of w.locals m z.sync z.words z.printed z.value) b
    ∙ ap (λ (y : sync.Sync). state_of w.locals w.memory y z.words z.printed z.value) c
    ∙ ap (λ (l : List ℕ). state_of w.locals w.memory w.sync l z.printed z.value) d
    ∙ ap (λ (l : List ℕ). state_of w.locals w.memory w.sync w.words l z.value) e
    ∙ ap (λ (n : ℕ). state_of w.locals w.memory w.sync w.words w.printed n) f

module _ (p : NumberedProgram) (input : List ℤ) (z w : State) (m n : ℕ → ℕ) (hz : IsReached p z) (hw : IsReached p w) (same : Same (seen z m) (seen w n)) where
  objects : objects_of z ≡ objects_of w
  objects = ap (λ (q : Shared). q.objects) same.objects

  threads : length z.locals ≡ length w.locals
  threads = sym (map_length z.locals) ∙ ap (λ (o : Objects). length o.starts) objects ∙ map_length w.locals

  like : (t : ℕ) → AreLikeFor (effect_of p input z t) z w
  like t = record { local = ap (λ (l : Thread). l.local) (same.locals (effect_of p input z t).thread); cells = λ c r. same.cells c; objects = λ r. objects }

  thread_is : (t : ℕ) → (effect_of p input z t).thread ≡ t
  unfolding effect_of
  thread_is t = refl

  locals : z.locals ≡ w.locals
  locals = get_same z.locals w.locals threads (λ t l. subst (λ (u : ℕ). slice_get z.locals u ≡ slice_get w.locals u) (thread_is t) (agree_like p input z w t hz hw l (like t)).local)

  bytes : (b : ℕ) → byte_at z.memory b ≡ byte_at w.memory b
  bytes b = go (cases_lt b MEMORY_BYTES)
    where
      go : (b < MEMORY_BYTES) ⊎ (MEMORY_BYTES ≤ b) → byte_at z.memory b ≡ byte_at w.memory b
      go (inl l) =
          let c : nat_lt b MEMORY_BYTES ≡ true = grind (arith, nat_tests) in
          let k : (if nat_lt b MEMORY_BYTES then byte_at z.memory b else slice_index z.words (b - MEMORY_BYTES))
          ≡ (if nat_lt b MEMORY_BYTES then byte_at w.memory b else slice_index w.words (b - MEMORY_BYTES)) = same.cells b in rw c at k
      go (inr l) = past_end z.memory w.memory b hz.memory.granules hw.memory.granules l

  word : (t : ℕ) → slice_index z.words t ≡ slice_index w.words t
  word t =
      let c : nat_lt (MEMORY_BYTES + t) MEMORY_BYTES ≡ false = grind (arith, nat_tests) in
      let i : MEMORY_BYTES + t - MEMORY_BYTES ≡ t = omega arith in
      let k : (if nat_lt (MEMORY_BYTES + t) MEMORY_BYTES then byte_at z.memory (MEMORY_BYTES + t) else slice_index z.words (MEMORY_BYTES + t - MEMORY_BYTES))
      ≡ (if nat_lt (MEMORY_BYTES + t) MEMORY_BYTES then byte_at w.memory (MEMORY_BYTES + t) else slice_index w.words (MEMORY_BYTES + t - MEMORY_BYTES)) = same.cells (MEMORY_BYTES + t) in
      rw (c, i) at k

  words : z.words ≡ w.words
  words = index_same z.words w.words (hz.machine.words ∙ threads ∙ sym hw.machine.words) word

  pub same_state : z ≡ w
  same_state = made_of z w locals (same_bytes z.memory w.memory hz.memory hw.memory (λ at below. bytes at)) (ap (λ (o : Objects). o.sync) objects) words
      (ap (λ (q : Shared). q.printed) same.objects) (hz.value ∙ word 0 ∙ sym hw.value)
