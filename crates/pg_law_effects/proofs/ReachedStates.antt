-- Each state that a run reaches is one of the machine, with memory, words and threads as they should be.
use Rattle.std.proofs.Common.{◌≡◌, ℕ, ℤ, zero, suc, ◌+◌, ◌*◌, ◌%◌, ◌-◌, ◌<◌, ◌≤◌, ◌^◌, List, [], ◌∷◌, ◌++◌, length, Bool, true, false}
use Rattle.std.proofs.Common.{Option, Some, None, Result, Ok, Err, pos, negsuc, refl, sym, ◌∙◌, ap, subst, arith, lit<}
use Rattle.std.specs.Prelude.{◌==◌, ◌&&◌, nat_le, nat_lt, IfSome, slice_get, slice_set, slice_index, if◌then◌else◌}
use Rattle.std.specs.List.{All}
use Rattle.std.proofs.lemmas.Bool.Decides.{nat_tests}
use Rattle.std.proofs.lemmas.Option.{slice_get_within}
use Rattle.std.proofs.lemmas.Nat.{pow-add, mul-add-lt}
use Rattle.pg_num.specs.Numbers.{modulus, residue}
use Rattle.pg_num.specs.declared.width.Width.{Width}
use Rattle.pg_num.specs.declared.width.Width.TheVariants.{W1, W8, W16, W32, W64}
use Rattle.pg_num.specs.Places.{ByteRange}
use Rattle.pg_ir.specs.declared.function.GlobalInfo.{GlobalInfo}
use Rattle.pg_ir.specs.declared.ids.InstrId.{InstrId}
use Rattle.pg_ir.specs.declared.instr.Instr.{Instr}
use Rattle.pg_ir.specs.declared.request.Request.{Request}
use Rattle.pg_ir.specs.declared.request.Request.TheVariants as requests
use Rattle.pg_ir.specs.declared.request.TrapName.{TrapName}
use Rattle.pg_ir.specs.Program.{NumberedProgram}
use Rattle.pg_ir.specs.WellFormed.{IsProgram}
use Rattle.pg_run.specs.pg_run_memory.Bytes.{byte_of, number_of, with_bytes}
use Rattle.pg_run.specs.pg_run_memory.Initial.{initial_byte, with_bytes_at}
use Rattle.pg_run.specs.pg_run_memory.Initial as first
use Rattle.pg_run.specs.pg_run_memory.Memory.{Words, IsMemory, byte_at, memory_of, read, written}
use Rattle.pg_run.proofs.of_pg_run_memory.ReadsAndWrites.{memory_of_memory}
use Rattle.pg_run.specs.pg_run_objects.declared.reply.Reply.{Reply}
use Rattle.pg_run.specs.pg_run_objects.Objects.{object_at, is_free}
use Rattle.pg_run.specs.pg_run_objects.Sync as sync
use Rattle.pg_run_thread.specs.declared.action.Action.{Action}
use Rattle.pg_run_thread.specs.declared.action.Action.TheVariants as actions
use Rattle.pg_run_thread.specs.LocalState.{Frame, LocalState, fresh}
use Rattle.pg_run_thread.specs.Step.{after, frames_after, instr_after, bytes_of, next}
use Rattle.pg_run_thread.specs.States.{IsOf, CanStep}
use Rattle.pg_run.specs.pg_run_trace.declared.step.Step.{Step}
use Rattle.pg_run.specs.Machine.{IsMachine}
use Rattle.pg_run.specs.State.{State, initial, next_of}
use Rattle.pg_run.specs.MachineStep.{Answered, Did, answer_of, answered, local_after, may_act, ready, settled, step, taken}
use Rattle.pg_num.specs.Inputs.{input_at, number_or_zero}
use Rattle.pg_run.specs.Runs.{IsRun}
use Rattle.pg_run.proofs.StepsBegin.{next_is, ready_acts, ready_made, same_local, there}
use Rattle.pg_run.proofs.StatesAfterAnswers.{stands}
use Rattle.pg_run.proofs.StepsKeepStates.{all_at}
use Rattle.pg_run.proofs.PhaseActions.{begun_after}
use Rattle.pg_run.proofs.Steps.{initial_is}
use Rattle.pg_run.proofs.Threads.{last_other, last_own, set_other, set_own}
use Rattle.pg_law_effects.specs.Effect.{Effect, RequestEffect, Write, answer_to, effect, effect_by, effect_of, local_set, locals_with, memory_with, own_after, request_effect, value_with}
use Rattle.pg_law_effects.specs.Effect.{words_with, write_of}
use Rattle.pg_law_effects.specs.Reached.{HoldBytes, IsReached, IsThread}
use Rattle.pg_law_effects.proofs.StepsApart.{left_by}
use Rattle.pg_law_effects.proofs.MemoryBytes.{byte_at_small, byte_small, with_small}
use Rattle.pg_law_effects.proofs.StepEffects.{answered_is}
use Rattle.pg_law_effects.proofs.ThreadLimits.{did_allowed, IsAllowed}
use Rattle.pg_law_effects.proofs.SmallActions.{IsSmall, action_small}

-- ---- answers

number_small : (f : ℕ → ℕ) (at n : ℕ) → ((i : ℕ) → f i < 2 ^ 8) → number_of f at n < 2 ^ (8 * n)
unfolding number_of
number_small f at zero h = omega arith
number_small f at (suc n) h =
    let e : 8 * suc n ≡ 8 + 8 * n = omega arith in
    rw (e, pow-add 2 8 (8 * n)) (mul-add-lt (number_of f (suc at) n) (2 ^ 8) (f at) (2 ^ (8 * n)) (number_small f (suc at) n h) (h at))

within_bytes : (w : Width) (n : ℕ) → n < 2 ^ (8 * bytes_of w) → n < 2 ^ 64
within_bytes W1 n h = let k : n < 2 ^ 8 = h in let z : 2 ^ 8 < 2 ^ 64 = lit< tt in omega (arith, k, z)
within_bytes W8 n h = let k : n < 2 ^ 8 = h in let z : 2 ^ 8 < 2 ^ 64 = lit< tt in omega (arith, k, z)
within_bytes W16 n h = let k : n < 2 ^ 16 = h in let z : 2 ^ 16 < 2 ^ 64 = lit< tt in omega (arith, k, z)
within_bytes W32 n h = let k : n < 2 ^ 32 = h in let z : 2 ^ 32 < 2 ^ 64 = lit< tt in omega (arith, k, z)
within_bytes W64 n h = h

read_small : (m : Words) (r : ByteRange) (w : Width) → r.bytes ≡ bytes_of w → read m r < 2 ^ 64
unfolding read
read_small m r w e = within_bytes w (number_of (byte_at m) r.start r.bytes)
    (subst (λ (n : ℕ). number_of (byte_at m) r.start r.bytes < 2 ^ (8 * n)) e (number_small (byte_at m) r.start r.bytes (byte_at_small m)))

residue_small : (n : ℤ) → residue W64 n < 2 ^ 64
residue_small (pos n) = omega arith
residue_small (negsuc n) = omega arith

zero_small : 0 < 2 ^ 64
zero_small = lit< tt

input_small : (input : List ℤ) (i : ℤ) → input_at input i < 2 ^ 64
input_small input (pos i) = go (slice_get input i)
  where
    go : (o : Option ℤ) → number_or_zero o < 2 ^ 64
    go None = zero_small
    go (Some n) = residue_small n
input_small input (negsuc i) = zero_small

choice_small : (y : sync.Sync) (z : sync.Sync) (a b : Reply) (c : Bool) → a.value < 2 ^ 64 → b.value < 2 ^ 64 → (if◌then◌else◌ {A = sync.Sync × Reply} c (y, a) (z, b)).1.value < 2 ^ 64
choice_small y z a b true h k = h
choice_small y z a b false h k = k

number_choice : (c : Bool) (m n : ℕ) → m < 2 ^ 64 → n < 2 ^ 64 → (if c then m else n) < 2 ^ 64
number_choice true m n h k = h
number_choice false m n h k = k

reply_small : (y : sync.Sync) (t : ℕ) (r : Request) → (sync.done y t r).1.value < 2 ^ 64
unfolding sync.done
reply_small y t (requests.Trylock o) = choice_small _ _ _ _ (is_free (object_at o y.objects)) zero_small (lit< tt)
reply_small y t (requests.BarrierInit o n) = choice_small _ _ _ _ (n == 0) (lit< tt) zero_small
reply_small y t (requests.Leave o) = number_choice (sync.was_last (sync.stage_of y t)) _ 0 (lit< tt) zero_small
reply_small y t (requests.Putchar n) = omega arith
reply_small y t r = zero_small

event_small : (p : NumberedProgram) (s : State) (t : ℕ) (reply : Reply) (r : Request) → IsReached p s → reply.value < 2 ^ 64 → answer_of s t reply r < 2 ^ 64
event_small p s t reply requests.Start h k = h.words t
event_small p s t reply r h k = k

answer_small : (p : NumberedProgram) (input : List ℤ) (s : State) (t : ℕ) (action : Action) → IsReached p s → length input < 2 ^ 64 → IsSmall action → answer_to input s t action < 2 ^ 64
answer_small p input s t actions.Local h i k = zero_small
answer_small p input s t (actions.In n) h i k = input_small input n
answer_small p input s t actions.InLen h i k = i
answer_small p input s t (actions.Load r) h i k = read_small s.memory r k.0 k.1
answer_small p input s t (actions.Store r n) h i k = zero_small
answer_small p input s t (actions.Event r) h i k = event_small p s t (sync.done s.sync t r).1 r h (reply_small s.sync t r)
answer_small p input s t (actions.Trap name) h i k = zero_small
answer_small p input s t actions.Ended h i k = zero_small

-- ---- the action

pub present : (s : State) (t : ℕ) → t < length s.locals → (l : LocalState) × (slice_get s.locals t ≡ Some l)
present s t h = there s.locals t h

small_next : (p : NumberedProgram) (s : State) (t : ℕ) → IsProgram p → IsReached p s → t < length s.locals → IsSmall (next_of p s t)
small_next p s t program h l =
    let x = present s t l in
    subst IsSmall (sym (next_is p s t x.0 x.1)) (action_small p x.0 program (all_at (IsOf p) s.locals t x.0 x.1 h.machine.of))

pub can_by : (s : State) (t : ℕ) (action : Action) → IsAllowed s t action → may_act s t action ≡ true → CanStep action
can_by s t actions.Local a m = tt
can_by s t (actions.In i) a m = tt
can_by s t actions.InLen a m = tt
can_by s t (actions.Load r) a m = tt
can_by s t (actions.Store r n) a m = tt
can_by s t (actions.Event r) a m = tt
can_by s t (actions.Trap name) a m = absurd a
can_by s t actions.Ended a m = absurd cc

-- ---- the machine

machine_kept : (gated : List InstrId) (p : NumberedProgram) (input : List ℤ) (s z : State) (t : ℕ) (x : Step) → IsProgram p → length input < 2 ^ 64 → IsReached p s
    → ready p s t ≡ true → step gated p input s t ≡ Did x z → IsMachine p z
unfolding step
machine_kept gated p input s z t x program i h g e = go (answered p input s t (next_of p s t)) refl e
  where
    left_in : State → Rattle.pg_run.specs.MachineStep.Stepped → State
    left_in d (Did y w) = w
    left_in d (Rattle.pg_run.specs.MachineStep.Trapped name id) = d

    go : (o : Answered) → answered p input s t (next_of p s t) ≡ o → settled gated p s t (taken p s t o) ≡ Did x z → IsMachine p z
    go (w, Err name) k q = absurd cc
    go (w, Ok a) k q =
        let small : a < 2 ^ 64 = subst (λ (n : ℕ). n < 2 ^ 64) (sym (answered_is p input s w t a (next_of p s t) k).1)
        (answer_small p input s t (next_of p s t) h i (small_next p s t program h (ready_made p s t g))) in
        let m = stands p input s w t a program h.machine g small k in
        let own : slice_get w.locals t ≡ slice_get s.locals t = ap (λ (o : Answered). slice_get o.0.locals t) (sym k) ∙ same_local p input s t t (next_of p s t) (ready_made p s t g) in
        let same : record w { locals = local_after p w.locals t a (slice_get s.locals t) } ≡ z = ap (left_in z) q in
        subst (IsMachine p) same (subst (λ (o : Option LocalState). IsMachine p (record w { locals = local_after p w.locals t a o })) own m)

-- ---- memory

write_memory : (m : Words) (w : Option Write) → IsMemory m → IsMemory (memory_with w m)
unfolding written
write_memory m None h = h
write_memory m (Some w) h = memory_of_memory (with_bytes (byte_at m) w.at w.number) (λ i. with_small (byte_at m) w.at w.number i (byte_at_small m i))

-- ---- words

set_small : (ws : List ℕ) (t n : ℕ) → n < 2 ^ 64 → ((u : ℕ) → slice_index ws u < 2 ^ 64) → (u : ℕ) → slice_index (slice_set ws t n) u < 2 ^ 64
set_small [] t n k h u = h u
set_small (w ∷ ws) zero n k h zero = k
set_small (w ∷ ws) zero n k h (suc u) = h (suc u)
set_small (w ∷ ws) (suc t) n k h zero = h zero
set_small (w ∷ ws) (suc t) n k h (suc u) = set_small ws t n k (λ v. h (suc v)) u

more_small : (ws : List ℕ) (n : ℕ) → n < 2 ^ 64 → ((u : ℕ) → slice_index ws u < 2 ^ 64) → (u : ℕ) → slice_index (ws ++ n ∷ []) u < 2 ^ 64
more_small [] n k h zero = k
more_small [] n k h (suc u) = h (suc u)
more_small (w ∷ ws) n k h zero = h zero
more_small (w ∷ ws) n k h (suc u) = more_small ws n k (λ v. h (suc v)) u

words_kept : (p : NumberedProgram) (s : State) (t : ℕ) (action : Action) → IsSmall action → ((u : ℕ) → slice_index s.words u < 2 ^ 64) → (u : ℕ)
    → slice_index (words_with t (request_effect p s t action) s.words) u < 2 ^ 64
words_kept p s t (actions.Event (requests.Exit n is_return)) k h u = set_small s.words t n k h u
words_kept p s t (actions.Event (requests.Create r f n)) k h u = more_small s.words n k h u
words_kept p s t (actions.Event r) k h u = h u
words_kept p s t action k h u = h u

-- ---- main's value

set_first : (ws : List ℕ) (n : ℕ) → 0 < length ws → slice_index (slice_set ws 0 n) 0 ≡ n
set_first [] n h = absurd (omega (arith, h))
set_first (w ∷ ws) n h = refl

set_later : (ws : List ℕ) (t n : ℕ) → slice_index (slice_set ws (suc t) n) 0 ≡ slice_index ws 0
set_later [] t n = refl
set_later (w ∷ ws) t n = refl

first_of_more : (ws : List ℕ) (n : ℕ) → 0 < length ws → slice_index (ws ++ n ∷ []) 0 ≡ slice_index ws 0
first_of_more [] n h = absurd (omega (arith, h))
first_of_more (w ∷ ws) n h = refl

not_zero : (t : ℕ) → (suc t == 0) ≡ false
not_zero t = grind (arith, nat_tests)

exit_value : (ws : List ℕ) (t n v : ℕ) → 0 < length ws → v ≡ slice_index ws 0
    → Rattle.pg_law_effects.specs.Effect.or_old (if t == 0 then Some n else None) v ≡ slice_index (slice_set ws t n) 0
exit_value ws zero n v h e = sym (set_first ws n h)
exit_value ws (suc t) n v h e = ap (λ (b : Bool). Rattle.pg_law_effects.specs.Effect.or_old (if b then Some n else None) v) (not_zero t) ∙ e ∙ sym (set_later ws t n)

value_kept : (p : NumberedProgram) (s : State) (t : ℕ) (action : Action) → 0 < length s.words → s.value ≡ slice_index s.words 0
    → value_with (request_effect p s t action) s.value ≡ slice_index (words_with t (request_effect p s t action) s.words) 0
value_kept p s t (actions.Event (requests.Exit n is_return)) l e = exit_value s.words t n s.value l e
value_kept p s t (actions.Event (requests.Create r f n)) l e = e ∙ sym (first_of_more s.words n l)
value_kept p s t (actions.Event r) l e = e
value_kept p s t action l e = e

-- ---- threads

abbrev AreThreads : NumberedProgram → List LocalState → Type 0
AreThreads p ls = (t : ℕ) → IfSome (slice_get ls t) (IsThread p t)

same_place : (t u : ℕ) → (u == t) ≡ true → u ≡ t
same_place t u e = Rattle.pg_run.proofs.GuidedRuns.same_number u t e

other_place : (t u : ℕ) → (u == t) ≡ false → u ≡ t → ⊥
other_place t u e q = let k : true ≡ false = sym (Rattle.pg_run.proofs.GuidedRuns.same_as_itself t) ∙ ap (λ (i : ℕ). i == t) (sym q) ∙ e in absurd cc

threads_set : (p : NumberedProgram) (ls : List LocalState) (t : ℕ) (l : LocalState) → t < length ls → IsThread p t l → AreThreads p ls → AreThreads p (slice_set ls t l)
threads_set p ls t l h k a u = go (u == t) refl
  where
    go : (b : Bool) → (u == t) ≡ b → IfSome (slice_get (slice_set ls t l) u) (IsThread p u)
    go true e = subst (λ (v : ℕ). IfSome (slice_get (slice_set ls t l) v) (IsThread p v)) (sym (same_place t u e))
        (subst (λ (o : Option LocalState). IfSome o (IsThread p t)) (sym (set_own ls t l h)) k)
    go false e = subst (λ (o : Option LocalState). IfSome o (IsThread p u)) (sym (set_other ls t u l (other_place t u e))) (a u)

threads_more : (p : NumberedProgram) (ls : List LocalState) (l : LocalState) → IsThread p (length ls) l → AreThreads p ls → AreThreads p (ls ++ l ∷ [])
threads_more p ls l k a u = go (u == length ls) refl
  where
    go : (b : Bool) → (u == length ls) ≡ b → IfSome (slice_get (ls ++ l ∷ []) u) (IsThread p u)
    go true e = subst (λ (v : ℕ). IfSome (slice_get (ls ++ l ∷ []) v) (IsThread p v)) (sym (same_place (length ls) u e))
        (subst (λ (o : Option LocalState). IfSome o (IsThread p (length ls))) (sym (last_own ls l)) k)
    go false e = subst (λ (o : Option LocalState). IfSome o (IsThread p u)) (sym (last_other ls l u (other_place (length ls) u e))) (a u)

pub fresh_number : (p : NumberedProgram) (t f : ℕ) → (fresh p t f).thread ≡ t
unfolding fresh
fresh_number p t f = refl

fresh_thread : (p : NumberedProgram) (t f : ℕ) → IsThread p t (fresh p t f)
fresh_thread p t f = record { number = fresh_number p t f; waiting = λ e. (f, refl) }

instr_thread : (p : NumberedProgram) (l : LocalState) (answer : ℕ) (o : Option Instr) → (instr_after p l answer o).thread ≡ l.thread
instr_thread p l answer None = refl
instr_thread p l answer (Some x) = refl

frames_thread : (p : NumberedProgram) (l : LocalState) (begun : Bool) (fs : List Frame) (answer : ℕ) → (frames_after p l begun fs answer).thread ≡ l.thread
frames_thread p l begun [] answer = refl
frames_thread p l false (f ∷ fs) answer = refl
frames_thread p l true (f ∷ fs) answer = instr_thread p l answer (slice_get p.instrs f.place)

after_thread : (p : NumberedProgram) (l : LocalState) (answer : ℕ) → (after p l answer).thread ≡ l.thread
unfolding after
after_thread p l answer = frames_thread p l l.begun l.frames answer

after_is : (p : NumberedProgram) (t : ℕ) (l : LocalState) (answer : ℕ) → CanStep (next p l) → IsThread p t l → IsThread p t (after p l answer)
after_is p t l answer c h = record { number = after_thread p l answer ∙ h.number; waiting = λ e. absurd (let k : true ≡ false = sym (begun_after p l answer c) ∙ e in cc) }

made_kept : (p : NumberedProgram) (s : State) (t : ℕ) (action : Action) → AreThreads p s.locals → AreThreads p (locals_with (request_effect p s t action) s.locals)
made_kept p s t (actions.Event (requests.Create r f n)) a = threads_more p s.locals (fresh p (length s.locals) f) (fresh_thread p (length s.locals) f) a
made_kept p s t (actions.Event r) a = a
made_kept p s t action a = a

no_fewer : (p : NumberedProgram) (s : State) (t : ℕ) (action : Action) → t < length s.locals → t < length (locals_with (request_effect p s t action) s.locals)
no_fewer p s t (actions.Event (requests.Create r f n)) h = let k = Rattle.std.proofs.lemmas.List.length-append s.locals (fresh p (length s.locals) f ∷ []) in omega (arith, k, h)
no_fewer p s t (actions.Event r) h = h
no_fewer p s t action h = h

threads_kept : (p : NumberedProgram) (s : State) (t a : ℕ) (action : Action) (l : LocalState) → slice_get s.locals t ≡ Some l → CanStep (next p l) → AreThreads p s.locals
    → AreThreads p (local_set t (own_after p a (slice_get s.locals t)) (locals_with (request_effect p s t action) s.locals))
threads_kept p s t a action l e c h =
    let own : IsThread p t l = subst (λ (o : Option LocalState). IfSome o (IsThread p t)) e (h t) in
    subst (λ (o : Option LocalState). AreThreads p (local_set t (own_after p a o) (locals_with (request_effect p s t action) s.locals))) (sym e)
    (threads_set p (locals_with (request_effect p s t action) s.locals) t (after p l a) (no_fewer p s t action (slice_get_within s.locals t l e)) (after_is p t l a c own) (made_kept p s t action h))

-- ---- the step

pub reached_step : (gated : List InstrId) (p : NumberedProgram) (input : List ℤ) (s z : State) (t : ℕ) (x : Step) → IsProgram p → length input < 2 ^ 64 → IsReached p s
    → ready p s t ≡ true → step gated p input s t ≡ Did x z → IsReached p z
unfolding effect effect_of
reached_step gated p input s z t x program i h g e =
    let ze : z ≡ effect s (effect_of p input s t) = left_by gated p input s z t x e in
    let l = ready_made p s t g in
    let y = present s t l in
    let small = small_next p s t program h l in
    let can : CanStep (next p y.0) = subst CanStep (next_is p s t y.0 y.1) (can_by s t (next_of p s t) (did_allowed gated p input s z t x e) (ready_acts p s t g)) in
    record {
      machine = machine_kept gated p input s z t x program i h g e;
      memory = subst (λ (w : State). IsMemory w.memory) (sym ze) (write_memory s.memory (write_of s (next_of p s t)) h.memory);
      words = λ u. subst (λ (w : State). slice_index w.words u < 2 ^ 64) (sym ze) (words_kept p s t (next_of p s t) small h.words u);
      threads = subst (λ (w : State). AreThreads p w.locals) (sym ze) (threads_kept p s t (answer_to input s t (next_of p s t)) (next_of p s t) y.0 y.1 can h.threads);
      value = subst (λ (w : State). w.value ≡ slice_index w.words 0) (sym ze) (value_kept p s t (next_of p s t) (let k = h.machine.words in omega (arith, k, l)) h.value);
    }

-- ---- the first state

pub byte_first : (gs : List GlobalInfo) (b : ℕ) → HoldBytes gs → initial_byte gs b < 2 ^ 8
byte_first [] b h = lit< tt
byte_first (g ∷ gs) b h = by (byte_first gs b h.1) (nat_le (g.start * 8) b && nat_lt b (g.start * 8 + length g.bytes))
  where
    by : initial_byte gs b < 2 ^ 8 → (c : Bool) → (if c then slice_index g.bytes (b - g.start * 8) else initial_byte gs b) < 2 ^ 8
    by rest true = h.0 (b - g.start * 8)
    by rest false = rest

pub reached_first : (p : NumberedProgram) → IsProgram p → HoldBytes p.globals → IsReached p (initial p)
unfolding initial first.initial
reached_first p program h = record {
  machine = initial_is p program;
  memory = memory_of_memory (initial_byte p.globals) (λ b. byte_first p.globals b h);
  words = first_words;
  threads = first_threads;
  value = refl;
}
  where
    first_words : (t : ℕ) → slice_index (0 ∷ []) t < 2 ^ 64
    first_words zero = zero_small
    first_words (suc t) = zero_small

    first_threads : (t : ℕ) → IfSome (slice_get (fresh p 0 p.main ∷ []) t) (IsThread p t)
    first_threads zero = fresh_thread p 0 p.main
    first_threads (suc t) = tt

pub reached_run : (gated : List InstrId) (p : NumberedProgram) (input : List ℤ) (s z : State) (xs : List Step) → IsProgram p → length input < 2 ^ 64 → IsReached p s
    → IsRun gated p input s xs z → IsReached p z
reached_run gated p input s z [] program i h r = subst (IsReached p) r h
reached_run gated p input s z (x ∷ xs) program i h r = reached_run gated p input r.0.after z xs program i
    (reached_step gated p input s r.0.after x.thread.0 x program i h r.0.is_ready r.0.is_step) r.1
