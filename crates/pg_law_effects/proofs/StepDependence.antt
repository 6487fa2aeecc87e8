-- A step depends on its thread's local state, on the bytes and the word that it reads, and, where it is a
-- request, on the objects.
use Rattle.std.proofs.Common.{◌≡◌, ℕ, ℤ, List, length, Bool, true, false, Option, Some, None, Result, Ok, Err, refl, sym, ◌∙◌, ap, subst}
use Rattle.std.specs.Prelude.{slice_get, slice_index, is_some, IfSome}
use Rattle.pg_num.specs.Places.{ByteRange}
use Rattle.pg_ir.specs.declared.request.Request.{Request}
use Rattle.pg_ir.specs.declared.request.Request.TheVariants as requests
use Rattle.pg_ir.specs.declared.request.TrapName.{TrapName}
use Rattle.pg_ir.specs.Program.{NumberedProgram}
use Rattle.pg_run.specs.pg_run_memory.Memory.{byte_at, read}
use Rattle.pg_run.specs.pg_run_objects.declared.reply.Reply.{Reply}
use Rattle.pg_run.specs.pg_run_objects.Sync as sync
use Rattle.pg_run_thread.specs.declared.action.Action.{Action}
use Rattle.pg_run_thread.specs.declared.action.Action.TheVariants as actions
use Rattle.pg_run_thread.specs.LocalState.{LocalState, fresh}
use Rattle.pg_run.specs.State.{State, action_in, next_of}
use Rattle.pg_run.specs.MachineStep.{answer_of, answered, on_applied}
use Rattle.pg_run.specs.Texts.{printed_by}
use Rattle.pg_law_effects.specs.Effect.{Effect, MadeThread, RequestEffect, Write, answer_to, effect_by, effect_of, own_after, range_read, request_effect, request_write, thread_made, value_left}
use Rattle.pg_law_effects.specs.Effect.{word_left, word_read_by, write_of}
use Rattle.pg_law_effects.specs.Meets.{AgreeFor, is_in, made_by, reads_byte}
use Rattle.pg_law_effects.proofs.MemoryBytes.{same_read}

-- what an action reads is alike in two states
abbrev pub AgreeBy : NumberedProgram → List ℤ → State → State → ℕ → Action → Type 0
AgreeBy p input s z t action = AgreeFor (effect_by p input s t action) s z

-- ---- the answer

reply_alike : (p : NumberedProgram) (input : List ℤ) (s z : State) (t : ℕ) (reply : Reply) (r : Request) → AgreeBy p input s z t (actions.Event r)
    → answer_of s t reply r ≡ answer_of z t reply r
reply_alike p input s z t reply requests.Start h = h.word
reply_alike p input s z t reply r h = refl

answer_alike : (p : NumberedProgram) (input : List ℤ) (s z : State) (t : ℕ) (action : Action) → AgreeBy p input s z t action → answer_to input s t action ≡ answer_to input z t action
answer_alike p input s z t (actions.Load r) h = same_read s.memory z.memory r h.bytes
answer_alike p input s z t (actions.Event r) h =
    reply_alike p input s z t (sync.done s.sync t r).1 r h
    ∙ ap (λ (y : sync.Sync). answer_of z t (sync.done y t r).1 r) (h.objects refl)
answer_alike p input s z t action h = refl

-- ---- the effect

asked_write_alike : (p : NumberedProgram) (input : List ℤ) (s z : State) (t : ℕ) (r : Request) → AgreeBy p input s z t (actions.Event r) → request_write s r ≡ request_write z r
asked_write_alike p input s z t (requests.Create r f n) h = ap (λ (m : ℕ). Some (record { at = r; number = m })) (h.threads refl)
asked_write_alike p input s z t (requests.Join n (Some r)) h = ap (λ (m : ℕ). Some (record { at = r; number = m })) h.word
asked_write_alike p input s z t (requests.Join n None) h = refl
asked_write_alike p input s z t r h = refl

write_alike : (p : NumberedProgram) (input : List ℤ) (s z : State) (t : ℕ) (action : Action) → AgreeBy p input s z t action → write_of s action ≡ write_of z action
write_alike p input s z t (actions.Event r) h = asked_write_alike p input s z t r h
write_alike p input s z t action h = refl

made_alike : (p : NumberedProgram) (input : List ℤ) (s z : State) (t : ℕ) (r : Request) → AgreeBy p input s z t (actions.Event r) → thread_made p s r ≡ thread_made p z r
made_alike p input s z t (requests.Create r f n) h = ap (λ (m : ℕ). Some (record { local = fresh p m f; word = n })) (h.threads refl)
made_alike p input s z t r h = refl

asked_with : ℕ → Request → sync.Sync → Option MadeThread → Option RequestEffect
asked_with t r y m = Some (record { objects = (sync.done y t r).0; word = word_left r; value = value_left t r; printed = printed_by r; made = m })

asked_alike : (p : NumberedProgram) (input : List ℤ) (s z : State) (t : ℕ) (action : Action) → AgreeBy p input s z t action → request_effect p s t action ≡ request_effect p z t action
unfolding asked_with
asked_alike p input s z t (actions.Event r) h =
    ap (λ (y : sync.Sync). asked_with t r y (thread_made p s r)) (h.objects refl)
    ∙ ap (asked_with t r z.sync) (made_alike p input s z t r h)
asked_alike p input s z t action h = refl

effect_with : NumberedProgram → ℕ → Action → ℕ → Option LocalState → Option Write → Option RequestEffect → Effect
effect_with p t action a o w r = record { thread = t; local = own_after p a o; reads = range_read action; word_read = word_read_by t action; writes = w; request = r }

by_alike : (p : NumberedProgram) (input : List ℤ) (s z : State) (t : ℕ) (action : Action) → AgreeBy p input s z t action → effect_by p input s t action ≡ effect_by p input z t action
unfolding effect_with
by_alike p input s z t action h =
    ap (λ (a : ℕ). effect_with p t action a (slice_get s.locals t) (write_of s action) (request_effect p s t action)) (answer_alike p input s z t action h)
    ∙ ap (λ (o : Option LocalState). effect_with p t action (answer_to input z t action) o (write_of s action) (request_effect p s t action)) h.local
    ∙ ap (λ (w : Option Write). effect_with p t action (answer_to input z t action) (slice_get z.locals t) w (request_effect p s t action)) (write_alike p input s z t action h)
    ∙ ap (effect_with p t action (answer_to input z t action) (slice_get z.locals t) (write_of z action)) (asked_alike p input s z t action h)

pub next_alike : (p : NumberedProgram) (s z : State) (t : ℕ) → slice_get s.locals t ≡ slice_get z.locals t → next_of p s t ≡ next_of p z t
unfolding next_of
next_alike p s z t e = ap (action_in p) e

pub effect_alike : (p : NumberedProgram) (input : List ℤ) (s z : State) (t : ℕ) → AgreeFor (effect_of p input s t) s z → effect_of p input s t ≡ effect_of p input z t
unfolding effect_of
effect_alike p input s z t h =
    by_alike p input s z t (next_of p s t) h
    ∙ ap (effect_by p input z t) (next_alike p s z t h.local)

-- ---- what is answered

applied_alike : (p : NumberedProgram) (input : List ℤ) (s z : State) (t : ℕ) (r : Request) (y : sync.Sync) (q : Result Reply TrapName) → AgreeBy p input s z t (actions.Event r)
    → (on_applied p s t r (y, q)).1 ≡ (on_applied p z t r (y, q)).1
applied_alike p input s z t r y (Err name) h = refl
applied_alike p input s z t requests.Start y (Ok reply) h = ap (λ (n : ℕ). Ok n) h.word
applied_alike p input s z t r y (Ok reply) h = refl

pub answered_alike : (p : NumberedProgram) (input : List ℤ) (s z : State) (t : ℕ) (action : Action) → AgreeBy p input s z t action
    → (answered p input s t action).1 ≡ (answered p input z t action).1
unfolding answered
answered_alike p input s z t (actions.Load r) h = ap (λ (n : ℕ). Ok n) (same_read s.memory z.memory r h.bytes)
answered_alike p input s z t (actions.Event r) h =
    applied_alike p input s z t r (sync.applied s.sync t r).0 (sync.applied s.sync t r).1 h
    ∙ ap (λ (y : sync.Sync). (on_applied p z t r (sync.applied y t r)).1) (h.objects refl)
answered_alike p input s z t actions.Local h = refl
answered_alike p input s z t (actions.In i) h = refl
answered_alike p input s z t actions.InLen h = refl
answered_alike p input s z t (actions.Store r n) h = refl
answered_alike p input s z t (actions.Trap name) h = refl
answered_alike p input s z t actions.Ended h = refl
