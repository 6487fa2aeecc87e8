-- Steps that are apart may change places.
use Rattle.std.proofs.Common.{◌≡◌, ◌≢◌, ℕ, ℤ, ◌<◌, List, [], ◌∷◌, ◌++◌, length, Bool, true, false, Option, Some, None, Result, Ok, Err, refl, sym, ◌∙◌}
use Rattle.std.proofs.Common.{ap, subst, arith}
use Rattle.std.specs.Prelude.{slice_get, slice_index, not, ◌&&◌, ◌||◌, is_some, IfSome}
use Rattle.pg_num.specs.declared.layout.TheConstants.{GRANULE_COUNT}
use Rattle.pg_ir.specs.declared.ids.InstrId.{InstrId}
use Rattle.pg_ir.specs.declared.request.Request.{Request}
use Rattle.pg_ir.specs.declared.request.Request.TheVariants as requests
use Rattle.pg_ir.specs.declared.request.TrapName.{TrapName}
use Rattle.pg_ir.specs.Program.{NumberedProgram}
use Rattle.pg_run.specs.pg_run_memory.Memory.{Words, byte_at}
use Rattle.pg_run.specs.pg_run_objects.Sync as sync
use Rattle.pg_run_thread.specs.declared.action.Action.{Action}
use Rattle.pg_run_thread.specs.declared.action.Action.TheVariants as actions
use Rattle.pg_run_thread.specs.LocalState.{LocalState}
use Rattle.pg_run.specs.pg_run_trace.declared.step.Step.{Step}
use Rattle.pg_run.specs.Locality.{IfDid}
use Rattle.pg_run.specs.State.{State, next_of}
use Rattle.pg_run.specs.MachineStep.{Stepped, Did, Trapped, may_act, ready, step}
use Rattle.pg_run.proofs.Threads.{set_other, set_length, last_other}
use Rattle.pg_law_effects.specs.Effect.{Effect, MadeThread, RequestEffect, Write, effect, effect_by, effect_of, local_set, locals_with, memory_with, request_effect, sync_with, with_local}
use Rattle.pg_law_effects.specs.Effect.{word_read_by, words_with}
use Rattle.pg_law_effects.specs.Meets.{AgreeFor, AreApart, byte_in, is_in, made_by, meets, reads_byte, touches_byte, writes_byte}
use Rattle.pg_law_effects.specs.Places.{ChangePlaces}
use Rattle.pg_law_effects.specs.Told.{tells}
use Rattle.pg_law_effects.proofs.StepDependence.{effect_alike, next_alike}
use Rattle.pg_law_effects.proofs.MemoryBytes.{byte_kept}
use Rattle.pg_law_effects.proofs.EffectsApart.{effects_cross}
use Rattle.pg_law_effects.proofs.StepEffects.{has_effect}
use Rattle.pg_law_effects.proofs.TellDependence.{tells_alike}

pub apart_sym : (e f : Effect) → AreApart e f → AreApart f e
apart_sym e f h = record {
  threads = λ c. h.threads (sym c);
  requests = and_sym (is_some e.request) (is_some f.request) h.requests;
  bytes = λ b. meets_sym (writes_byte e b) (reads_byte e b) (writes_byte f b) (reads_byte f b) (h.bytes b);
}
  where
    and_sym : (a b : Bool) → (a && b) ≡ false → (b && a) ≡ false
    and_sym true true k = absurd cc
    and_sym true false k = refl
    and_sym false true k = refl
    and_sym false false k = refl

    meets_sym : (a r b q : Bool) → ((a && (q || b)) || ((r || a) && b)) ≡ false → ((b && (r || a)) || ((q || b) && a)) ≡ false
    meets_sym true r true true k = absurd cc
    meets_sym true r true false k = absurd cc
    meets_sym true r false true k = absurd cc
    meets_sym true true false false k = refl
    meets_sym true false false false k = refl
    meets_sym false true true q k = absurd cc
    meets_sym false false true true k = refl
    meets_sym false false true false k = refl
    meets_sym false r false true k = refl
    meets_sym false r false false k = refl

-- ---- what a step leaves of what another reads

set_leaves : (ls : List LocalState) (t u : ℕ) (l : Option LocalState) → u ≢ t → slice_get (local_set t l ls) u ≡ slice_get ls u
set_leaves ls t u None n = refl
set_leaves ls t u (Some l) n = set_other ls t u l n

made_leaves : (ls : List LocalState) (u : ℕ) (m : Option MadeThread) → u < length ls → slice_get (with_local m ls) u ≡ slice_get ls u
made_leaves ls u None h = refl
made_leaves ls u (Some m) h = last_other ls m.local u (λ e. absurd (omega (arith, h, e)))

request_leaves : (ls : List LocalState) (u : ℕ) (r : Option RequestEffect) → u < length ls → slice_get (locals_with r ls) u ≡ slice_get ls u
request_leaves ls u None h = refl
request_leaves ls u (Some r) h = made_leaves ls u r.made h

-- the local state of another thread that was made
pub local_kept : (s : State) (e : Effect) (u : ℕ) → u ≢ e.thread → u < length s.locals → slice_get (effect s e).locals u ≡ slice_get s.locals u
unfolding effect
local_kept s e u n h = set_leaves (locals_with e.request s.locals) e.thread u e.local n ∙ request_leaves s.locals u e.request h

write_leaves : (m : Words) (w : Option Write) (b : ℕ) → length m ≡ GRANULE_COUNT → is_some (byte_in w b) ≡ false → byte_at (memory_with w m) b ≡ byte_at m b
write_leaves m None b h k = refl
write_leaves m (Some w) b h k = go (is_in w.at b) refl
  where
    go : (c : Bool) → is_in w.at b ≡ c → byte_at (memory_with (Some w) m) b ≡ byte_at m b
    go true e = let z : true ≡ false = rw e at k in absurd cc
    go false e = byte_kept m w.at w.number b h e

-- a byte that isn't written
pub memory_kept : (s : State) (e : Effect) (b : ℕ) → length s.memory ≡ GRANULE_COUNT → writes_byte e b ≡ false → byte_at (effect s e).memory b ≡ byte_at s.memory b
unfolding effect
memory_kept s e b h k = write_leaves s.memory e.writes b h k

not_written : (a b q r : Bool) → ((a && (q || b)) || ((r || a) && b)) ≡ false → q ≡ true → a ≡ false
not_written true b true r k e = absurd cc
not_written true b false r k e = absurd cc
not_written false b q r k e = refl

-- the words, where the other step is no request
words_kept : (ws : List ℕ) (t : ℕ) (r : Option RequestEffect) → is_some r ≡ false → words_with t r ws ≡ ws
words_kept ws t None h = refl
words_kept ws t (Some r) h = absurd cc

sync_kept : (y : sync.Sync) (r : Option RequestEffect) → is_some r ≡ false → sync_with r y ≡ y
sync_kept y None h = refl
sync_kept y (Some r) h = absurd cc

locals_kept : (ls : List LocalState) (t : ℕ) (l : Option LocalState) (r : Option RequestEffect) → is_some r ≡ false → length (local_set t l (locals_with r ls)) ≡ length ls
locals_kept ls t None None h = refl
locals_kept ls t (Some l) None h = set_length ls t l
locals_kept ls t l (Some r) h = absurd cc

not_both : (a b : Bool) → (a && b) ≡ false → b ≡ true → a ≡ false
not_both true true h k = absurd cc
not_both true false h k = absurd cc
not_both false b h k = refl

made_asks : (r : Option RequestEffect) → is_some (made_by r) ≡ true → is_some r ≡ true
made_asks None h = absurd cc
made_asks (Some r) h = refl

-- only requests read a word
word_asks : (p : NumberedProgram) (s : State) (t : ℕ) (action : Action) → is_some (word_read_by t action) ≡ true → is_some (request_effect p s t action) ≡ true
word_asks p s t (actions.Event r) h = refl
word_asks p s t action h = absurd cc

if_some : (o : Option ℕ) (P : ℕ → Type 0) → (is_some o ≡ true → (n : ℕ) → P n) → IfSome o P
if_some None P h = tt
if_some (Some n) P h = h refl n

module _ (p : NumberedProgram) (input : List ℤ) (s : State) (e : Effect) (u : ℕ) (apart : AreApart e (effect_of p input s u)) (made : u < length s.locals)
    (granules : length s.memory ≡ GRANULE_COUNT) where
  -- the other step is no request where this is one
  alone : is_some (effect_of p input s u).request ≡ true → is_some e.request ≡ false
  alone h = not_both (is_some e.request) (is_some (effect_of p input s u).request) apart.requests h

  asks : is_some (effect_of p input s u).word_read ≡ true → is_some (effect_of p input s u).request ≡ true
  unfolding effect_of
  asks h = word_asks p s u (next_of p s u) h

  word_kept : (h : is_some (effect_of p input s u).word_read ≡ true) (n : ℕ) → slice_index s.words n ≡ slice_index (effect s e).words n
  unfolding effect
  word_kept h n = ap (λ (ws : List ℕ). slice_index ws n) (sym (words_kept s.words e.thread e.request (alone (asks h))))

  own_kept : slice_get s.locals (effect_of p input s u).thread ≡ slice_get (effect s e).locals (effect_of p input s u).thread
  unfolding effect_of
  own_kept = sym (local_kept s e u (λ c. apart.threads (sym c)) made)

  -- what the step of thread u depends on is as it was
  pub agree_behind : AgreeFor (effect_of p input s u) s (effect s e)
  unfolding effect
  agree_behind = record {
    local = own_kept;
    bytes = λ b h. sym (memory_kept s e b granules (not_written (writes_byte e b) (writes_byte (effect_of p input s u) b) (reads_byte (effect_of p input s u) b) (reads_byte e b) (apart.bytes b) h));
    word = if_some (effect_of p input s u).word_read (λ t. slice_index s.words t ≡ slice_index (effect s e).words t) word_kept;
    objects = λ h. sym (sync_kept s.sync e.request (alone h));
    threads = λ h. sym (locals_kept s.locals e.thread e.local e.request (alone (made_asks (effect_of p input s u).request h)));
  }

-- ---- readiness

may_act_alike : (s z : State) (t : ℕ) (action : Action) (p : NumberedProgram) → (is_some (request_effect p s t action) ≡ true → s.sync ≡ z.sync) → may_act s t action ≡ may_act z t action
may_act_alike s z t (actions.Event r) p h = ap (λ (y : sync.Sync). sync.ready y t r) (h refl)
may_act_alike s z t action p h = refl

pub acts_alike : (p : NumberedProgram) (input : List ℤ) (s z : State) (t : ℕ) → AgreeFor (effect_of p input s t) s z → may_act s t (next_of p s t) ≡ may_act z t (next_of p z t)
unfolding effect_of
acts_alike p input s z t h =
    may_act_alike s z t (next_of p s t) p h.objects
    ∙ ap (may_act z t) (next_alike p s z t h.local)

-- readiness is kept but where the run ends
pub ready_alike : (p : NumberedProgram) (input : List ℤ) (s z : State) (t : ℕ) → AgreeFor (effect_of p input s t) s z → sync.over z.sync ≡ sync.over s.sync → ready p z t ≡ ready p s t
unfolding ready
ready_alike p input s z t h e =
    ap (λ (b : Bool). not b && may_act z t (next_of p z t)) e
    ∙ ap (λ (b : Bool). not (sync.over s.sync) && b) (sym (acts_alike p input s z t h))

-- ---- both orders

pub did_by : (o : Stepped) (x : Step) → tells o ≡ Ok x → (z : State) × (o ≡ Did x z)
did_by (Did y z) x h = let e : y ≡ x = step_in h in (z, ap (λ (w : Step). Did w z) e)
  where
    step_of : Step → Result Step (TrapName × ℕ) → Step
    step_of d (Ok w) = w
    step_of d (Err f) = d

    step_in : Path (Result Step (TrapName × ℕ)) (Ok y) (Ok x) → y ≡ x
    step_in k = ap (step_of y) k
did_by (Trapped name id) x h = absurd cc

pub left_by : (gated : List InstrId) (p : NumberedProgram) (input : List ℤ) (s z : State) (t : ℕ) (x : Step) → step gated p input s t ≡ Did x z → z ≡ effect s (effect_of p input s t)
left_by gated p input s z t x e = subst (λ (o : Stepped). IfDid o (λ x z. z ≡ effect s (effect_of p input s t))) e (has_effect gated p input s t)

-- a step behind another that leaves what it depends on
pub behind : (gated : List InstrId) (p : NumberedProgram) (input : List ℤ) (s z w : State) (t : ℕ) (x : Step) → AgreeFor (effect_of p input s t) s z → step gated p input s t ≡ Did x w
    → step gated p input z t ≡ Did x (effect z (effect_of p input s t))
behind gated p input s z w t x h e =
    let d = did_by (step gated p input z t) x (sym (tells_alike gated p input s z t h) ∙ ap tells e) in
    d.1 ∙ ap (λ (v : State). Did x v) (left_by gated p input z d.0 t x d.1 ∙ ap (effect z) (sym (effect_alike p input s z t h)))

thread_is : (p : NumberedProgram) (input : List ℤ) (s : State) (t : ℕ) → (effect_of p input s t).thread ≡ t
unfolding effect_of
thread_is p input s t = refl

pub change_places : (gated : List InstrId) (p : NumberedProgram) (input : List ℤ) (s z w : State) (t u : ℕ) (x y : Step) → step gated p input s t ≡ Did x z
    → step gated p input s u ≡ Did y w → AreApart (effect_of p input s t) (effect_of p input s u) → t < length s.locals → u < length s.locals → length s.memory ≡ GRANULE_COUNT
    → ChangePlaces gated p input t u x y z w
change_places gated p input s z w t u x y d c h k l g =
    let e = effect_of p input s t in
    let f = effect_of p input s u in
    let ze : z ≡ effect s e = left_by gated p input s z t x d in
    let wf : w ≡ effect s f = left_by gated p input s w u y c in
    let yf : step gated p input (effect s e) u ≡ Did y (effect (effect s e) f) = behind gated p input s (effect s e) w u y (agree_behind p input s e u h l g) c in
    let xe : step gated p input (effect s f) t ≡ Did x (effect (effect s f) e) = behind gated p input s (effect s f) z t x (agree_behind p input s f t (apart_sym e f h) k g) d in
    let same : effect (effect s e) f ≡ effect (effect s f) e = effects_cross s e f h (rw (thread_is p input s t) k) (rw (thread_is p input s u) l) in
    record {
      last = effect (effect s e) f;
      second = ap (λ (v : State). step gated p input v u) ze ∙ yf;
      first = ap (λ (v : State). step gated p input v t) wf ∙ xe ∙ ap (λ (v : State). Did x v) (sym same);
    }
