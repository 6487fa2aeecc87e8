-- Steps on states as local states, cells and objects.
use Rattle.std.proofs.Common.{◌≡◌, ℕ, ℤ, zero, suc, ◌+◌, ◌-◌, ◌<◌, ◌≤◌, List, [], ◌∷◌, ◌++◌, length, map, Bool, true, false, Option, Some, None, refl}
use Rattle.std.proofs.Common.{sym, ◌∙◌, ap, subst, arith, inl, inr, ◌⊎◌}
use Rattle.std.specs.Prelude.{◌==◌, nat_lt, is_some, IfSome, slice_get, slice_set, slice_index, if◌then◌else◌}
use Rattle.std.proofs.lemmas.Bool.{cases_lt}
use Rattle.std.proofs.lemmas.Bool.Decides.{nat_tests}
use Rattle.std.proofs.lemmas.Option.{slice_get_within}
use Rattle.pg_num.specs.declared.layout.TheConstants.{GRANULE_COUNT, MEMORY_BYTES}
use Rattle.pg_ir.specs.declared.ids.InstrId.{InstrId}
use Rattle.pg_ir.specs.declared.request.Request.{Request}
use Rattle.pg_ir.specs.declared.request.Request.TheVariants as requests
use Rattle.pg_ir.specs.Program.{NumberedProgram}
use Rattle.pg_run.specs.pg_run_memory.Memory.{Words, byte_at}
use Rattle.pg_run.specs.pg_run_objects.Sync as sync
use Rattle.pg_run_thread.specs.declared.action.Action.{Action}
use Rattle.pg_run_thread.specs.declared.action.Action.TheVariants as actions
use Rattle.pg_run_thread.specs.LocalState.{LocalState, fresh}
use Rattle.pg_run_thread.specs.Step.{after, next, top_function}
use Rattle.pg_run_thread.specs.States.{CanStep}
use Rattle.pg_run.specs.pg_run_trace.declared.step.Step.{Step}
use Rattle.pg_run.specs.State.{State, action_in, next_of}
use Rattle.pg_run.specs.MachineStep.{Did, ready, step}
use Rattle.pg_run.proofs.StepsBegin.{next_is, ready_acts, ready_made}
use Rattle.pg_run.proofs.GuidedRuns.{same_as_itself, same_number}
use Rattle.pg_run.proofs.PhaseActions.{begun_after}
use Rattle.pg_run.proofs.Threads.{last_other, last_own, set_other, set_own, set_length}
use Rattle.pg_law_effects.specs.Effect.{Effect, MadeThread, RequestEffect, Write, answer_to, effect, effect_by, effect_of, local_set, locals_with, memory_with, or_old, own_after, request_effect}
use Rattle.pg_law_effects.specs.Effect.{sync_with, word_read_by, words_with, write_of}
use Rattle.pg_law_effects.specs.Meets.{AgreeFor, byte_in, byte_written, is_in, made_by, reads_byte}
use Rattle.pg_law_effects.specs.Reached.{IsReached, IsThread}
use Rattle.pg_law_effects.specs.Views.{AreLikeFor, LeadsTo, Objects, begun_in, cell_at, cell_written, is_thread, local_at, objects_of, objects_with, reads_cell, start_made, start_of, word_in}
use Rattle.pg_law_effects.proofs.StepsApart.{left_by}
use Rattle.pg_law_effects.proofs.MemoryBytes.{byte_after, past_end, with_in, with_out}
use Rattle.pg_law_effects.proofs.ThreadLimits.{did_allowed}
use Rattle.pg_law_effects.proofs.ReachedStates.{can_by, fresh_number, present}

-- ---- cells

below : (c : ℕ) → nat_lt c MEMORY_BYTES ≡ true → c < MEMORY_BYTES
below c e = grind (arith, nat_tests)

memory_cell : (m : Words) (w : Option Write) (c : ℕ) → c < MEMORY_BYTES → byte_at (memory_with w m) c ≡ or_old (byte_in w c) (byte_at m c)
memory_cell m None c h = refl
memory_cell m (Some w) c h = byte_after m w.at w.number c h ∙ go (is_in w.at c) refl
  where
    go : (b : Bool) → is_in w.at c ≡ b → Rattle.pg_run.specs.pg_run_memory.Bytes.with_bytes (byte_at m) w.at w.number c ≡ or_old (byte_in (Some w) c) (byte_at m c)
    go true e = rw e refl
    go false e = rw e refl

index_own : (ws : List ℕ) (t n : ℕ) → t < length ws → slice_index (slice_set ws t n) t ≡ n
index_own [] t n h = absurd (omega (arith, h))
index_own (w ∷ ws) zero n h = refl
index_own (w ∷ ws) (suc t) n h = index_own ws t n (omega (arith, h))

index_other : (ws : List ℕ) (t u n : ℕ) → (u ≡ t → ⊥) → slice_index (slice_set ws t n) u ≡ slice_index ws u
index_other [] t u n h = refl
index_other (w ∷ ws) zero zero n h = absurd (h refl)
index_other (w ∷ ws) zero (suc u) n h = refl
index_other (w ∷ ws) (suc t) zero n h = refl
index_other (w ∷ ws) (suc t) (suc u) n h = index_other ws t u n (λ e. h (ap suc e))

index_last : (ws : List ℕ) (n : ℕ) → slice_index (ws ++ n ∷ []) (length ws) ≡ n
index_last [] n = refl
index_last (w ∷ ws) n = index_last ws n

index_before : (ws : List ℕ) (u n : ℕ) → (u ≡ length ws → ⊥) → slice_index (ws ++ n ∷ []) u ≡ slice_index ws u
index_before [] zero n h = absurd (h refl)
index_before [] (suc u) n h = refl
index_before (w ∷ ws) zero n h = refl
index_before (w ∷ ws) (suc u) n h = index_before ws u n (λ e. h (ap suc e))

differs : (a b : ℕ) → (a == b) ≡ false → a ≡ b → ⊥
differs a b e q = let k : true ≡ false = sym (same_as_itself b) ∙ ap (λ (i : ℕ). i == b) (sym q) ∙ e in absurd cc

exit_cell : (ws : List ℕ) (t n u : ℕ) → t < length ws → slice_index (slice_set ws t n) u ≡ or_old (if t == u then Some n else None) (slice_index ws u)
exit_cell ws t n u h = go (t == u) refl
  where
    go : (b : Bool) → (t == u) ≡ b → slice_index (slice_set ws t n) u ≡ or_old (if t == u then Some n else None) (slice_index ws u)
    go true e = rw e (ap (slice_index (slice_set ws t n)) (sym (same_number t u e)) ∙ index_own ws t n h)
    go false e = rw e (index_other ws t u n (λ q. differs t u e (sym q)))

none_if : (b : Bool) → Path (Option ℕ) (if b then None else None) None
none_if true = refl
none_if false = refl

create_cell : (p : NumberedProgram) (ws : List ℕ) (k f n t u : ℕ) → k ≡ length ws
    → slice_index (ws ++ n ∷ []) u ≡ or_old (if (fresh p k f).thread == u then Some n else (if t == u then None else None)) (slice_index ws u)
create_cell p ws k f n t u h = subst (λ (m : ℕ). slice_index (ws ++ n ∷ []) u ≡ or_old (if m == u then Some n else (if t == u then None else None)) (slice_index ws u))
    (sym (fresh_number p k f)) (go (k == u) refl)
  where
    go : (b : Bool) → (k == u) ≡ b → slice_index (ws ++ n ∷ []) u ≡ or_old (if k == u then Some n else (if t == u then None else None)) (slice_index ws u)
    go true e = rw e (ap (slice_index (ws ++ n ∷ [])) (sym (same_number k u e) ∙ h) ∙ index_last ws n)
    go false e = rw (e, none_if (t == u)) (index_before ws u n (λ q. differs k u e (h ∙ sym q)))

word_cell : (p : NumberedProgram) (s : State) (t u : ℕ) (action : Action) → t < length s.words → length s.words ≡ length s.locals
    → slice_index (words_with t (request_effect p s t action) s.words) u ≡ or_old (word_in t (request_effect p s t action) u) (slice_index s.words u)
word_cell p s t u (actions.Event (requests.Exit n is_return)) h k = exit_cell s.words t n u h
word_cell p s t u (actions.Event (requests.Create r f n)) h k = create_cell p s.words (length s.locals) f n t u (sym k)
word_cell p s t u (actions.Event r) h k = rw (none_if (t == u)) refl
word_cell p s t u action h k = refl

cells_by : (p : NumberedProgram) (input : List ℤ) (s : State) (t : ℕ) (action : Action) (c : ℕ) → t < length s.words → length s.words ≡ length s.locals
    → cell_at (effect s (effect_by p input s t action)) c ≡ or_old (cell_written (effect_by p input s t action) c) (cell_at s c)
unfolding effect
cells_by p input s t action c h k = go (nat_lt c MEMORY_BYTES) refl
  where
    go : (b : Bool) → nat_lt c MEMORY_BYTES ≡ b →
        (if nat_lt c MEMORY_BYTES then byte_at (memory_with (write_of s action) s.memory) c else slice_index (words_with t (request_effect p s t action) s.words) (c - MEMORY_BYTES))
        ≡ or_old (if nat_lt c MEMORY_BYTES then byte_in (write_of s action) c else word_in t (request_effect p s t action) (c - MEMORY_BYTES))
        (if nat_lt c MEMORY_BYTES then byte_at s.memory c else slice_index s.words (c - MEMORY_BYTES))
    go true e = rw e (memory_cell s.memory (write_of s action) c (below c e))
    go false e = rw e (word_cell p s t (c - MEMORY_BYTES) action h k)

-- ---- local states

begun_is : (l : LocalState) → l.begun ≡ true → begun_in (Some l) ≡ Some l
begun_is l e = rw e refl

own_local : (ls : List LocalState) (t : ℕ) (l : LocalState) → t < length ls → l.begun ≡ true → begun_in (slice_get (slice_set ls t l) t) ≡ Some l
own_local ls t l h e = ap begun_in (set_own ls t l h) ∙ begun_is l e

-- a thread that was just made has no local state here, as one that isn't made
made_local : (ls : List LocalState) (m : LocalState) (u : ℕ) → m.begun ≡ false → begun_in (slice_get (ls ++ m ∷ []) u) ≡ begun_in (slice_get ls u)
made_local ls m u e = go (u == length ls) refl
  where
    past : (ls : List LocalState) → slice_get ls (length ls) ≡ None
    past [] = refl
    past (l ∷ ls) = past ls

    go : (b : Bool) → (u == length ls) ≡ b → begun_in (slice_get (ls ++ m ∷ []) u) ≡ begun_in (slice_get ls u)
    go true q =
        let k = same_number u (length ls) q in
        ap (λ (i : ℕ). begun_in (slice_get (ls ++ m ∷ []) i)) k
        ∙ ap begun_in (last_own ls m)
        ∙ ap (λ (b : Bool). if b then Some m else None) e
        ∙ sym (ap begun_in (past ls))
        ∙ ap (λ (i : ℕ). begun_in (slice_get ls i)) (sym k)
    go false q = ap begun_in (last_other ls m u (differs u (length ls) q))

fresh_waits : (p : NumberedProgram) (t f : ℕ) → (fresh p t f).begun ≡ false
unfolding fresh
fresh_waits p t f = refl

made_kept : (p : NumberedProgram) (s : State) (t u : ℕ) (action : Action) → begun_in (slice_get (locals_with (request_effect p s t action) s.locals) u) ≡ local_at s u
made_kept p s t u (actions.Event (requests.Create r f n)) = made_local s.locals (fresh p (length s.locals) f) u (fresh_waits p (length s.locals) f)
made_kept p s t u (actions.Event r) = refl
made_kept p s t u action = refl

no_fewer : (p : NumberedProgram) (s : State) (t : ℕ) (action : Action) → t < length s.locals → t < length (locals_with (request_effect p s t action) s.locals)
no_fewer p s t (actions.Event (requests.Create r f n)) h = let k = Rattle.std.proofs.lemmas.List.length-append s.locals (fresh p (length s.locals) f ∷ []) in omega (arith, k, h)
no_fewer p s t (actions.Event r) h = h
no_fewer p s t action h = h

locals_by : (p : NumberedProgram) (s : State) (t a u : ℕ) (action : Action) (l : LocalState) → slice_get s.locals t ≡ Some l → CanStep (next p l)
    → begun_in (slice_get (local_set t (own_after p a (slice_get s.locals t)) (locals_with (request_effect p s t action) s.locals)) u)
    ≡ (if u == t then own_after p a (slice_get s.locals t) else local_at s u)
locals_by p s t a u action l e c = go (u == t) refl
  where
    ls : List LocalState
    ls = locals_with (request_effect p s t action) s.locals

    go : (b : Bool) → (u == t) ≡ b → begun_in (slice_get (local_set t (own_after p a (slice_get s.locals t)) (locals_with (request_effect p s t action) s.locals)) u)
        ≡ (if u == t then own_after p a (slice_get s.locals t) else local_at s u)
    go true q = rw (q, e) (ap (λ (i : ℕ). begun_in (slice_get (slice_set (locals_with (request_effect p s t action) s.locals) t (after p l a)) i)) (same_number u t q)
        ∙ own_local (locals_with (request_effect p s t action) s.locals) t (after p l a) (no_fewer p s t action (slice_get_within s.locals t l e)) (begun_after p l a c))
    go false q = rw (q, e) (ap begun_in (set_other (locals_with (request_effect p s t action) s.locals) t u (after p l a) (differs u t q)) ∙ made_kept p s t u action)

-- ---- objects

map_set : (ls : List LocalState) (t : ℕ) (l : LocalState) → map start_of (slice_set ls t l) ≡ slice_set (map start_of ls) t (start_of l)
map_set [] t l = refl
map_set (x ∷ ls) zero l = refl
map_set (x ∷ ls) (suc t) l = ap (λ fs. start_of x ∷ fs) (map_set ls t l)

map_more : (ls : List LocalState) (m : LocalState) → map start_of (ls ++ m ∷ []) ≡ map start_of ls ++ start_of m ∷ []
map_more [] m = refl
map_more (x ∷ ls) m = ap (λ fs. start_of x ∷ fs) (map_more ls m)

map_made : (ls : List LocalState) (m : Option MadeThread) → map start_of (Rattle.pg_law_effects.specs.Effect.with_local m ls) ≡ start_made m (map start_of ls)
map_made ls None = refl
map_made ls (Some m) = map_more ls m.local

start_none : (l : LocalState) → l.begun ≡ true → start_of l ≡ None
start_none l e = rw e refl

-- a thread that has begun has no function to begin with
set_none : (fs : List (Option ℕ)) (t : ℕ) → slice_get fs t ≡ Some None → slice_set fs t None ≡ fs
set_none [] t e = refl
set_none (f ∷ fs) zero e = let k : f ≡ None = cc in ap (λ g. g ∷ fs) (sym k)
set_none (f ∷ fs) (suc t) e = ap (λ gs. f ∷ gs) (set_none fs t e)

map_at : (ls : List LocalState) (t : ℕ) (l : LocalState) → slice_get ls t ≡ Some l → slice_get (map start_of ls) t ≡ Some (start_of l)
map_at [] t l e = absurd cc
map_at (x ∷ ls) zero l e = let k : x ≡ l = cc in ap (λ y. Some (start_of y)) k
map_at (x ∷ ls) (suc t) l e = map_at ls t l e

starts_by : (s : State) (t : ℕ) (l m : LocalState) (r : Option RequestEffect) → slice_get s.locals t ≡ Some m → l.begun ≡ true → (is_some r ≡ false → m.begun ≡ true)
    → Path Objects (record { sync = sync_with r s.sync; starts = map start_of (slice_set (locals_with r s.locals) t l) }) (objects_with t r (objects_of s))
starts_by s t l m None e b h =
    ap (λ (fs : List (Option ℕ)). record { sync = s.sync; starts = fs })
    (map_set s.locals t l ∙ ap (slice_set (map start_of s.locals) t) (start_none l b)
    ∙ set_none (map start_of s.locals) t (map_at s.locals t m e ∙ ap (λ (o : Option ℕ). Some o) (start_none m (h refl))))
starts_by s t l m (Some r) e b h =
    ap (λ (fs : List (Option ℕ)). record { sync = r.objects; starts = fs })
    (map_set (Rattle.pg_law_effects.specs.Effect.with_local r.made s.locals) t l ∙ ap (slice_set (map start_of (Rattle.pg_law_effects.specs.Effect.with_local r.made s.locals)) t) (start_none l b)
    ∙ ap (λ (fs : List (Option ℕ)). slice_set fs t None) (map_made s.locals r.made))

-- ---- threads that haven't begun

next_fresh : (p : NumberedProgram) (t f : ℕ) → next p (fresh p t f) ≡ actions.Event requests.Start
unfolding next fresh
next_fresh p t f = refl

top_fresh : (p : NumberedProgram) (t f : ℕ) → top_function (fresh p t f).frames ≡ f
unfolding fresh
top_fresh p t f = refl

starts_fresh : (p : NumberedProgram) (t f : ℕ) → start_of (fresh p t f) ≡ Some f
starts_fresh p t f = ap (λ (b : Bool). if b then None else Some (top_function (fresh p t f).frames)) (fresh_waits p t f) ∙ ap (λ (g : ℕ). Some g) (top_fresh p t f)

thread_at : (p : NumberedProgram) (s : State) (t : ℕ) (l : LocalState) → IsReached p s → slice_get s.locals t ≡ Some l → IsThread p t l
thread_at p s t l h e = subst (λ (o : Option LocalState). IfSome o (IsThread p t)) e (h.threads t)

-- a thread whose step is no request has begun
has_begun : (p : NumberedProgram) (s : State) (t : ℕ) (l : LocalState) → IsReached p s → slice_get s.locals t ≡ Some l → is_some (request_effect p s t (next_of p s t)) ≡ false
    → l.begun ≡ true
has_begun p s t l h e n = go l.begun refl
  where
    go : (b : Bool) → l.begun ≡ b → l.begun ≡ true
    go true q = q
    go false q =
        let w = (thread_at p s t l h e).waiting q in
        let k : next_of p s t ≡ actions.Event requests.Start = next_is p s t l e ∙ ap (next p) w.1 ∙ next_fresh p t w.0 in
        let z : is_some (request_effect p s t (actions.Event requests.Start)) ≡ false = subst (λ (a : Action). is_some (request_effect p s t a) ≡ false) k n in
        absurd cc

-- ---- the step

pub leads_to : (gated : List InstrId) (p : NumberedProgram) (input : List ℤ) (s z : State) (t : ℕ) (x : Step) → IsReached p s → ready p s t ≡ true → step gated p input s t ≡ Did x z
    → LeadsTo (effect_of p input s t) s z
unfolding effect effect_of
leads_to gated p input s z t x h g e =
    let l = ready_made p s t g in
    let y = present s t l in
    let can : CanStep (next p y.0) = subst CanStep (next_is p s t y.0 y.1) (can_by s t (next_of p s t) (did_allowed gated p input s z t x e) (ready_acts p s t g)) in
    let words : t < length s.words = let k = h.machine.words in omega (arith, k, l) in
    subst (LeadsTo (effect_of p input s t) s) (sym (left_by gated p input s z t x e)) (record {
      locals = λ u. locals_by p s t (answer_to input s t (next_of p s t)) u (next_of p s t) y.0 y.1 can;
      cells = λ c. cells_by p input s t (next_of p s t) c words h.machine.words;
      objects = objects_by (answer_to input s t (next_of p s t)) y.0 y.1 (begun_after p y.0 (answer_to input s t (next_of p s t)) can) (λ n. has_begun p s t y.0 h y.1 n);
    })
  where
    objects_by : (a : ℕ) (l : LocalState) → slice_get s.locals t ≡ Some l → (after p l a).begun ≡ true
        → (is_some (request_effect p s t (next_of p s t)) ≡ false → l.begun ≡ true)
        → Path Objects (record {
          sync = sync_with (request_effect p s t (next_of p s t)) s.sync;
          starts = map start_of (local_set t (own_after p a (slice_get s.locals t)) (locals_with (request_effect p s t (next_of p s t)) s.locals));
        })
        (objects_with t (request_effect p s t (next_of p s t)) (objects_of s))
    objects_by a l q b n = rw q (starts_by s t (after p l a) l (request_effect p s t (next_of p s t)) q b n)

-- ---- what a step depends on

begun_back : (o : Option LocalState) (l : LocalState) → begun_in o ≡ Some l → o ≡ Some l
begun_back None l e = absurd cc
begun_back (Some m) l e = go m.begun refl
  where
    go : (b : Bool) → m.begun ≡ b → Some m ≡ Some l
    go true q = sym (ap (λ (b : Bool). if b then Some m else None) q) ∙ e
    go false q = let k : Path (Option LocalState) None (Some l) = sym (ap (λ (b : Bool). if b then Some m else None) q) ∙ e in absurd cc

start_back : (p : NumberedProgram) (z : State) (t f : ℕ) → IsReached p z → slice_get (map start_of z.locals) t ≡ Some (Some f) → slice_get z.locals t ≡ Some (fresh p t f)
start_back p z t f h e = go (slice_get z.locals t) refl
  where
    none_at : (ls : List LocalState) (t : ℕ) → slice_get ls t ≡ None → slice_get (map start_of ls) t ≡ None
    none_at [] t k = refl
    none_at (x ∷ ls) zero k = absurd cc
    none_at (x ∷ ls) (suc t) k = none_at ls t k

    by_begun : (l : LocalState) → slice_get z.locals t ≡ Some l → (b : Bool) → l.begun ≡ b → Some l ≡ Some (fresh p t f)
    by_begun l k true q =
        let i : Path (Option (Option ℕ)) (Some None) (Some (Some f)) = ap (λ (o : Option ℕ). Some o) (sym (start_none l q)) ∙ sym (map_at z.locals t l k) ∙ e in
        let j : Path (Option ℕ) None (Some f) = cc in absurd cc
    by_begun l k false q =
        let w = (thread_at p z t l h k).waiting q in
        let i : Path (Option (Option ℕ)) (Some (Some w.0)) (Some (Some f)) =
        ap (λ (o : Option ℕ). Some o) (sym (starts_fresh p t w.0) ∙ ap start_of (sym w.1)) ∙ sym (map_at z.locals t l k) ∙ e in
        let j : w.0 ≡ f = cc in
        ap (λ (m : LocalState). Some m) w.1 ∙ ap (λ (g : ℕ). Some (fresh p t g)) j

    go : (o : Option LocalState) → slice_get z.locals t ≡ o → slice_get z.locals t ≡ Some (fresh p t f)
    go None k = let i : Path (Option (Option ℕ)) None (Some (Some f)) = sym (none_at z.locals t k) ∙ e in absurd cc
    go (Some l) k = k ∙ by_begun l k l.begun refl

map_length : (ls : List LocalState) → length (map start_of ls) ≡ length ls
map_length [] = refl
map_length (l ∷ ls) = ap suc (map_length ls)

made_asks : (r : Option RequestEffect) → is_some (made_by r) ≡ true → is_some r ≡ true
made_asks None h = absurd cc
made_asks (Some r) h = refl

word_like : (s z : State) (o : Option ℕ) → ((c : ℕ) → MEMORY_BYTES ≤ c → is_thread o (c - MEMORY_BYTES) ≡ true
    → slice_index s.words (c - MEMORY_BYTES) ≡ slice_index z.words (c - MEMORY_BYTES)) → IfSome o (λ t. slice_index s.words t ≡ slice_index z.words t)
word_like s z None h = tt
word_like s z (Some t) h =
    let e : MEMORY_BYTES + t - MEMORY_BYTES ≡ t = omega arith in
    rw e at (h (MEMORY_BYTES + t) (omega arith) (rw e (same_as_itself t)))

module _ (p : NumberedProgram) (input : List ℤ) (s z : State) (t : ℕ) (hs : IsReached p s) (hz : IsReached p z) where
  local_by : (action : Action) → next_of p s t ≡ action → (l : LocalState) → slice_get s.locals t ≡ Some l → AreLikeFor (effect_by p input s t action) s z
      → slice_get s.locals t ≡ slice_get z.locals t
  local_by action n l e h = go l.begun refl
    where
      go : (b : Bool) → l.begun ≡ b → slice_get s.locals t ≡ slice_get z.locals t
      go true q = e ∙ sym (begun_back (slice_get z.locals t) l (sym h.local ∙ ap begun_in e ∙ begun_is l q))
      go false q =
          let w = (thread_at p s t l hs e).waiting q in
          let k : next_of p s t ≡ actions.Event requests.Start = next_is p s t l e ∙ ap (next p) w.1 ∙ next_fresh p t w.0 in
          let o : objects_of s ≡ objects_of z = h.objects (subst (λ (a : Action). is_some (request_effect p s t a) ≡ true) (sym k ∙ n) refl) in
          let f : slice_get (map start_of z.locals) t ≡ Some (Some w.0) =
          ap (λ (x : Objects). slice_get x.starts t) (sym o) ∙ map_at s.locals t l e ∙ ap (λ (m : LocalState). Some (start_of m)) w.1
          ∙ ap (λ (x : Option ℕ). Some x) (starts_fresh p t w.0) in
          e ∙ ap (λ (m : LocalState). Some m) w.1 ∙ sym (start_back p z t w.0 hz f)

  cell_below : (e : Effect) (c : ℕ) → AreLikeFor e s z → c < MEMORY_BYTES → reads_byte e c ≡ true → byte_at s.memory c ≡ byte_at z.memory c
  cell_below e c h l r =
      let b : nat_lt c MEMORY_BYTES ≡ true = grind (arith, nat_tests) in
      let k : (if nat_lt c MEMORY_BYTES then byte_at s.memory c else slice_index s.words (c - MEMORY_BYTES))
      ≡ (if nat_lt c MEMORY_BYTES then byte_at z.memory c else slice_index z.words (c - MEMORY_BYTES)) = h.cells c (rw b r) in
      rw b at k

  cell_above : (e : Effect) (c : ℕ) → AreLikeFor e s z → MEMORY_BYTES ≤ c → is_thread e.word_read (c - MEMORY_BYTES) ≡ true
      → slice_index s.words (c - MEMORY_BYTES) ≡ slice_index z.words (c - MEMORY_BYTES)
  cell_above e c h l r =
      let b : nat_lt c MEMORY_BYTES ≡ false = grind (arith, nat_tests) in
      let k : (if nat_lt c MEMORY_BYTES then byte_at s.memory c else slice_index s.words (c - MEMORY_BYTES))
      ≡ (if nat_lt c MEMORY_BYTES then byte_at z.memory c else slice_index z.words (c - MEMORY_BYTES)) = h.cells c (rw b r) in
      rw b at k

  byte_like : (e : Effect) (c : ℕ) → AreLikeFor e s z → reads_byte e c ≡ true → byte_at s.memory c ≡ byte_at z.memory c
  byte_like e c h r = go (cases_lt c MEMORY_BYTES)
    where
      go : (c < MEMORY_BYTES) ⊎ (MEMORY_BYTES ≤ c) → byte_at s.memory c ≡ byte_at z.memory c
      go (inl l) = cell_below e c h l r
      go (inr l) = past_end s.memory z.memory c hs.memory.granules hz.memory.granules l

  agree_by : (action : Action) → next_of p s t ≡ action → t < length s.locals → AreLikeFor (effect_by p input s t action) s z → AgreeFor (effect_by p input s t action) s z
  agree_by action n l h =
      let y = present s t l in
      let e = effect_by p input s t action in
      record {
        local = local_by action n y.0 y.1 h;
        bytes = λ b r. byte_like e b h r;
        word = word_like s z e.word_read (λ c q r. cell_above e c h q r);
        objects = λ r. ap (λ (o : Objects). o.sync) (h.objects r);
        threads = λ r. sym (map_length s.locals) ∙ ap (λ (o : Objects). length o.starts) (h.objects (made_asks e.request r)) ∙ map_length z.locals;
      }

  pub agree_like : t < length s.locals → AreLikeFor (effect_of p input s t) s z → AgreeFor (effect_of p input s t) s z
  unfolding effect_of
  agree_like l h = agree_by (next_of p s t) refl l h
