-- Effects that may change places.
use Rattle.std.proofs.Common.{◌≡◌, ◌≢◌, ℕ, zero, suc, ◌<◌, List, [], ◌∷◌, ◌++◌, length, Bool, true, false, Option, Some, None, refl, sym, ◌∙◌, ap, arith}
use Rattle.std.specs.Prelude.{slice_get, slice_set, ◌&&◌, ◌||◌, is_some}
use Rattle.std.proofs.lemmas.List.{set-append_left}
use Rattle.pg_num.specs.Places.{ByteRange}
use Rattle.pg_run.specs.pg_run_memory.Memory.{Words, written}
use Rattle.pg_run.specs.pg_run_objects.Sync as sync
use Rattle.pg_run_thread.specs.LocalState.{LocalState}
use Rattle.pg_run.specs.State.{State}
use Rattle.pg_run.proofs.Threads.{set_length}
use Rattle.pg_law_effects.specs.Effect.{Effect, MadeThread, RequestEffect, Write, effect, local_set, locals_with, memory_with, printed_with, sync_with, value_with, with_local, words_with}
use Rattle.pg_law_effects.specs.Meets.{AreApart, byte_in, is_in, is_in_range, meets, reads_byte, touches_byte, writes_byte}
use Rattle.pg_law_effects.proofs.MemoryBytes.{written_cross}

-- ---- lists of local states

set_cross : {X : Type 0} (xs : List X) (t u : ℕ) (x y : X) → t ≢ u → slice_set (slice_set xs t x) u y ≡ slice_set (slice_set xs u y) t x
set_cross [] t u x y h = refl
set_cross (z ∷ xs) zero zero x y h = absurd (h refl)
set_cross (z ∷ xs) zero (suc u) x y h = refl
set_cross (z ∷ xs) (suc t) zero x y h = refl
set_cross (z ∷ xs) (suc t) (suc u) x y h = ap (λ zs. z ∷ zs) (set_cross xs t u x y (λ e. h (ap suc e)))

local_cross : (ls : List LocalState) (t u : ℕ) (l k : Option LocalState) → t ≢ u → local_set u k (local_set t l ls) ≡ local_set t l (local_set u k ls)
local_cross ls t u None k h = refl
local_cross ls t u (Some x) None h = refl
local_cross ls t u (Some x) (Some y) h = set_cross ls t u x y h

set_before : (ls : List LocalState) (t : ℕ) (l : Option LocalState) (m : LocalState) → t < length ls → local_set t l ls ++ m ∷ [] ≡ local_set t l (ls ++ m ∷ [])
set_before ls t None m h = refl
set_before ls t (Some x) m h = sym (set-append_left ls (m ∷ []) t x h)

made_cross : (ls : List LocalState) (t : ℕ) (l : Option LocalState) (m : Option MadeThread) → t < length ls → with_local m (local_set t l ls) ≡ local_set t l (with_local m ls)
made_cross ls t l None h = refl
made_cross ls t l (Some m) h = set_before ls t l m.local h

request_cross : (ls : List LocalState) (t : ℕ) (l : Option LocalState) (r : Option RequestEffect) → t < length ls → locals_with r (local_set t l ls) ≡ local_set t l (locals_with r ls)
request_cross ls t l None h = refl
request_cross ls t l (Some r) h = made_cross ls t l r.made h

-- the first is no request
locals_plain : (ls : List LocalState) (t u : ℕ) (l k : Option LocalState) (r : Option RequestEffect) → t ≢ u → t < length ls
    → local_set u k (locals_with r (local_set t l ls)) ≡ local_set t l (local_set u k (locals_with r ls))
locals_plain ls t u l k r n h = ap (local_set u k) (request_cross ls t l r h) ∙ local_cross (locals_with r ls) t u l k n

locals_cross : (ls : List LocalState) (t u : ℕ) (l k : Option LocalState) (q r : Option RequestEffect) → t ≢ u → (is_some q && is_some r) ≡ false → t < length ls → u < length ls
    → local_set u k (locals_with r (local_set t l (locals_with q ls))) ≡ local_set t l (locals_with q (local_set u k (locals_with r ls)))
locals_cross ls t u l k None r n e h i = locals_plain ls t u l k r n h
locals_cross ls t u l k (Some q) None n e h i = sym (locals_plain ls u t k l (Some q) (λ c. n (sym c)) i)
locals_cross ls t u l k (Some q) (Some r) n e h i = absurd cc

-- ---- memory

memory_cross : (m : Words) (v w : Option Write) → ((b : ℕ) → (is_some (byte_in v b) && is_some (byte_in w b)) ≡ false) → memory_with w (memory_with v m) ≡ memory_with v (memory_with w m)
memory_cross m None w h = refl
memory_cross m (Some v) None h = refl
memory_cross m (Some v) (Some w) h = written_cross m v.at w.at v.number w.number (λ b. only b (is_in v.at b) (is_in w.at b) refl refl (h b))
  where
    only : (b : ℕ) (x y : Bool) → is_in v.at b ≡ x → is_in w.at b ≡ y → (is_some (byte_in (Some v) b) && is_some (byte_in (Some w) b)) ≡ false
        → (is_in v.at b && is_in w.at b) ≡ false
    only b true true e k q = let z : true ≡ false = rw (e, k) at q in absurd cc
    only b true false e k q = rw (e, k) refl
    only b false y e k q = rw e refl

-- where they don't meet, not both write
writes_apart : (a b c d : Bool) → ((a && (c || b)) || ((d || a) && b)) ≡ false → (a && b) ≡ false
writes_apart true true true d e = absurd cc
writes_apart true true false d e = absurd cc
writes_apart true false c d e = refl
writes_apart false b c d e = refl

-- ---- the other parts

sync_cross : (y : sync.Sync) (q r : Option RequestEffect) → (is_some q && is_some r) ≡ false → sync_with r (sync_with q y) ≡ sync_with q (sync_with r y)
sync_cross y None r e = refl
sync_cross y (Some q) None e = refl
sync_cross y (Some q) (Some r) e = absurd cc

words_cross : (ws : List ℕ) (t u : ℕ) (q r : Option RequestEffect) → (is_some q && is_some r) ≡ false → words_with u r (words_with t q ws) ≡ words_with t q (words_with u r ws)
words_cross ws t u None r e = refl
words_cross ws t u (Some q) None e = refl
words_cross ws t u (Some q) (Some r) e = absurd cc

printed_cross : (bs : List ℕ) (q r : Option RequestEffect) → (is_some q && is_some r) ≡ false → printed_with r (printed_with q bs) ≡ printed_with q (printed_with r bs)
printed_cross bs None r e = refl
printed_cross bs (Some q) None e = refl
printed_cross bs (Some q) (Some r) e = absurd cc

value_cross : (n : ℕ) (q r : Option RequestEffect) → (is_some q && is_some r) ≡ false → value_with r (value_with q n) ≡ value_with q (value_with r n)
value_cross n None r e = refl
value_cross n (Some q) None e = refl
value_cross n (Some q) (Some r) e = absurd cc

-- ---- the state

pub effects_cross : (s : State) (e f : Effect) → AreApart e f → e.thread < length s.locals → f.thread < length s.locals → effect (effect s e) f ≡ effect (effect s f) e
unfolding effect
effects_cross s e f h l k =
    let a = locals_cross s.locals e.thread f.thread e.local f.local e.request f.request h.threads h.requests l k in
    let b = memory_cross s.memory e.writes f.writes (λ b. writes_apart (writes_byte e b) (writes_byte f b) (reads_byte f b) (reads_byte e b) (h.bytes b)) in
    let c = sync_cross s.sync e.request f.request h.requests in
    let d = words_cross s.words e.thread f.thread e.request f.request h.requests in
    let g = printed_cross s.printed e.request f.request h.requests in
    let i = value_cross s.value e.request f.request h.requests in
    cc
