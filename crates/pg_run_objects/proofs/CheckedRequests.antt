-- What a request whose checks hold may rely on.
use Rattle.std.proofs.Common.{◌≡◌, ℕ, ◌+◌, ◌<◌, ◌≤◌, ◌==◌, ◌&&◌, not, List, [], ◌∷◌, length, Bool, true, false, Option, Some, None, refl, sym, ap}
use Rattle.std.proofs.Common.{◌∙◌, arith, zero, suc}
use Rattle.std.specs.Prelude.{slice_get, map}
use Rattle.std.proofs.lemmas.Bool.Decides.{nat_tests}
use Rattle.pg_ir.specs.pg_num.declared.limits.TheConstants.{OBJECT_LIMIT}
use Rattle.pg_ir.specs.declared.request.TrapName.{TrapName}
use Rattle.pg_ir.specs.declared.request.Request.{Request}
use Rattle.pg_run_objects.specs.declared.object.Object.{Object}
use Rattle.pg_run_objects.specs.declared.status.Stage.{Stage}
use Rattle.pg_run_objects.specs.declared.status.Stage.TheVariants.{Made, Running, Waiting, Arrived, Ended}
use Rattle.pg_run_objects.specs.declared.status.Status.{Status}
use Rattle.pg_run_objects.specs.Objects.{object_at, put_object, is_missing}
use Rattle.pg_run_objects.specs.Stages.{is_unsignalled, may_ask, is_wake}
use Rattle.pg_run_objects.specs.Sync.{Sync, check_one, check_two, first_trap, unless, room_for, one_if, missing_of, is_signalled, may_join, stage_in, release}
use Rattle.pg_run_objects.proofs.WaiterCounts.{release_waits}
use Rattle.pg_run_objects.proofs.ObjectTables.{length_put}
use Rattle.pg_run_objects.proofs.ObjectMaps.{object_put_same, object_put_other}

later : (a b : Option TrapName) → first_trap a b ≡ None → b ≡ None
later None b h = h
later (Some name) b h = absurd cc

earlier : (a b : Option TrapName) → first_trap a b ≡ None → a ≡ None
earlier None b h = refl
earlier (Some name) b h = absurd cc

pub holds : (b : Bool) (name : TrapName) → unless b name ≡ None → b ≡ true
holds true name h = refl
holds false name h = absurd cc

pub room_for_some : (y : Sync) (n : ℕ) → room_for y n ≡ None → 0 < n → length y.objects + n ≤ OBJECT_LIMIT
room_for_some y n h l = let k = holds _ _ h in grind (arith, nat_tests)

pub room_one : (y : Sync) (kind : Bool) (x : Option Object) (state : Option TrapName) → check_one y kind x state ≡ None → is_missing x ≡ true → length y.objects < OBJECT_LIMIT
room_one y kind x state h m =
    let r : room_for y (one_if (is_missing x)) ≡ None = earlier _ _ (later _ _ h) in
    let z : one_if (is_missing x) ≡ 1 = ap one_if m in
    omega (arith, room_for_some y (one_if (is_missing x)) r (omega (arith, z)), z)

pub room_two : (y : Sync) (c m : ℕ) (state : Option TrapName) → check_two y c m state ≡ None → room_for y (missing_of y c m) ≡ None
room_two y c m state h = earlier _ _ (later _ _ (later _ _ h))

pub room_first : (y : Sync) (c m : ℕ) → room_for y (missing_of y c m) ≡ None → is_missing (object_at c y.objects) ≡ true → length y.objects < OBJECT_LIMIT
room_first y c m r h =
    let z : one_if (is_missing (object_at c y.objects)) ≡ 1 = ap one_if h in
    omega (arith, room_for_some y (missing_of y c m) r (omega (arith, z)), z)

pub room_second : (y : Sync) (c m : ℕ) (o : Object) → room_for y (missing_of y c m) ≡ None → is_missing (object_at m (put_object c o y.objects)) ≡ true
    → length (put_object c o y.objects) < OBJECT_LIMIT
room_second y c m o r h = go (c == m) refl
  where
    go : (b : Bool) → (c == m) ≡ b → length (put_object c o y.objects) < OBJECT_LIMIT
    go true e =
        let n : c ≡ m = grind (arith, nat_tests) in
        let k : is_missing (object_at m (put_object c o y.objects)) ≡ false = rw (sym n) (ap is_missing (object_put_same c o y.objects)) in
        absurd cc
    go false e =
        let k : is_missing (object_at m y.objects) ≡ true = ap is_missing (sym (object_put_other c m o y.objects e)) ∙ h in
        let z : one_if (is_missing (object_at m y.objects) && not (c == m)) ≡ 1 = ap (λ (b : Bool). one_if (b && not (c == m))) k ∙ ap (λ (b : Bool). one_if (not b)) e in
        omega (arith, room_for_some y (missing_of y c m) r (omega (arith, z)), z, length_put c o y.objects)

-- ---- threads

pub asks_when_unsignalled : (s : Stage) (r : Request) → may_ask s r ≡ true → is_wake r ≡ false → is_unsignalled s ≡ false
unfolding may_ask
asks_when_unsignalled Made r h n = refl
asks_when_unsignalled Running r h n = refl
asks_when_unsignalled (Waiting signalled) r h n = absurd cc
asks_when_unsignalled (Arrived barrier released last) r h n = refl
asks_when_unsignalled Ended r h n = refl

pub wakes_when_signalled : (s : Stage) (b : Bool) → (is_signalled s && b) ≡ true → is_unsignalled s ≡ false
wakes_when_signalled Made b h = refl
wakes_when_signalled Running b h = refl
wakes_when_signalled (Waiting true) b h = refl
wakes_when_signalled (Waiting false) b h = absurd cc
wakes_when_signalled (Arrived barrier released last) b h = refl
wakes_when_signalled Ended b h = refl

within : (ss : List Status) (t : ℕ) (o : Option Status) → slice_get ss t ≡ o → (o ≡ None → ⊥) → t < length ss
within [] t o e n = absurd (n (sym e))
within (s ∷ ss) zero o e n = omega arith
within (s ∷ ss) (suc t) o e n = omega (arith, within ss t o e n)

ended_asks_nothing : (r : Request) → may_ask Ended r ≡ true → ⊥
unfolding may_ask
ended_asks_nothing r h = cc

pub asks_when_made : (ss : List Status) (t : ℕ) (r : Request) → may_ask (stage_in (slice_get ss t)) r ≡ true → t < length ss
asks_when_made ss t r h = within ss t (slice_get ss t) refl (λ e. ended_asks_nothing r (rw e at h))

pub joined_when_made : (ss : List Status) (t n : ℕ) → may_join t n (slice_get ss n) ≡ true → n < length ss
joined_when_made ss t n h = within ss n (slice_get ss n) refl (λ e. no_thread (rw e at h))
  where
    no_thread : may_join t n None ≡ true → ⊥
    no_thread h = cc

pub released_in : (b t : ℕ) (ss : List Status) → is_unsignalled (stage_in (slice_get (map (release b) ss) t)) ≡ is_unsignalled (stage_in (slice_get ss t))
released_in b t [] = refl
released_in b zero (s ∷ ss) = release_waits b s
released_in b (suc t) (s ∷ ss) = released_in b t ss
