-- The table of objects is a finite map.
use Rattle.std.proofs.Common.{◌≡◌, ℕ, ◌+◌, ◌<◌, ◌==◌, List, [], ◌∷◌, Bool, true, false, Option, Some, None, refl, sym, ap, ◌∙◌, arith}
use Rattle.std.specs.Prelude.{nat_lt, Ok, Err, if◌then◌else◌}
use Rattle.std.proofs.lemmas.Bool.Decides.{nat_tests}
use Rattle.pg_run_objects.specs.declared.object.Object.{Object}
use Rattle.pg_run_objects.specs.declared.object.Entry.{Entry}
use Rattle.pg_ir.specs.declared.request.Request.{Request}
use Rattle.pg_ir.specs.declared.request.TrapName.{TrapName}
use Rattle.pg_run_objects.specs.Sync.{Sync, applied, check, done, on_check}
use Rattle.pg_run_objects.specs.Objects.{IsAscendingFrom, object_at, put_object, drop_object, entry}

nowhere : (b : ℕ) → object_at b [] ≡ None
unfolding object_at
nowhere b = refl

at_front : (b : ℕ) (e : Entry) (es : List Entry) → e.place ≡ b → object_at b (e ∷ es) ≡ Some e.object
unfolding object_at
at_front b e es h = grind (arith, nat_tests)

behind : (b : ℕ) (e : Entry) (es : List Entry) → e.place < b → object_at b (e ∷ es) ≡ object_at b es
unfolding object_at
behind b e es h = grind (arith, nat_tests)

before : (b : ℕ) (e : Entry) (es : List Entry) → b < e.place → object_at b (e ∷ es) ≡ None
unfolding object_at
before b e es h = grind (arith, nat_tests)

pub object_put_same : (b : ℕ) (o : Object) (es : List Entry) → object_at b (put_object b o es) ≡ Some o
unfolding put_object
object_put_same b o [] = at_front b (entry b o) [] refl
object_put_same b o (e ∷ es) = go (object_put_same b o es) (nat_lt e.place b) refl (e.place == b)
  where
    go : object_at b (put_object b o es) ≡ Some o → (x : Bool) → nat_lt e.place b ≡ x → (y : Bool)
        → object_at b (if x then e ∷ put_object b o es else if y then entry b o ∷ es else entry b o ∷ e ∷ es) ≡ Some o
    go k true f y = behind b e (put_object b o es) (grind (arith, nat_tests)) ∙ k
    go k false f true = at_front b (entry b o) es refl
    go k false f false = at_front b (entry b o) (e ∷ es) refl

pub object_put_other : (b c : ℕ) (o : Object) (es : List Entry) → (b == c) ≡ false → object_at c (put_object b o es) ≡ object_at c es
unfolding put_object object_at
object_put_other b c o [] h = grind (arith, nat_tests)
object_put_other b c o (e ∷ es) h = let k = object_put_other b c o es h in grind (arith, nat_tests, k)

pub object_below : (b c : ℕ) (es : List Entry) → IsAscendingFrom c es → b < c → object_at b es ≡ None
unfolding IsAscendingFrom object_at
object_below b c [] a l = refl
object_below b c (e ∷ es) a l = let k : b < e.place = omega (arith, a.0, l) in grind (arith, nat_tests)

pub object_drop_same : (low b : ℕ) (es : List Entry) → IsAscendingFrom low es → object_at b (drop_object b es) ≡ None
unfolding IsAscendingFrom drop_object
object_drop_same low b [] a = nowhere b
object_drop_same low b (e ∷ es) a = go (object_drop_same (e.place + 1) b es a.1) (nat_lt e.place b) refl (e.place == b) refl
  where
    go : object_at b (drop_object b es) ≡ None → (x : Bool) → nat_lt e.place b ≡ x → (y : Bool) → (e.place == b) ≡ y
        → object_at b (if x then e ∷ drop_object b es else if y then es else e ∷ es) ≡ None
    go k true f y g = behind b e (drop_object b es) (grind (arith, nat_tests)) ∙ k
    go k false f true g = let m : e.place ≡ b = grind (arith, nat_tests) in object_below b (e.place + 1) es a.1 (omega (arith, m))
    go k false f false g = before b e es (grind (arith, nat_tests))

pub object_drop_other : (low b c : ℕ) (es : List Entry) → IsAscendingFrom low es → (b == c) ≡ false → object_at c (drop_object b es) ≡ object_at c es
unfolding IsAscendingFrom drop_object object_at
object_drop_other low b c [] a h = refl
object_drop_other low b c (e ∷ es) a h = go (object_drop_other (e.place + 1) b c es a.1 h) (nat_lt e.place b) (e.place == b) refl
  where
    go : object_at c (drop_object b es) ≡ object_at c es → (x y : Bool) → (e.place == b) ≡ y
        → object_at c (if x then e ∷ drop_object b es else if y then es else e ∷ es) ≡ object_at c (e ∷ es)
    go k true y g = grind (arith, nat_tests, k)
    go k false true g = either (nat_lt c b) refl
      where
        either : (x : Bool) → nat_lt c b ≡ x → object_at c es ≡ object_at c (e ∷ es)
        either true l = object_below c (e.place + 1) es a.1 (grind (arith, nat_tests)) ∙ sym (before c e es (grind (arith, nat_tests)))
        either false l = sym (behind c e es (grind (arith, nat_tests)))
    go k false false g = refl

-- ---- requests

pub applied_trap : (y : Sync) (t : ℕ) (r : Request) (name : TrapName) → check y t r ≡ Some name → applied y t r ≡ (y, Err name)
unfolding applied
applied_trap y t r name h = ap (λ (o : Option TrapName). on_check o y (done y t r)) h

pub applied_done : (y : Sync) (t : ℕ) (r : Request) → check y t r ≡ None → applied y t r ≡ ((done y t r).0, Ok (done y t r).1)
unfolding applied
applied_done y t r h = ap (λ (o : Option TrapName). on_check o y (done y t r)) h
