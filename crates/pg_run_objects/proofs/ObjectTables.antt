-- The table of objects by index: what finding, putting and taking away come to.
use Rattle.std.proofs.Common.{◌≡◌, ℕ, Bool, ◌+◌, ◌<◌, ◌≤◌, ◌==◌, List, [], ◌∷◌, ◌++◌, length, take, drop, Option, Some, None, refl, sym, ap, ◌∙◌}
use Rattle.std.proofs.Common.{arith, IfSome, true, false, get_or, add-one, zero, suc}
use Rattle.std.specs.Prelude.{slice_get, slice_set, nat_lt, if◌then◌else◌}
use Rattle.std.specs.List.{insert, remove}
use Rattle.std.proofs.lemmas.Option.{gets, slice_get-get_or, slice_get_within, same_Some}
use Rattle.std.proofs.lemmas.Grind.{common_steps}
use Rattle.std.proofs.lemmas.List.{take-append-drop, take-set, drop-set}
use Rattle.std.proofs.lemmas.Bool.Decides.{nat_tests}
use Rattle.pg_run_objects.specs.declared.object.Object.{Object}
use Rattle.pg_run_objects.specs.declared.object.Entry.{Entry}
use Rattle.pg_run_objects.specs.Objects.{IsAscendingFrom, object_at, put_object, drop_object, entry, is_missing}
use Rattle.pg_run_objects.specs.Sync.{one_if}
use Rattle.pg_run_objects.specs.Places.{AllBelow, place_is, object_here}

-- ---- entries before a place

pub below_none : (b : ℕ) (es : List Entry) → AllBelow b (take 0 es)
unfolding AllBelow
below_none b [] = tt
below_none b (e ∷ es) = tt

ascending_at : (low : ℕ) (es : List Entry) (i : ℕ) (e : Entry) → IsAscendingFrom low es → slice_get es i ≡ Some e → low ≤ e.place
unfolding IsAscendingFrom
ascending_at low [] i e a h = absurd cc
ascending_at low (x ∷ es) zero e a h = let k : x ≡ e = same_Some _ _ h in rw (sym k) a.0
ascending_at low (x ∷ es) (suc i) e a h = omega (arith, a.0, ascending_at (x.place + 1) es i e a.1 h)

below_from : (low b : ℕ) (es : List Entry) (i : ℕ) (e : Entry) → IsAscendingFrom low es → slice_get es i ≡ Some e → e.place < b → AllBelow b (take (suc i) es)
unfolding IsAscendingFrom AllBelow
below_from low b [] i e a h l = tt
below_from low b (x ∷ es) zero e a h l = let k : x ≡ e = same_Some _ _ h in (rw k l, below_none b es)
below_from low b (x ∷ es) (suc i) e a h l = (omega (arith, l, ascending_at (x.place + 1) es i e a.1 h), below_from (x.place + 1) b es i e a.1 h l)

pub below_up_to : (b : ℕ) (es : List Entry) (i : ℕ) (d : Entry) → IsAscendingFrom 0 es → i < length es → (get_or es i d).place < b → AllBelow b (take (i + 1) es)
below_up_to b es i d a l h = rw add-one (below_from 0 b es i (get_or es i d) a (slice_get-get_or es i d l) h)

pub stops_at : (b : ℕ) (es : List Entry) (i : ℕ) (d : Entry) → i < length es → b ≤ (get_or es i d).place → IfSome (slice_get es i) (λ e. b ≤ e.place)
stops_at b es i d l h = rw (slice_get-get_or es i d l) h

-- ---- entries before a place are passed

pub object_past : (b : ℕ) (xs ys : List Entry) → AllBelow b xs → object_at b (xs ++ ys) ≡ object_at b ys
unfolding AllBelow object_at
object_past b [] ys h = refl
object_past b (x ∷ xs) ys h = let l : x.place < b = h.0 in let k = object_past b xs ys h.1 in grind (arith, nat_tests, k)

pub put_past : (b : ℕ) (o : Object) (xs ys : List Entry) → AllBelow b xs → put_object b o (xs ++ ys) ≡ xs ++ put_object b o ys
unfolding AllBelow put_object
put_past b o [] ys h = refl
put_past b o (x ∷ xs) ys h = let l : x.place < b = h.0 in let k = put_past b o xs ys h.1 in grind (arith, nat_tests, k)

pub drop_past : (b : ℕ) (xs ys : List Entry) → AllBelow b xs → drop_object b (xs ++ ys) ≡ xs ++ drop_object b ys
unfolding AllBelow drop_object
drop_past b [] ys h = refl
drop_past b (x ∷ xs) ys h = let l : x.place < b = h.0 in let k = drop_past b xs ys h.1 in grind (arith, nat_tests, k)

-- ---- at the index

split_at : (xs : List Entry) (i : ℕ) (e : Entry) → slice_get xs i ≡ Some e → drop i xs ≡ e ∷ drop (i + 1) xs
split_at xs i e h = grind (arith, common_steps, gets)

past : (xs : List Entry) (i : ℕ) → slice_get xs i ≡ None → drop i xs ≡ []
past xs i h = grind (arith, common_steps, gets)

object_front : (b : ℕ) (xs : List Entry) (i : ℕ) → AllBelow b (take i xs) → object_at b xs ≡ object_at b (drop i xs)
object_front b xs i h = ap (object_at b) (sym (take-append-drop i xs)) ∙ object_past b (take i xs) (drop i xs) h

object_here_is : (b : ℕ) (ys : List Entry) (e : Entry) → b ≤ e.place → object_at b (e ∷ ys) ≡ object_here b (Some e)
unfolding object_at
object_here_is b ys e l = grind (arith, nat_tests)

pub lookup_is : (b : ℕ) (xs : List Entry) (i : ℕ) → AllBelow b (take i xs) → IfSome (slice_get xs i) (λ e. b ≤ e.place) → object_at b xs ≡ object_here b (slice_get xs i)
unfolding object_at
lookup_is b xs i f h = object_front b xs i f ∙ go (slice_get xs i) refl h
  where
    go : (o : Option Entry) → slice_get xs i ≡ o → IfSome o (λ e. b ≤ e.place) → object_at b (drop i xs) ≡ object_here b o
    go None e h = ap (object_at b) (past xs i e)
    go (Some x) e h = ap (object_at b) (split_at xs i x e) ∙ object_here_is b (drop (i + 1) xs) x h

put_front : (b : ℕ) (o : Object) (xs : List Entry) (i : ℕ) → AllBelow b (take i xs) → put_object b o xs ≡ take i xs ++ put_object b o (drop i xs)
put_front b o xs i h = ap (put_object b o) (sym (take-append-drop i xs)) ∙ put_past b o (take i xs) (drop i xs) h

set_parts : (xs : List Entry) (i : ℕ) (e x : Entry) → slice_get xs i ≡ Some e → slice_set xs i x ≡ take i xs ++ (x ∷ drop (i + 1) xs)
set_parts xs i e x h =
    let l : i < length xs = slice_get_within xs i e h in
    sym (take-append-drop i (slice_set xs i x)) ∙ rw (take-set, drop-set xs i x l) refl

pub put_same : (b : ℕ) (o : Object) (xs : List Entry) (i : ℕ) → AllBelow b (take i xs) → place_is b (slice_get xs i) ≡ true → put_object b o xs ≡ slice_set xs i (entry b o)
unfolding put_object
put_same b o xs i f h = put_front b o xs i f ∙ go (slice_get xs i) refl h
  where
    go : (x : Option Entry) → slice_get xs i ≡ x → place_is b x ≡ true → take i xs ++ put_object b o (drop i xs) ≡ slice_set xs i (entry b o)
    go None e h = absurd cc
    go (Some x) e h =
        let n : x.place ≡ b = grind (arith, nat_tests) in
        let k : put_object b o (x ∷ drop (i + 1) xs) ≡ entry b o ∷ drop (i + 1) xs = grind (arith, nat_tests) in
        ap (λ (ys : List Entry). take i xs ++ put_object b o ys) (split_at xs i x e) ∙ ap (λ (ys : List Entry). take i xs ++ ys) k ∙ sym (set_parts xs i x (entry b o) e)

put_before : (b : ℕ) (o : Object) (x : Entry) (ys : List Entry) → b < x.place → put_object b o (x ∷ ys) ≡ entry b o ∷ x ∷ ys
unfolding put_object
put_before b o x ys l = grind (arith, nat_tests)

pub put_new : (b : ℕ) (o : Object) (xs : List Entry) (i : ℕ) → AllBelow b (take i xs) → IfSome (slice_get xs i) (λ e. b ≤ e.place) → place_is b (slice_get xs i) ≡ false
    → put_object b o xs ≡ insert xs i (entry b o)
unfolding put_object
put_new b o xs i f h n = put_front b o xs i f ∙ go (slice_get xs i) refl h n
  where
    go : (x : Option Entry) → slice_get xs i ≡ x → IfSome x (λ e. b ≤ e.place) → place_is b x ≡ false → take i xs ++ put_object b o (drop i xs) ≡ insert xs i (entry b o)
    go None e h n = ap (λ (ys : List Entry). take i xs ++ put_object b o ys) (past xs i e) ∙ ap (λ (ys : List Entry). take i xs ++ entry b o ∷ ys) (sym (past xs i e))
    go (Some x) e h n =
        let m : b < x.place = grind (arith, nat_tests) in
        ap (λ (ys : List Entry). take i xs ++ put_object b o ys) (split_at xs i x e) ∙ ap (λ (ys : List Entry). take i xs ++ ys) (put_before b o x (drop (i + 1) xs) m)
        ∙ ap (λ (ys : List Entry). take i xs ++ entry b o ∷ ys) (sym (split_at xs i x e))

drop_front : (b : ℕ) (xs : List Entry) (i : ℕ) → AllBelow b (take i xs) → drop_object b xs ≡ take i xs ++ drop_object b (drop i xs)
drop_front b xs i h = ap (drop_object b) (sym (take-append-drop i xs)) ∙ drop_past b (take i xs) (drop i xs) h

pub drop_same : (b : ℕ) (xs : List Entry) (i : ℕ) → AllBelow b (take i xs) → place_is b (slice_get xs i) ≡ true → drop_object b xs ≡ remove xs i
unfolding drop_object
drop_same b xs i f h = drop_front b xs i f ∙ go (slice_get xs i) refl h
  where
    go : (x : Option Entry) → slice_get xs i ≡ x → place_is b x ≡ true → take i xs ++ drop_object b (drop i xs) ≡ remove xs i
    go None e h = absurd cc
    go (Some x) e h =
        let n : x.place ≡ b = grind (arith, nat_tests) in
        let k : drop_object b (x ∷ drop (i + 1) xs) ≡ drop (i + 1) xs = grind (arith, nat_tests) in
        ap (λ (ys : List Entry). take i xs ++ drop_object b ys) (split_at xs i x e) ∙ ap (λ (ys : List Entry). take i xs ++ ys) k ∙ ap (λ (n : ℕ). take i xs ++ drop n xs) (add-one i)

drop_before : (b : ℕ) (x : Entry) (ys : List Entry) → b < x.place → drop_object b (x ∷ ys) ≡ x ∷ ys
unfolding drop_object
drop_before b x ys l = grind (arith, nat_tests)

pub drop_missing : (b : ℕ) (xs : List Entry) (i : ℕ) → AllBelow b (take i xs) → IfSome (slice_get xs i) (λ e. b ≤ e.place) → place_is b (slice_get xs i) ≡ false
    → drop_object b xs ≡ xs
unfolding drop_object
drop_missing b xs i f h n = drop_front b xs i f ∙ go (slice_get xs i) refl h n ∙ take-append-drop i xs
  where
    go : (x : Option Entry) → slice_get xs i ≡ x → IfSome x (λ e. b ≤ e.place) → place_is b x ≡ false → take i xs ++ drop_object b (drop i xs) ≡ take i xs ++ drop i xs
    go None e h n = ap (λ (ys : List Entry). take i xs ++ drop_object b ys) (past xs i e) ∙ ap (λ (ys : List Entry). take i xs ++ ys) (sym (past xs i e))
    go (Some x) e h n =
        let m : b < x.place = grind (arith, nat_tests) in
        ap (λ (ys : List Entry). take i xs ++ drop_object b ys) (split_at xs i x e) ∙ ap (λ (ys : List Entry). take i xs ++ ys) (drop_before b x (drop (i + 1) xs) m)
        ∙ ap (λ (ys : List Entry). take i xs ++ ys) (sym (split_at xs i x e))

-- ---- order

pub ascending_weaker : (low b : ℕ) (es : List Entry) → IsAscendingFrom b es → low ≤ b → IsAscendingFrom low es
unfolding IsAscendingFrom
ascending_weaker low b [] h l = tt
ascending_weaker low b (e ∷ es) h l = (omega (arith, h.0, l), h.1)

pub ascending_put : (low b : ℕ) (o : Object) (es : List Entry) → IsAscendingFrom low es → low ≤ b → IsAscendingFrom low (put_object b o es)
unfolding IsAscendingFrom put_object
ascending_put low b o [] h l = (l, tt)
ascending_put low b o (e ∷ es) h l = go (λ k. ascending_put (e.place + 1) b o es h.1 k) (nat_lt e.place b) refl (e.place == b) refl
  where
    go : (e.place + 1 ≤ b → IsAscendingFrom (e.place + 1) (put_object b o es)) → (x : Bool) → nat_lt e.place b ≡ x → (y : Bool) → (e.place == b) ≡ y
        → IsAscendingFrom low (if x then e ∷ put_object b o es else if y then entry b o ∷ es else entry b o ∷ e ∷ es)
    go k true f y g = let m : e.place < b = grind (arith, nat_tests) in (h.0, k (omega (arith, m)))
    go k false f true g = let m : e.place ≡ b = grind (arith, nat_tests) in (l, rw (sym m) h.1)
    go k false f false g = let m : b < e.place = grind (arith, nat_tests) in (l, (omega (arith, m), h.1))

pub ascending_drop : (low b : ℕ) (es : List Entry) → IsAscendingFrom low es → IsAscendingFrom low (drop_object b es)
unfolding IsAscendingFrom drop_object
ascending_drop low b [] h = tt
ascending_drop low b (e ∷ es) h = go (ascending_drop (e.place + 1) b es h.1) (nat_lt e.place b) (e.place == b)
  where
    go : IsAscendingFrom (e.place + 1) (drop_object b es) → (x y : Bool) → IsAscendingFrom low (if x then e ∷ drop_object b es else if y then es else e ∷ es)
    go k true y = (h.0, k)
    go k false true = ascending_weaker low (e.place + 1) es h.1 (omega (arith, h.0))
    go k false false = (h.0, h.1)

-- ---- size

pub length_put : (b : ℕ) (o : Object) (es : List Entry) → length (put_object b o es) ≡ length es + one_if (is_missing (object_at b es))
unfolding put_object object_at
length_put b o [] = omega arith
length_put b o (e ∷ es) = go (length_put b o es) (nat_lt e.place b) (e.place == b)
  where
    go : length (put_object b o es) ≡ length es + one_if (is_missing (object_at b es)) → (x y : Bool)
        → length (if x then e ∷ put_object b o es else if y then entry b o ∷ es else entry b o ∷ e ∷ es)
        ≡ length (e ∷ es) + one_if (is_missing (if x then object_at b es else if y then Some e.object else None))
    go k true y = omega (arith, k)
    go k false true = omega arith
    go k false false = omega arith

pub length_drop_object : (b : ℕ) (es : List Entry) → length (drop_object b es) ≤ length es
unfolding drop_object
length_drop_object b [] = omega arith
length_drop_object b (e ∷ es) = go (length_drop_object b es) (nat_lt e.place b) (e.place == b)
  where
    go : length (drop_object b es) ≤ length es → (x y : Bool) → length (if x then e ∷ drop_object b es else if y then es else e ∷ es) ≤ length (e ∷ es)
    go k true y = omega (arith, k)
    go k false true = omega arith
    go k false false = omega arith

pub lookup_missing : (b : ℕ) (xs : List Entry) (i : ℕ) → AllBelow b (take i xs) → IfSome (slice_get xs i) (λ e. b ≤ e.place) → place_is b (slice_get xs i) ≡ false
    → object_at b xs ≡ None
lookup_missing b xs i f h n = lookup_is b xs i f h ∙ go (slice_get xs i) n
  where
    go : (o : Option Entry) → place_is b o ≡ false → object_here b o ≡ None
    go None n = refl
    go (Some x) n = rw n refl
