-- Turns of several threads, added up.
use Rattle.std.proofs.Common.{◌≡◌, ◌≢◌, ℕ, zero, suc, ◌+◌, ◌*◌, ◌<◌, ◌≤◌, ◌⊎◌, inl, inr, List, [], ◌∷◌, length, Bool, true, false, Some, refl, sym, ◌∙◌, ap, arith}
use Rattle.std.specs.Prelude.{◌==◌, slice_get, if◌then◌else◌}
use Rattle.std.proofs.lemmas.Bool.{cases_lt, eq-eqb, eqb-true, false_from_ne_true}
use Rattle.pg_room.specs.pg_crew.Workers.{done_by, turns_of_first}
use Rattle.pg_room.proofs.of_pg_law_course.TurnNumbers.{below}
use Rattle.pg_room.specs.pg_worker.declared.worker.Worker.{Worker}

-- the sum over the first n threads
abbrev pub sum_first : ℕ → (ℕ → ℕ) → ℕ
sum_first zero f = 0
sum_first (suc n) f = sum_first n f + f n

pub sum_same : (n : ℕ) (f h : ℕ → ℕ) → ((t : ℕ) → t < n → f t ≡ h t) → sum_first n f ≡ sum_first n h
sum_same zero f h e = refl
sum_same (suc n) f h e =
    let more = sum_same n f h (λ t l. e t (omega (arith, l))) in
    let here = e n (omega arith) in
    omega (arith, more, here)

pub sum_few : (n m : ℕ) (f : ℕ → ℕ) → ((t : ℕ) → t < n → f t ≤ m) → sum_first n f ≤ n * m
sum_few zero m f e = omega arith
sum_few (suc n) m f e =
    let more = sum_few n m f (λ t l. e t (omega (arith, l))) in
    let here = e n (omega arith) in
    let s : suc n * m ≡ n * m + m = grind arith in
    omega (arith, more, here, s)

sum_plus : (n : ℕ) (f h k : ℕ → ℕ) → ((t : ℕ) → k t ≡ f t + h t) → sum_first n k ≡ sum_first n f + sum_first n h
sum_plus zero f h k e = refl
sum_plus (suc n) f h k e =
    let more = sum_plus n f h k e in
    let here = e n in
    omega (arith, more, here)

-- 1 for this thread, 0 for another
abbrev one_if : ℕ → ℕ → ℕ
one_if o t = if t == o then 1 else 0

sum_none : (n o : ℕ) → n ≤ o → sum_first n (one_if o) ≡ 0
sum_none zero o l = refl
sum_none (suc n) o l =
    let more = sum_none n o (omega (arith, l)) in
    let other : (n == o) ≡ false = false_from_ne_true (n == o) (λ e. (let k = eqb-true n o e in omega (arith, k, l))) in
    let here : one_if o n ≡ 0 = ap (λ (b : Bool). if b then 1 else 0) other in
    omega (arith, more, here)

sum_one : (n o : ℕ) → o < n → sum_first n (one_if o) ≡ 1
sum_one zero o l = absurd (omega (arith, l))
sum_one (suc n) o l = go (n == o) refl (sum_one n o)
  where
    go : (b : Bool) → (n == o) ≡ b → (o < n → sum_first n (one_if o) ≡ 1) → sum_first n (one_if o) + one_if o n ≡ 1
    go true q rest =
        let same = eqb-true n o q in
        let none = sum_none n o (omega (arith, same)) in
        let here : one_if o n ≡ 1 = ap (λ (b : Bool). if b then 1 else 0) q in
        omega (arith, none, here)
    go false q rest =
        let more = rest (below_last (λ e. (let k : true ≡ false = sym (eq-eqb n o e) ∙ q in absurd cc))) in
        let here : one_if o n ≡ 0 = ap (λ (b : Bool). if b then 1 else 0) q in
        omega (arith, more, here)
      where
        below_last : n ≢ o → o < n
        below_last ne = cases (cases_lt o n)
          where
            cases : (o < n) ⊎ (n ≤ o) → o < n
            cases (inl lt) = lt
            cases (inr le) = absurd (ne (omega (arith, l, le)))

-- the first g turns are those of all threads
pub all_below : (n g : ℕ) (T : List ℕ) → g ≤ length T → ((h t : ℕ) → h < g → slice_get T h ≡ Some t → t < n) → sum_first n (λ t. below t g T) ≡ g
all_below n zero T l e = nothing n
  where
    nothing : (n : ℕ) → sum_first n (λ t. below t 0 T) ≡ 0
    nothing zero = refl
    nothing (suc n) = let k = nothing n in omega (arith, k)
all_below n (suc g) [] l e = absurd (omega (arith, l))
all_below n (suc g) (o ∷ T) l e =
    let more = all_below n g T (omega (arith, l)) (λ h t lt q. e (suc h) t (omega (arith, lt)) q) in
    let first = sum_one n o (e 0 o (omega arith) refl) in
    let both = sum_plus n (one_if o) (λ t. below t g T) (λ t. below t (suc g) (o ∷ T)) (λ t. by (t == o) (below t g T)) in
    omega (arith, more, first, both)
  where
    by : (b : Bool) (m : ℕ) → (if b then suc m else m) ≡ (if b then 1 else 0) + m
    by true m = omega arith
    by false m = omega arith

-- ---- the turns that workers did

abbrev done_at : List Worker → ℕ → ℕ
done_at ws t = done_by (slice_get ws t)

pub turns_same : (n : ℕ) (a b c : List Worker) → ((t : ℕ) → t < n → done_at a t ≡ done_at b t) → turns_of_first n a c ≡ turns_of_first n b c
turns_same zero a b c e = refl
turns_same (suc n) a b c e =
    let more = turns_same n a b c (λ t l. e t (omega (arith, l))) in
    let here = e n (omega arith) in
    omega (arith, more, here)

pub turns_more : (n : ℕ) (a b c : List Worker) → ((t : ℕ) → t < n → done_at a t ≤ done_at b t) → ((t : ℕ) → t < n → done_at b t ≤ done_at c t)
    → turns_of_first n a b + turns_of_first n b c ≡ turns_of_first n a c
turns_more zero a b c e f = refl
turns_more (suc n) a b c e f =
    let more = turns_more n a b c (λ t l. e t (omega (arith, l))) (λ t l. f t (omega (arith, l))) in
    let here = e n (omega arith) in
    let there = f n (omega arith) in
    omega (arith, more, here, there)

pub turns_first : (n : ℕ) (a b : List Worker) → ((t : ℕ) → t < n → done_at a t ≡ 0) → turns_of_first n a b ≡ sum_first n (done_at b)
turns_first zero a b e = refl
turns_first (suc n) a b e =
    let more = turns_first n a b (λ t l. e t (omega (arith, l))) in
    let here = e n (omega arith) in
    omega (arith, more, here)
