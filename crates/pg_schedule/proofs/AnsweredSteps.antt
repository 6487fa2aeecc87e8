-- Which steps the touches of a trace's steps answer: those that are unordered with them.
use Rattle.std.proofs.Common.{◌≡◌, ℕ, ◌==◌, ◌+◌, ◌-◌, ◌<◌, ◌≤◌, ◌⊎◌, Bool, true, false, List, [], ◌∷◌, ◌++◌, length, map, take, drop, Option}
use Rattle.std.proofs.Common.{Some, None, refl, sym, ap, ◌∙◌, subst, arith, zero, suc, inl, inr}
use Rattle.std.specs.Prelude.{◌&&◌, ◌||◌, not, max, nat_lt, slice_get}
use Rattle.std.specs.List.{AllByRecursion as AllOf, list_any}
use Rattle.std.proofs.lemmas.Bool.{cases_lt, eqb-true, eqb-false, eq-eqb, ne_eqb, lt-ltb, le-ltb, and_from, and_left, and_right, not_from_true, not_from_false}
use Rattle.std.proofs.lemmas.List.Folds.{list_any-append}
use Rattle.pg_num.specs.Places.{ByteRange}
use Rattle.pg_ir.specs.declared.ids.ThreadNo.{ThreadNo}
use Rattle.pg_law_threads.specs.Steps.{View, EachPair}
use Rattle.pg_law_threads.specs.Intervals.{AreTurns, Timed, done_after, did_of, owners, times}
use Rattle.pg_law_threads.proofs.DoneLists.{all_map, all_right, pairs_after, pairs_before}
use Rattle.pg_law_threads.proofs.LastAndNextTurn.{next_from_end}
use Rattle.pg_law_threads.proofs.TimedSteps.{did_times, low_high, low_up, within_after}
use Rattle.pg_law_threads.proofs.OwnTurns.{own_turns}
use Rattle.pg_run_trace.specs.declared.step.Access.{Access}
use Rattle.pg_run_trace.specs.declared.step.Step.{Step}
use Rattle.pg_run_trace.specs.Steps.{access_of, range_of}
use Rattle.pg_run_trace.specs.Races.{accesses_conflict, conflict, is_unordered, overlap, share, timed_by}
use Rattle.pg_schedule.specs.declared.interval.Interval.{Interval}
use Rattle.pg_schedule.specs.Intervals.{interval_of}
use Rattle.pg_law_threads.proofs.ListPlaces.{drop_get}
use Rattle.pg_schedule.specs.Touches.{answers}
use Rattle.pg_schedule.proofs.TableWalk.{before_get, behind_get}
use Rattle.pg_schedule.specs.Touching.{backward, beside, forward, touch_with}
use Rattle.pg_schedule.specs.Firsts.{before_of, behind_of}

-- ---- lists

any_map : {A B : Type 0} (p : B → Bool) (f : A → B) (xs : List A) → list_any p (map f xs) ≡ list_any (λ x. p (f x)) xs
any_map p f [] = refl
any_map p f (x ∷ xs) = ap (λ b. p (f x) || b) (any_map p f xs)

any_same : {A : Type 0} (p q : A → Bool) (xs : List A) → AllOf (λ x. p x ≡ q x) xs → list_any p xs ≡ list_any q xs
any_same p q [] h = refl
any_same p q (x ∷ xs) h = ap (λ b. b || list_any p xs) h.0 ∙ ap (λ b. q x || b) (any_same p q xs h.1)

take_map : {A B : Type 0} (f : A → B) (i : ℕ) (xs : List A) → take i (map f xs) ≡ map f (take i xs)
take_map f zero xs = refl
take_map f (suc i) [] = refl
take_map f (suc i) (x ∷ xs) = ap (λ l. f x ∷ l) (take_map f i xs)

drop_map : {A B : Type 0} (f : A → B) (i : ℕ) (xs : List A) → drop i (map f xs) ≡ map f (drop i xs)
drop_map f zero xs = refl
drop_map f (suc i) [] = refl
drop_map f (suc i) (x ∷ xs) = drop_map f i xs

get_map : {A B : Type 0} (f : A → B) (xs : List A) (i : ℕ) (x : A) → slice_get xs i ≡ Some x → slice_get (map f xs) i ≡ Some (f x)
get_map f [] i x h = absurd (cc)
get_map f (y ∷ xs) zero x h = let q : y ≡ x = cc in ap (λ z. Some (f z)) q
get_map f (y ∷ xs) (suc i) x h = get_map f xs i x h

take_drop : {A : Type 0} (i : ℕ) (xs : List A) → take i xs ++ drop i xs ≡ xs
take_drop zero xs = refl
take_drop (suc i) [] = refl
take_drop (suc i) (x ∷ xs) = ap (λ l. x ∷ l) (take_drop i xs)

pub split_at : {A : Type 0} (xs : List A) (i : ℕ) (x : A) → slice_get xs i ≡ Some x → take i xs ++ x ∷ drop (i + 1) xs ≡ xs
split_at xs i x h = sym (ap (λ l. take i xs ++ l) (drop_get xs i x h)) ∙ take_drop i xs

-- ---- the order of two steps doesn't matter

or_turn : (a b : Bool) → (a || b) ≡ (b || a)
or_turn true true = refl
or_turn true false = refl
or_turn false true = refl
or_turn false false = refl

and_turn : (a b : Bool) → (a && b) ≡ (b && a)
and_turn true true = refl
and_turn true false = refl
and_turn false true = refl
and_turn false false = refl

equal_turn : (a b : ℕ) → (a == b) ≡ (b == a)
equal_turn a b = go (a == b) refl
  where
    go : (t : Bool) → (a == b) ≡ t → (a == b) ≡ (b == a)
    go true e = e ∙ sym (eq-eqb b a (sym (eqb-true a b e)))
    go false e = e ∙ sym (ne_eqb b a (λ q. eqb-false a b e (sym q)))

share_turn : (r s : ByteRange) → share r s ≡ share s r
share_turn r s =
    let m : max r.start s.start ≡ max s.start r.start = omega arith in
    ap (λ k. nat_lt k (r.start + r.bytes) && nat_lt k (s.start + s.bytes)) m
    ∙ and_turn (nat_lt (max s.start r.start) (r.start + r.bytes)) (nat_lt (max s.start r.start) (s.start + s.bytes))

accesses_turn : (a b : Option Access) → accesses_conflict a b ≡ accesses_conflict b a
accesses_turn None None = refl
accesses_turn None (Some b) = refl
accesses_turn (Some a) None = refl
accesses_turn (Some a) (Some b) = ap (λ c. c && share (range_of a) (range_of b)) (or_turn a.writes b.writes) ∙ ap (λ c. (b.writes || a.writes) && c) (share_turn (range_of a) (range_of b))

conflict_turn : (x y : Step) → conflict x y ≡ conflict y x
conflict_turn x y =
    ap (λ t. not t && accesses_conflict (access_of x) (access_of y)) (equal_turn x.thread.0 y.thread.0)
    ∙ ap (λ c. not (y.thread.0 == x.thread.0) && c) (accesses_turn (access_of x) (access_of y))

unordered_turn : (x y : Timed Step) → is_unordered x y ≡ is_unordered y x
unordered_turn x y =
    ap (λ c. c && overlap x y) (conflict_turn x.did y.did)
    ∙ ap (λ c. conflict y.did x.did && c) (and_turn (not (nat_lt x.high y.low)) (not (nat_lt y.high x.low)))

-- ---- touches

none_left : (s : ByteRange) → share (record { start = 0; bytes = 0 }) s ≡ false
none_left s = and_left (nat_lt (max 0 s.start) (0 + 0)) (nat_lt (max 0 s.start) (s.start + s.bytes)) (le-ltb (max 0 s.start) (0 + 0) (omega arith))

none_right : (r : ByteRange) → share r (record { start = 0; bytes = 0 }) ≡ false
none_right r = and_right (nat_lt (max r.start 0) (r.start + r.bytes)) (nat_lt (max r.start 0) (0 + 0)) (le-ltb (max r.start 0) (0 + 0) (omega arith))

answer_parts : (t u : ThreadNo) (p n q m : ℕ) (a b : Option Access) → answers (touch_with t p n a) (touch_with u q m b) ≡ ((not (t.0 == u.0) && accesses_conflict a b) && nat_lt m p)
answer_parts t u p n q m None None = ap (λ c. (not (t.0 == u.0) && c) && nat_lt m p)
    (and_right (false || false) (share (record { start = 0; bytes = 0 }) (record { start = 0; bytes = 0 })) (none_left (record { start = 0; bytes = 0 })))
answer_parts t u p n q m None (Some b) = ap (λ c. (not (t.0 == u.0) && c) && nat_lt m p)
    (and_right (false || b.writes) (share (record { start = 0; bytes = 0 }) (range_of b)) (none_left (range_of b)))
answer_parts t u p n q m (Some a) None = ap (λ c. (not (t.0 == u.0) && c) && nat_lt m p)
    (and_right (a.writes || false) (share (range_of a) (record { start = 0; bytes = 0 })) (none_right (range_of a)))
answer_parts t u p n q m (Some a) (Some b) = refl

-- x stands before y
forward_answers : (x y : Timed Step) → x.low ≤ y.high → answers (forward x) (forward y) ≡ is_unordered x y
forward_answers x y h =
    answer_parts x.did.thread y.did.thread (x.high + 1) x.low (y.high + 1) y.low (access_of x.did) (access_of y.did)
    ∙ ap (λ c. conflict x.did y.did && c) (apart (cases_lt x.high y.low))
  where
    apart : (x.high < y.low) ⊎ (y.low ≤ x.high) → nat_lt y.low (x.high + 1) ≡ overlap x y
    apart (inl lt) = le-ltb y.low (x.high + 1) (omega (arith, lt)) ∙ sym
        (and_left (not (nat_lt x.high y.low)) (not (nat_lt y.high x.low)) (not_from_true (nat_lt x.high y.low) (lt-ltb x.high y.low lt)))
    apart (inr ge) = lt-ltb y.low (x.high + 1) (omega (arith, ge)) ∙ sym
        (and_from (not (nat_lt x.high y.low)) (not (nat_lt y.high x.low)) (not_from_false (nat_lt x.high y.low) (le-ltb x.high y.low ge))
        (not_from_false (nat_lt y.high x.low) (le-ltb y.high x.low h)))

-- x stands behind y
backward_answers : (n : ℕ) (x y : Timed Step) → y.low ≤ x.high → x.low ≤ n → y.high ≤ n → answers (backward n x) (backward n y) ≡ is_unordered y x
backward_answers n x y h l k =
    answer_parts x.did.thread y.did.thread (n + 1 - x.low) (n - x.high) (n + 1 - y.low) (n - y.high) (access_of x.did) (access_of y.did)
    ∙ ap (λ c. c && nat_lt (n - y.high) (n + 1 - x.low)) (conflict_turn x.did y.did) ∙ ap (λ c. conflict y.did x.did && c) (apart (cases_lt y.high x.low))
  where
    apart : (y.high < x.low) ⊎ (x.low ≤ y.high) → nat_lt (n - y.high) (n + 1 - x.low) ≡ overlap y x
    apart (inl lt) = le-ltb (n - y.high) (n + 1 - x.low) (omega (arith, lt, l))
        ∙ sym (and_left (not (nat_lt y.high x.low)) (not (nat_lt x.high y.low)) (not_from_true (nat_lt y.high x.low) (lt-ltb y.high x.low lt)))
    apart (inr ge) = lt-ltb (n - y.high) (n + 1 - x.low) (omega (arith, ge, k))
        ∙ sym (and_from (not (nat_lt y.high x.low)) (not (nat_lt x.high y.low)) (not_from_false (nat_lt y.high x.low) (le-ltb y.high x.low ge))
        (not_from_false (nat_lt x.high y.low) (le-ltb x.high y.low h)))

-- ---- intervals

abbrev Within : ℕ → Timed Step → Type 0
Within n y = (y.low ≤ n) × (y.high ≤ n)

module _ (V : View Step) where
  owners_few : (xs : List Step) → length (owners V xs) ≤ length xs
  owners_few [] = omega arith
  owners_few (x ∷ xs) = go (V.is_event x) refl (owners_few xs)
    where
      go : (e : Bool) → V.is_event x ≡ e → length (owners V xs) ≤ length xs → length (owners V (x ∷ xs)) ≤ length (x ∷ xs)
      go true w h = rw w (omega (arith, h))
      go false w h = rw w (omega (arith, h))

  within_from : (T : List ℕ) (n k : ℕ) (xs : List Step) → length T ≤ n → k ≤ length T → AreTurns V T k xs → AllOf (Within n) (times V T k xs)
  within_from T n k [] le h a = tt
  within_from T n k (x ∷ xs) le h a =
      let w = within_after V T k x h a.0 in
      let l = low_up V T k x in
      let e = next_from_end (V.thread x) T k in
      ((omega (arith, le, w, l), omega (arith, le, e)), within_from T n (done_after (V.is_event x) k) xs le w a.1)

  pub all_within : (xs : List Step) → AllOf (Within (length xs)) (timed_by V xs)
  all_within xs = within_from (owners V xs) (length xs) 0 xs (owners_few xs) (omega arith) (own_turns V xs)

  pub lows_below : (xs : List Step) → EachPair (λ x y. x.low ≤ y.high) (timed_by V xs)
  lows_below xs = low_high V (owners V xs) 0 xs (omega arith) (own_turns V xs)

  beside_times : (ys : List (Timed Step)) → beside (did_of ys) (map interval_of ys) ≡ ys
  beside_times [] = refl
  beside_times (y ∷ ys) = ap (λ l. y ∷ l) (beside_times ys)

  pub beside_own : (xs : List Step) (ns : List Interval) → ns ≡ map interval_of (timed_by V xs) → beside xs ns ≡ timed_by V xs
  beside_own xs ns e = ap (beside xs) e ∙ ap (λ l. beside l (map interval_of (timed_by V xs))) (sym (did_times V (owners V xs) 0 xs)) ∙ beside_times (timed_by V xs)

both_map : {A : Type 0} (P Q R : A → Type 0) → ((x : A) → P x → Q x → R x) → (zs : List A) → AllOf P zs → AllOf Q zs → AllOf R zs
both_map P Q R f [] a b = tt
both_map P Q R f (z ∷ zs) a b = (f z a.0 b.0, both_map P Q R f zs a.1 b.1)

-- ---- marks

module _ (ys : List (Timed Step)) (pairs : EachPair (λ x y. x.low ≤ y.high) ys) (i : ℕ) (y : Timed Step) (h : slice_get ys i ≡ Some y) where
  parts : EachPair (λ x y. x.low ≤ y.high) (take i ys ++ y ∷ drop (i + 1) ys)
  parts = subst (EachPair (λ x y. x.low ≤ y.high)) (sym (split_at ys i y h)) pairs

  -- one before y is unordered with it
  pub before_at : slice_get (before_of ys) i ≡ Some (list_any (λ x. is_unordered x y) (take i ys))
  before_at =
      before_get [] (map forward ys) i (forward y) (get_map forward ys i y h)
      ∙ ap Some (ap (list_any (λ x. answers x (forward y))) (take_map forward i ys) ∙ any_map (λ x. answers x (forward y)) forward (take i ys)
      ∙ any_same (λ x. answers (forward x) (forward y)) (λ x. is_unordered x y) (take i ys)
      (all_map (λ x l. forward_answers x y l) (take i ys) (pairs_before (λ x y. x.low ≤ y.high) (take i ys) y (drop (i + 1) ys) parts)))

  before_same : list_any (λ x. is_unordered x y) (take i ys) ≡ list_any (is_unordered y) (take i ys)
  before_same = go (take i ys)
    where
      go : (zs : List (Timed Step)) → list_any (λ x. is_unordered x y) zs ≡ list_any (is_unordered y) zs
      go [] = refl
      go (z ∷ zs) = ap (λ b. b || list_any (λ x. is_unordered x y) zs) (unordered_turn z y) ∙ ap (λ b. is_unordered y z || b) (go zs)

  -- one behind y is unordered with it
  pub behind_at : AllOf (Within (length ys)) ys → slice_get (behind_of ys) i ≡ Some (list_any (is_unordered y) (drop (i + 1) ys))
  behind_at within =
      let n = length ys in
      let w = all_right (Within n) (take i ys) (y ∷ drop (i + 1) ys) (subst (AllOf (Within n)) (sym (split_at ys i y h)) within) in
      behind_get (map (backward n) ys) i (backward n y) (get_map (backward n) ys i y h)
      ∙ ap Some (ap (list_any (λ x. answers x (backward n y))) (drop_map (backward n) (i + 1) ys) ∙ any_map (λ x. answers x (backward n y)) (backward n) (drop (i + 1) ys)
      ∙ any_same (λ x. answers (backward n x) (backward n y)) (is_unordered y) (drop (i + 1) ys)
      (both_map (λ x. y.low ≤ x.high) (Within n) (λ x. answers (backward n x) (backward n y) ≡ is_unordered y x) (λ x l b. backward_answers n x y l b.0 w.0.1) (drop (i + 1) ys)
      (pairs_after (λ x y. x.low ≤ y.high) (take i ys) y (drop (i + 1) ys) parts) w.1))

  own_ordered : is_unordered y y ≡ false
  own_ordered = and_left (conflict y.did y.did) (overlap y y)
      (and_left (not (y.did.thread.0 == y.did.thread.0)) (accesses_conflict (access_of y.did) (access_of y.did))
      (not_from_true (y.did.thread.0 == y.did.thread.0) (eq-eqb y.did.thread.0 y.did.thread.0 refl)))

  -- one before or behind y is all that is unordered with it
  pub either_side : (list_any (λ x. is_unordered x y) (take i ys) || list_any (is_unordered y) (drop (i + 1) ys)) ≡ list_any (is_unordered y) ys
  either_side =
      ap (λ b. b || list_any (is_unordered y) (drop (i + 1) ys)) before_same
      ∙ ap (λ b. list_any (is_unordered y) (take i ys) || b) (ap (λ b. b || list_any (is_unordered y) (drop (i + 1) ys)) (sym own_ordered))
      ∙ sym (list_any-append (is_unordered y) (take i ys) (y ∷ drop (i + 1) ys))
      ∙ ap (list_any (is_unordered y)) (split_at ys i y h)
