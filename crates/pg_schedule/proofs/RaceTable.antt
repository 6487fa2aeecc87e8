-- The table of first racing steps, from the end of a trace on, and traces of one thread.
use Rattle.std.proofs.Common.{◌≡◌, ℕ, ◌==◌, ◌+◌, ◌<◌, ◌≤◌, ◌⊎◌, Bool, true, false, cond, List, [], ◌∷◌, ◌++◌, length, map, take, drop, set, get_or}
use Rattle.std.proofs.Common.{replicate, Option, Some, None, refl, sym, ap, ◌∙◌, subst, arith, zero, suc, inl, inr}
use Rattle.std.specs.Prelude.{◌&&◌, ◌||◌, not, slice_get}
use Rattle.std.specs.List.{AllByRecursion as AllOf, list_all, list_any, position_from}
use Rattle.std.specs.Option.{option_to_list}
use Rattle.std.proofs.lemmas.Bool.{true≢false, cases_eq, eqb-true, eq-eqb, ne_eqb, and_from, and_left, and_parts, and_right, not_from_true}
use Rattle.std.proofs.lemmas.List.{drop_all, get_or-set_same, get_or-set_other}
use Rattle.pg_law_threads.specs.Intervals.{Timed, did_of, owners}
use Rattle.pg_law_threads.proofs.TimedSteps.{did_times}
use Rattle.pg_run_trace.specs.declared.step.Step.{Step}
use Rattle.pg_run_trace.specs.Steps.{access_of}
use Rattle.pg_run_trace.specs.Races.{accesses_conflict, asked, conflict, instrs_in, is_access, is_racing, is_unordered, overlap, race_at, race_in, races_below, races_of, timed_by}
use Rattle.pg_law_threads.proofs.ListPlaces.{drop_get}
use Rattle.pg_law_threads.specs.Steps.{View}
use Rattle.pg_schedule.specs.Intervals.{interval_of}
use Rattle.pg_schedule.proofs.StepPositions.{timed_get, timed_length}
use Rattle.pg_schedule.proofs.TableWalk.{before_length, behind_length}
use Rattle.pg_schedule.specs.Firsts.{AreFirst, before_of, behind_of, is_raced}
use Rattle.pg_schedule.specs.Touching.{backward, forward}
use Rattle.pg_schedule.proofs.AnsweredSteps.{all_within, before_at, behind_at, either_side, lows_below}
use Rattle.pg_schedule.proofs.NumberedSteps.{length_map}
use Rattle.pg_schedule.proofs.LoopsSoFar.{below_more, below_none}

-- ---- positions

pub position_below : {A : Type 0} (test : A → Bool) (k : ℕ) (xs : List A) (i : ℕ) → position_from test k xs ≡ Some i → i < k + length xs
position_below test k [] i h = absurd (cc)
position_below test k (x ∷ xs) i h = go (test x) refl (position_below test (k + 1) xs i)
  where
    go : (b : Bool) → test x ≡ b → (position_from test (k + 1) xs ≡ Some i → i < (k + 1) + length xs) → i < k + length (x ∷ xs)
    go true w ih = let z = rw w at h in let q : k ≡ i = cc in omega (arith, q)
    go false w ih = let z = rw w at h in let l = ih z in omega (arith, l)

-- the first racing step stands in the trace
pub racing_within : (xs : List Step) (id i : ℕ) → position_from (is_racing (timed_by asked xs) id) 0 (timed_by asked xs) ≡ Some i → i < length xs
racing_within xs id i h =
    let l = timed_length asked xs in
    let b = position_below (is_racing (timed_by asked xs) id) 0 (timed_by asked xs) i h in
    omega (arith, l, b)

-- ---- instructions

pub instr_below : (xs : List Step) (i : ℕ) (x : Step) → slice_get xs i ≡ Some x → x.instr.0 < instrs_in xs
instr_below [] i x h = absurd (cc)
instr_below (y ∷ xs) zero x h = let q : y ≡ x = cc in let e : y.instr.0 ≡ x.instr.0 = ap (λ z. z.instr.0) q in omega (arith, e)
instr_below (y ∷ xs) (suc i) x h = let l = instr_below xs i x h in omega (arith, l)

-- ---- the table

get_same : {A : Type 0} (n id : ℕ) (d : A) → get_or (replicate n d) id d ≡ d
get_same zero id d = refl
get_same (suc n) zero d = refl
get_same (suc n) (suc id) d = get_same n id d

pub length_same : {A : Type 0} (n : ℕ) (d : A) → length (replicate n d) ≡ n
length_same zero d = refl
length_same (suc n) d = ap suc (length_same n d)

pub no_firsts : (ys : List (Timed Step)) (n i : ℕ) (firsts : List (Option ℕ)) → firsts ≡ replicate n None → length ys ≤ i → AreFirst ys i firsts
no_firsts ys n i firsts e l id lt = ap (λ f. get_or f id None) e ∙ get_same n id None ∙ sym (ap (position_from (is_racing ys id) i) (drop_all i ys l))

all_three : (a e l : Bool) → (a && l) ≡ true → e ≡ true → (a && e && l) ≡ true
all_three true true true h k = refl
all_three true true false h k = h
all_three true false l h k = absurd (cc)
all_three false e l h k = absurd (cc)

not_three : (a e l : Bool) → (a && l) ≡ false → (a && e && l) ≡ false
not_three true true l h = h
not_three true false l h = refl
not_three false e l h = refl

not_other : (a e l : Bool) → e ≡ false → (a && e && l) ≡ false
not_other true true l h = absurd (cc)
not_other true false l h = refl
not_other false e l h = refl

module _ (ys : List (Timed Step)) (i : ℕ) (y : Timed Step) (h : slice_get ys i ≡ Some y) (firsts : List (Option ℕ)) (old : AreFirst ys (i + 1) firsts) where
  front : (id : ℕ) (b : Bool) → is_racing ys id y ≡ b → position_from (is_racing ys id) i (drop i ys) ≡ cond b (Some i) (position_from (is_racing ys id) (i + 1) (drop (i + 1) ys))
  front id b e = ap (position_from (is_racing ys id) i) (drop_get ys i y h) ∙ ap (λ t. cond t (Some i) (position_from (is_racing ys id) (i + 1) (drop (i + 1) ys))) e

  pub first_noted : (is_access y.did.kind && list_any (is_unordered y) ys) ≡ true → y.did.instr.0 < length firsts → AreFirst ys i (set firsts y.did.instr.0 (Some i))
  first_noted r lt id l = go (cases_eq id y.did.instr.0)
    where
      go : (id ≡ y.did.instr.0) ⊎ (id ≡ y.did.instr.0 → ⊥) → get_or (set firsts y.did.instr.0 (Some i)) id None ≡ position_from (is_racing ys id) i (drop i ys)
      go (inl q) =
          ap (λ k. get_or (set firsts y.did.instr.0 (Some i)) k None) q ∙ get_or-set_same firsts y.did.instr.0 (Some i) None lt
          ∙ sym (front id true (all_three (is_access y.did.kind) (y.did.instr.0 == id) (list_any (is_unordered y) ys) r (eq-eqb y.did.instr.0 id (sym q))))
      go (inr n) =
          get_or-set_other firsts y.did.instr.0 id (Some i) None n ∙ old id (same_length id l)
          ∙ sym (front id false (not_other (is_access y.did.kind) (y.did.instr.0 == id) (list_any (is_unordered y) ys) (ne_eqb y.did.instr.0 id (λ q. n (sym q)))))
        where
          length_set : {A : Type 0} (zs : List A) (k : ℕ) (z : A) → length (set zs k z) ≡ length zs
          length_set [] k z = refl
          length_set (a ∷ zs) zero z = refl
          length_set (a ∷ zs) (suc k) z = ap suc (length_set zs k z)

          same_length : (id : ℕ) → id < length (set firsts y.did.instr.0 (Some i)) → id < length firsts
          same_length id l = let e = length_set firsts y.did.instr.0 (Some i) in omega (arith, l, e)

  pub first_kept : (is_access y.did.kind && list_any (is_unordered y) ys) ≡ false → AreFirst ys i firsts
  first_kept r id l = old id l ∙ sym (front id false (not_three (is_access y.did.kind) (y.did.instr.0 == id) (list_any (is_unordered y) ys) r))

-- ---- marks

module _ (xs : List Step) (i : ℕ) (x : Step) (h : slice_get xs i ≡ Some x) where
  -- step i with its interval
  abbrev pub step_at : Timed Step
  step_at = record {
    did = x;
    low = (get_or (map interval_of (timed_by asked xs)) i (record { low = 0; high = 0 })).low;
    high = (get_or (map interval_of (timed_by asked xs)) i (record { low = 0; high = 0 })).high;
  }

  pub at_step : slice_get (timed_by asked xs) i ≡ Some step_at
  at_step = timed_get asked xs (map interval_of (timed_by asked xs)) i x (record { low = 0; high = 0 }) refl h

  pub raced_is : (bs ds : List Bool) (b d : Bool) → bs ≡ before_of (timed_by asked xs) → ds ≡ behind_of (timed_by asked xs) → slice_get bs i ≡ Some b → slice_get ds i ≡ Some d →
      is_raced (timed_by asked xs) (slice_get (timed_by asked xs) i) ≡ (is_access x.kind && (b || d))
  raced_is bs ds b d e f g k =
      let ys = timed_by asked xs in
      let l = timed_length asked xs in
      let w = subst (λ n. AllOf (λ y. (y.low ≤ n) × (y.high ≤ n)) ys) (sym l) (all_within asked xs) in
      let p = before_at ys (lows_below asked xs) i step_at at_step in
      let q = behind_at ys (lows_below asked xs) i step_at at_step w in
      let m : b ≡ list_any (λ z. is_unordered z step_at) (take i ys) = same_some (sym g ∙ ap (λ l. slice_get l i) e ∙ p) in
      let n : d ≡ list_any (is_unordered step_at) (drop (i + 1) ys) = same_some (sym k ∙ ap (λ l. slice_get l i) f ∙ q) in
      ap (is_raced ys) at_step
      ∙ ap (λ t. is_access x.kind && t) (sym (either_side ys (lows_below asked xs) i step_at at_step)
      ∙ sym (ap (λ t. t || d) m ∙ ap (λ t. list_any (λ z. is_unordered z step_at) (take i ys) || t) n))
    where
      same_some : {a b : Bool} → Some a ≡ Some b → a ≡ b
      same_some e = cc

pub first_holds : (a b d : Bool) → a ≡ true → b ≡ true → b ≡ (a && (b || d))
first_holds true true d h k = refl
first_holds true false d h k = absurd (true≢false (sym k))
first_holds false b d h k = absurd (true≢false (sym h))

pub second_decides : (a b d : Bool) → a ≡ true → b ≡ false → d ≡ (a && (b || d))
second_decides true false d h k = refl
second_decides true true d h k = absurd (true≢false k)
second_decides false b d h k = absurd (true≢false (sym h))

pub none_holds : (a b d : Bool) → a ≡ false → a ≡ (a && (b || d))
none_holds false b d h = refl
none_holds true b d h = absurd (true≢false h)

pub marks_before : (V : View Step) (xs : List Step) (bs : List Bool) → bs ≡ before_of (timed_by V xs) → length bs ≡ length xs
marks_before V xs bs e = ap length e ∙ before_length [] (map forward (timed_by V xs)) ∙ length_map forward (timed_by V xs) ∙ timed_length V xs

pub marks_behind : (V : View Step) (xs : List Step) (bs : List Bool) → bs ≡ behind_of (timed_by V xs) → length bs ≡ length xs
marks_behind V xs bs e = ap length e ∙ behind_length (map (backward (length (timed_by V xs))) (timed_by V xs)) ∙ length_map (backward (length (timed_by V xs))) (timed_by V xs)
    ∙ timed_length V xs

-- ---- tests of all steps

pub all_fails : {A : Type 0} (p : A → Bool) (xs : List A) (i : ℕ) (x : A) → slice_get xs i ≡ Some x → p x ≡ false → list_all p xs ≡ false
all_fails p [] i x h f = absurd (cc)
all_fails p (y ∷ xs) zero x h f = let q : y ≡ x = cc in and_left (p y) (list_all p xs) (ap p q ∙ f)
all_fails p (y ∷ xs) (suc i) x h f = and_right (p y) (list_all p xs) (all_fails p xs i x h f)

pub all_more : {A : Type 0} (p : A → Bool) (xs : List A) (i : ℕ) (x : A) → list_all p (take i xs) ≡ true → slice_get xs i ≡ Some x → p x ≡ true
    → list_all p (take (i + 1) xs) ≡ true
all_more p [] i x a h f = absurd (cc)
all_more p (y ∷ xs) zero x a h f = let q : y ≡ x = cc in and_from (p y) true (ap p q ∙ f) refl
all_more p (y ∷ xs) (suc i) x a h f =
    let e : suc i + 1 ≡ suc (i + 1) = omega arith in
    let z = and_parts (p y) (list_all p (take i xs)) a in
    rw e (and_from (p y) (list_all p (take (i + 1) xs)) z.0 (all_more p xs i x z.1 h f))

-- ---- one thread

module _ (t : ℕ) where
  abbrev IsOf : Timed Step → Type 0
  IsOf y = y.did.thread.0 ≡ t

  all_of : (ys : List (Timed Step)) → list_all (λ (x : Step). x.thread.0 == t) (did_of ys) ≡ true → AllOf IsOf ys
  all_of [] h = tt
  all_of (y ∷ ys) h =
      let p = and_parts (y.did.thread.0 == t) (list_all (λ (x : Step). x.thread.0 == t) (did_of ys)) h in
      (eqb-true y.did.thread.0 t p.0, all_of ys p.1)

  no_other : (y : Timed Step) (zs : List (Timed Step)) → IsOf y → AllOf IsOf zs → list_any (is_unordered y) zs ≡ false
  no_other y [] e a = refl
  no_other y (z ∷ zs) e a =
      let q = eq-eqb y.did.thread.0 z.did.thread.0 (e ∙ sym a.0) in
      let w : is_unordered y z ≡ false = and_left (conflict y.did z.did) (overlap y z)
      (and_left (not (y.did.thread.0 == z.did.thread.0)) (accesses_conflict (access_of y.did) (access_of z.did)) (not_from_true (y.did.thread.0 == z.did.thread.0) q)) in
      ap (λ b. b || list_any (is_unordered y) zs) w ∙ no_other y zs e a.1

  no_first : (ys : List (Timed Step)) (id k : ℕ) (zs : List (Timed Step)) → AllOf IsOf ys → AllOf IsOf zs → position_from (is_racing ys id) k zs ≡ None
  no_first ys id k [] a b = refl
  no_first ys id k (z ∷ zs) a b =
      let w : is_racing ys id z ≡ false = last_false (is_access z.did.kind) (z.did.instr.0 == id) (list_any (is_unordered z) ys) (no_other z ys b.0 a) in
      ap (λ c. cond c (Some k) (position_from (is_racing ys id) (k + 1) zs)) w ∙ no_first ys id (k + 1) zs a b.1
    where
      last_false : (a e l : Bool) → l ≡ false → (a && e && l) ≡ false
      last_false true true l h = h
      last_false true false l h = refl
      last_false false e l h = refl

  none_below : (ys : List (Timed Step)) (n : ℕ) → AllOf IsOf ys → races_below ys n ≡ []
  none_below ys zero a = below_none ys
  none_below ys (suc n) a =
      let e : suc n ≡ n + 1 = omega arith in
      ap (races_below ys) e ∙ below_more ys n ∙ ap (λ l. l ++ option_to_list (race_in ys n)) (none_below ys n a)
      ∙ ap (λ o. option_to_list (race_at ys n o)) (no_first ys n 0 ys a a)

  pub one_thread : (xs : List Step) → list_all (λ (x : Step). x.thread.0 == t) xs ≡ true → races_of xs ≡ []
  one_thread xs h =
      none_below (timed_by asked xs) (instrs_in xs) (all_of (timed_by asked xs) (ap (list_all (λ (x : Step). x.thread.0 == t)) (did_times asked (owners asked xs) 0 xs) ∙ h))
