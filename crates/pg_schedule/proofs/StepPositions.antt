-- Steps by their numbers, and the first one that passes a test.
use Rattle.std.proofs.Common.{◌≡◌, ℕ, ◌+◌, ◌<◌, Bool, true, false, List, [], ◌∷◌, length, map, take, get_or, Option, Some, None, refl, sym, ap, ◌∙◌, arith, zero, suc}
use Rattle.std.specs.Prelude.{slice_get}
use Rattle.std.specs.List.{position_from}
use Rattle.pg_law_threads.specs.Steps.{View}
use Rattle.pg_law_threads.specs.Intervals.{Timed, times, did_of, owners}
use Rattle.pg_law_threads.proofs.TimedSteps.{did_times}
use Rattle.pg_law_threads.proofs.OwnTurns.{times_length}
use Rattle.pg_run_trace.specs.declared.step.Step.{Step}
use Rattle.pg_run_trace.specs.Races.{timed_by}
use Rattle.pg_schedule.specs.declared.interval.Interval.{Interval}
use Rattle.pg_schedule.specs.Intervals.{interval_of}

module _ {A : Type 0} (test : A → Bool) where
  none_from : (k : ℕ) (ys : List A) (j : ℕ) (y : A) → position_from test k (take j ys) ≡ None → slice_get ys j ≡ Some y → test y ≡ false
      → position_from test k (take (j + 1) ys) ≡ None
  none_from k [] j y h g f = absurd (cc)
  none_from k (x ∷ ys) zero y h g f = let q : x ≡ y = cc in let z : test x ≡ false = ap test q ∙ f in rw z refl
  none_from k (x ∷ ys) (suc j) y h g f = let e : suc j + 1 ≡ suc (j + 1) = omega arith in rw e (go (test x) refl (none_from (k + 1) ys j y))
    where
      go : (b : Bool) → test x ≡ b → (position_from test (k + 1) (take j ys) ≡ None → slice_get ys j ≡ Some y → test y ≡ false
          → position_from test (k + 1) (take (j + 1) ys) ≡ None) → position_from test k (x ∷ take (j + 1) ys) ≡ None
      go true w ih = let z = rw w at h in absurd (cc)
      go false w ih = let z = rw w at h in rw w (ih z g f)

  found_from : (k : ℕ) (ys : List A) (j : ℕ) (y : A) → position_from test k (take j ys) ≡ None → slice_get ys j ≡ Some y → test y ≡ true → position_from test k ys ≡ Some (k + j)
  found_from k [] j y h g f = absurd (cc)
  found_from k (x ∷ ys) zero y h g f = let q : x ≡ y = cc in let z : test x ≡ true = ap test q ∙ f in let e : k ≡ k + 0 = omega arith in rw z (ap Some e)
  found_from k (x ∷ ys) (suc j) y h g f = go (test x) refl (found_from (k + 1) ys j y)
    where
      go : (b : Bool) → test x ≡ b → (position_from test (k + 1) (take j ys) ≡ None → slice_get ys j ≡ Some y → test y ≡ true
          → position_from test (k + 1) ys ≡ Some ((k + 1) + j)) → position_from test k (x ∷ ys) ≡ Some (k + suc j)
      go true w ih = let z = rw w at h in absurd (cc)
      go false w ih = let z = rw w at h in let e : (k + 1) + j ≡ k + suc j = omega arith in rw w (ih z g f ∙ ap Some e)

  -- the first j don't pass, nor does the next
  pub none_more : (ys : List A) (j : ℕ) (y : A) → position_from test 0 (take j ys) ≡ None → slice_get ys j ≡ Some y → test y ≡ false → position_from test 0 (take (j + 1) ys) ≡ None
  none_more ys j y h g f = none_from 0 ys j y h g f

  -- the first j don't pass, and the next does
  pub found : (ys : List A) (j : ℕ) (y : A) → position_from test 0 (take j ys) ≡ None → slice_get ys j ≡ Some y → test y ≡ true → position_from test 0 ys ≡ Some j
  found ys j y h g f = let e : 0 + j ≡ j = omega arith in found_from 0 ys j y h g f ∙ ap Some e

  take_whole : (ys : List A) → take (length ys) ys ≡ ys
  take_whole [] = refl
  take_whole (y ∷ ys) = ap (λ l. y ∷ l) (take_whole ys)

  -- none of all passes
  pub none_all : (ys : List A) → position_from test 0 (take (length ys) ys) ≡ None → position_from test 0 ys ≡ None
  none_all ys h = ap (position_from test 0) (sym (take_whole ys)) ∙ h

-- ---- a step and its interval

timed_list : (ys : List (Timed Step)) (j : ℕ) (x : Step) (n : Interval) → slice_get (did_of ys) j ≡ Some x
    → slice_get ys j ≡ Some (record { did = x; low = (get_or (map interval_of ys) j n).low; high = (get_or (map interval_of ys) j n).high })
timed_list [] j x n h = absurd (cc)
timed_list (y ∷ ys) zero x n h = let q : y.did ≡ x = cc in ap (λ z. Some (record { did = z; low = y.low; high = y.high })) q
timed_list (y ∷ ys) (suc j) x n h = timed_list ys j x n h

pub timed_get : (V : View Step) (xs : List Step) (ns : List Interval) (j : ℕ) (x : Step) (n : Interval) → ns ≡ map interval_of (timed_by V xs) → slice_get xs j ≡ Some x
    → slice_get (timed_by V xs) j ≡ Some (record { did = x; low = (get_or ns j n).low; high = (get_or ns j n).high })
timed_get V xs ns j x n e h = rw e (timed_list (timed_by V xs) j x n (ap (λ l. slice_get l j) (did_times V (owners V xs) 0 xs) ∙ h))

pub timed_length : (V : View Step) (xs : List Step) → length (timed_by V xs) ≡ length xs
timed_length V xs = times_length V (owners V xs) 0 xs
