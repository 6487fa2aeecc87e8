-- Where each step stands among the turns of its thread. The turns are given by the threads that own them:
-- turn k is the k-th event, counted from 0.
use Rattle.std.specs.Prelude.{◌≡◌, ◌⊎◌, ℕ, zero, suc, ◌==◌, ◌<◌, ◌≤◌, List, [], ◌∷◌, Bool, true, false, Option, Some, None, slice_get, if◌then◌else◌, ⊤}
use Rattle.std.specs.Bool.{MatchBool}
use Rattle.pg_law_threads.specs.Steps.{View, Conflict, EachPair}

abbrev pub is_of : ℕ → Option ℕ → Bool
is_of u None = false
is_of u (Some v) = u == v

-- one more than the last of the first k turns that is thread u's, 0 where there is none
abbrev pub last_before : ℕ → List ℕ → ℕ → ℕ
last_before u T zero = 0
last_before u T (suc k) = if is_of u (slice_get T k) then suc k else last_before u T k

-- the first turn from turn k on that is thread u's, the number of turns where there is none
abbrev pub next_from : ℕ → List ℕ → ℕ → ℕ
next_from u [] k = 0
next_from u (o ∷ T) zero = if u == o then 0 else suc (next_from u T zero)
next_from u (o ∷ T) (suc k) = suc (next_from u T k)

-- how many turns are done after a step, where k were done before it
abbrev pub done_after : Bool → ℕ → ℕ
done_after true k = suc k
done_after false k = k

-- how many turns are done after these steps, where k were done before them
abbrev pub turns_done : {A : Type 0} → View A → ℕ → List A → ℕ
turns_done V k [] = k
turns_done V k (x ∷ xs) = turns_done V (done_after (V.is_event x) k) xs

-- a step with its interval: low is one more than its thread's last turn when it is done, 0 where there is
-- none, and high its thread's next turn when it is due, the number of turns where there is none. For the
-- step that is turn k they are k + 1 and k
pub record Timed (A : Type 0) : Type 0 where
  pub did : A
  pub low : ℕ
  pub high : ℕ

abbrev pub timed : {A : Type 0} → View A → List ℕ → ℕ → A → Timed A
timed V T k x = record { did = x; low = last_before (V.thread x) T (done_after (V.is_event x) k); high = next_from (V.thread x) T k }

-- these steps with their intervals, where k turns were done before them
abbrev pub times : {A : Type 0} → View A → List ℕ → ℕ → List A → List (Timed A)
times V T k [] = []
times V T k (x ∷ xs) = timed V T k x ∷ times V T (done_after (V.is_event x) k) xs

abbrev pub did_of : {A : Type 0} → List (Timed A) → List A
did_of [] = []
did_of (x ∷ xs) = x.did ∷ did_of xs

-- the next turn of the one stands before the last turn of the other
abbrev pub AreOrdered : {A : Type 0} → Timed A → Timed A → Type 0
AreOrdered x y = (x.high < y.low) ⊎ (y.high < x.low)

-- each two steps that conflict are ordered
abbrev pub IsOrdered : {A : Type 0} → View A → List ℕ → List A → Type 0
IsOrdered V T xs = EachPair (λ x y. Conflict V x.did y.did → AreOrdered x y) (times V T 0 xs)

-- each event is the next turn, where k turns were done before these steps
abbrev pub AreTurns : {A : Type 0} → View A → List ℕ → ℕ → List A → Type 0
AreTurns V T k [] = ⊤
AreTurns V T k (x ∷ xs) = (V.is_event x ≡ true → slice_get T k ≡ Some (V.thread x)) × AreTurns V T (done_after (V.is_event x) k) xs

-- the threads that own the events of a list, in order: its own turns
abbrev pub owners : {A : Type 0} → View A → List A → List ℕ
owners V [] = []
owners V (x ∷ xs) = if V.is_event x then V.thread x ∷ owners V xs else owners V xs

-- ---- the same in words

-- turn a is the last of thread u before turn k
pub record IsLastTurn (u : ℕ) (T : List ℕ) (k a : ℕ) : Type 0 where
  pub own : slice_get T a ≡ Some u
  pub before : a < k
  pub last : (i : ℕ) → a < i → i < k → slice_get T i ≡ Some u → ⊥

-- turn b is the first of thread u from turn k on
pub record IsNextTurn (u : ℕ) (T : List ℕ) (k b : ℕ) : Type 0 where
  pub own : slice_get T b ≡ Some u
  pub from : k ≤ b
  pub first : (i : ℕ) → k ≤ i → i < b → slice_get T i ≡ Some u → ⊥

-- the interval of a step begins with turn a: with the turn that it is, else with its thread's last turn; k
-- turns were done before it
abbrev pub BeginsAt : {A : Type 0} → View A → List ℕ → ℕ → A → ℕ → Type 0
BeginsAt V T k x a = MatchBool (V.is_event x) (a ≡ k) (IsLastTurn (V.thread x) T k a)

-- and ends with turn b: with the turn that it is, else with its thread's next turn, whether that is done or not
abbrev pub EndsAt : {A : Type 0} → View A → List ℕ → ℕ → A → ℕ → Type 0
EndsAt V T k x b = MatchBool (V.is_event x) (b ≡ k) (IsNextTurn (V.thread x) T k b)

-- the interval of x, behind k turns, ends, and no later than that of y, behind j turns, begins
pub record EndsBefore {A : Type 0} (V : View A) (T : List ℕ) (k j : ℕ) (x y : A) : Type 0 where
  pub end : ℕ
  pub begin : ℕ
  pub ends : EndsAt V T k x end
  pub begins : BeginsAt V T j y begin
  pub order : end ≤ begin
