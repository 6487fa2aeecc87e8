-- A cut of a run: which of its steps are done.
use Rattle.std.specs.Prelude.{◌≡◌, ◌≢◌, ℕ, ◌==◌, suc, ◌≤◌, ◌-◌, nat_lt, List, [], ◌∷◌, Bool, true, false, if◌then◌else◌, ⊤}
use Rattle.std.specs.List.{AllByRecursion}
use Rattle.pg_law_threads.specs.Steps.{View}
use Rattle.pg_law_threads.specs.Intervals.{Timed}

-- a step, and whether it is done
pub record Mark (A : Type 0) : Type 0 where
  pub done : Bool
  pub step : A

abbrev pub pending : {A : Type 0} → A → Mark A
pending x = record { done = false; step = x }

abbrev pub performed : {A : Type 0} → A → Mark A
performed x = record { done = true; step = x }

-- the steps that are done
abbrev pub kept : {A : Type 0} → List (Mark A) → List A
kept [] = []
kept (m ∷ ms) = if m.done then m.step ∷ kept ms else kept ms

-- all the steps
abbrev pub whole : {A : Type 0} → List (Mark A) → List A
whole [] = []
whole (m ∷ ms) = m.step ∷ whole ms

-- of each thread the steps that are done stand before those that aren't
abbrev pub IsCut : {A : Type 0} → View A → List (Mark (Timed A)) → Type 0
IsCut V [] = ⊤
IsCut V (m ∷ ms) = (m.done ≡ false → AllByRecursion (λ n. n.done ≡ true → V.thread n.step.did ≢ V.thread m.step.did) ms) × IsCut V ms

-- what a mark owes to the number of turns that are done: a step that is done has no turn of its thread
-- beyond them behind it, and one that isn't done none of them before it. An event is done exactly where
-- its turn is
pub record IsWithin {A : Type 0} (g : ℕ) (m : Mark (Timed A)) : Type 0 where
  pub if_done : m.done ≡ true → m.step.low ≤ g
  pub if_open : m.done ≡ false → g ≤ m.step.high

-- the turns that are done are those below g
abbrev pub IsBelow : {A : Type 0} → ℕ → List (Mark (Timed A)) → Type 0
IsBelow g ms = AllByRecursion (IsWithin g) ms

-- ---- cuts by numbers

-- one less for thread t
abbrev pub one_less : ℕ → (ℕ → ℕ) → ℕ → ℕ
one_less t c u = if u == t then c u - 1 else c u

-- of each thread t the first c t steps are done
abbrev pub marked : {A : Type 0} → View A → (ℕ → ℕ) → List (Timed A) → List (Mark (Timed A))
marked V c [] = []
marked V c (x ∷ xs) = (record { done = nat_lt 0 (c (V.thread x.did)); step = x }) ∷ marked V (one_less (V.thread x.did) c) xs

-- how many steps of thread u are done
abbrev pub count_done : {A : Type 0} → View A → List (Mark (Timed A)) → ℕ → ℕ
count_done V [] u = 0
count_done V (m ∷ ms) u = if m.done then (if u == V.thread m.step.did then suc (count_done V ms u) else count_done V ms u) else count_done V ms u
