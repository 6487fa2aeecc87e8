-- Two steps are ordered exactly where a chain of events leads from the one to the other.
use Rattle.std.specs.Prelude.{◌≡◌, ◌⊎◌, ℕ, ◌==◌, ◌&&◌, ◌||◌, List, [], ◌∷◌, ◌++◌, Bool, true, false, if◌then◌else◌, ⊤}
use Rattle.pg_law_threads.specs.Steps.{View, Conflict, EachPair}
use Rattle.pg_law_threads.specs.Intervals.{times, AreOrdered}

-- the list has an event of thread u
abbrev pub has_event : {A : Type 0} → View A → ℕ → List A → Bool
has_event V u [] = false
has_event V u (x ∷ xs) = (V.is_event x && (u == V.thread x)) || has_event V u xs

-- the list has an event of thread t, and behind it one of thread u
abbrev pub has_chain : {A : Type 0} → View A → ℕ → ℕ → List A → Bool
has_chain V t u [] = false
has_chain V t u (x ∷ xs) = if V.is_event x && (t == V.thread x) then has_event V u xs else has_chain V t u xs

-- of each two that conflict the list from the one to the other, both included, has a chain between their
-- threads
abbrev pub IsChained : {A : Type 0} → View A → List A → Type 0
IsChained {A} V [] = ⊤
IsChained {A} V (x ∷ xs) =
    ((mid : List A) (y : A) (ys : List A) → xs ≡ mid ++ y ∷ ys → Conflict V x y → has_chain V (V.thread x) (V.thread y) (x ∷ mid ++ y ∷ []) ≡ true) × IsChained V xs

-- V and W read the same threads and cells, and what is an event for V is one for W
pub record IsFiner {A : Type 0} (V W : View A) : Type 0 where
  pub threads : (x : A) → V.thread x ≡ W.thread x
  pub reads : (x : A) (b : ℕ) → V.reads x b ≡ W.reads x b
  pub writes : (x : A) (b : ℕ) → V.writes x b ≡ W.writes x b
  pub events : (x : A) → V.is_event x ≡ true → W.is_event x ≡ true

-- each two steps that conflict are ordered along the events of V, or both are events of W
abbrev pub IsOrderedOrEvents : {A : Type 0} → View A → View A → List ℕ → List A → Type 0
IsOrderedOrEvents V W T xs = EachPair (λ x y. Conflict V x.did y.did → AreOrdered x y ⊎ ((W.is_event x.did ≡ true) × (W.is_event y.did ≡ true))) (times V T 0 xs)
