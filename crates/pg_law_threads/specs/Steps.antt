-- Steps of several threads, taken one after another. Some are events; each reads and writes some cells.
use Rattle.std.specs.Prelude.{◌≡◌, ◌≢◌, ℕ, ◌||◌, ◌&&◌, Bool, true, List, [], ◌∷◌, ⊤}
use Rattle.std.specs.List.{AllByRecursion}

-- how a type of steps is read: the thread of a step, whether it is an event, the cells that it reads, and
-- those that it writes. Cells are numbers: byte places, and above them what else is read and written
pub record View (A : Type 0) : Type 0 where
  pub thread : A → ℕ
  pub is_event : A → Bool
  pub reads : A → ℕ → Bool
  pub writes : A → ℕ → Bool

abbrev pub touches : {A : Type 0} → View A → A → ℕ → Bool
touches V x b = V.reads x b || V.writes x b

-- both touch the cell, and one of them writes it
abbrev pub meet_at : {A : Type 0} → View A → A → A → ℕ → Bool
meet_at V x y b = (V.writes x b && touches V y b) || (touches V x b && V.writes y b)

-- steps of different threads that meet at a cell
pub record Conflict {A : Type 0} (V : View A) (x y : A) : Type 0 where
  pub threads : V.thread x ≢ V.thread y
  pub cell : ℕ
  pub meet : meet_at V x y cell ≡ true

-- R holds between each of a list and each later one
abbrev pub EachPair : {A : Type 0} → (A → A → Type 0) → List A → Type 0
EachPair R [] = ⊤
EachPair R (x ∷ xs) = AllByRecursion (R x) xs × EachPair R xs
