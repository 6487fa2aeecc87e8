-- A plan, and the runs of another machine that follow it.
use Rattle.std.specs.Prelude.{◌≡◌, ℕ, ◌==◌, ◌≤◌, List, [], ◌∷◌, ◌++◌, length, Bool, true, Some, slice_get, ⊤}
use Rattle.std.specs.List.{filter}
use Rattle.pg_law_threads.specs.Steps.{View, touches}
use Rattle.pg_law_threads.specs.Intervals.{Timed, times, did_of, turns_done, done_after, IsOrdered, AreTurns}
use Rattle.pg_law_threads.specs.Cuts.{Mark, kept, whole, IsCut, IsBelow}
use Rattle.pg_law_threads.specs.Effects.{State, Deed, deeds, or_old, effect, effects}

-- a list of steps whose events are the turns in order, and of which each two that conflict are ordered
pub record IsPlan {A : Type 0} (V : View A) (T : List ℕ) (xs : List A) : Type 0 where
  pub turns : AreTurns V T 0 xs
  pub ordered : IsOrdered V T xs

-- how the plan's local states, cells and tellings are like those of the machine
pub record Likeness (L B E L' B' E' : Type 0) : Type 1 where
  pub local : L → L' → Type 0
  pub cell : B → B' → Type 0
  pub told : E → E' → Type 0

-- the steps of one thread
abbrev pub is_of_thread : {L B Y E : Type 0} → ℕ → Deed L B Y E → Bool
is_of_thread u d = u == d.thread

module _ {L B E L' B' E' Y : Type 0} (K : Likeness L B E L' B' E') where
  pub record Alike (z : State L B Y) (s : State L' B' Y) : Type 0 where
    pub locals : (u : ℕ) → K.local (z.locals u) (s.locals u)
    pub cells : (b : ℕ) → K.cell (z.cells b) (s.cells b)
    pub objects : z.objects ≡ s.objects

  -- the machine's step does what the plan's step allows: it touches and writes no more cells
  pub record Fits (p : Deed L B Y E) (d : Deed L' B' Y E') : Type 0 where
    pub thread : d.thread ≡ p.thread
    pub to : K.local p.to d.to
    pub told : K.told p.told d.told
    pub objects : d.objects ≡ p.objects
    pub cells : (b : ℕ) (v : B) (w : B') → K.cell v w → K.cell (or_old (p.writes b) v) (or_old (d.writes b) w)
    pub reads : (b : ℕ) → d.reads b ≡ true → touches deeds p b ≡ true
    pub writes : (b : ℕ) → deeds.writes d b ≡ true → deeds.writes p b ≡ true

  -- each of a list fits its partner
  abbrev pub FitEach : List (Deed L B Y E) → List (Deed L' B' Y E') → Type 0
  FitEach [] [] = ⊤
  FitEach [] (d ∷ ds) = ⊥
  FitEach (p ∷ ps) [] = ⊥
  FitEach (p ∷ ps) (d ∷ ds) = Fits p d × FitEach ps ds

  -- the machine follows the plan one step at a time, from alike states. Move s g d says that the machine may do
  -- d in the state s, where g turns are done
  pub record Obeys (T : List ℕ) (z : State L B Y) (plan : List (Deed L B Y E)) (Move : State L' B' Y → ℕ → Deed L' B' Y E' → Type 0) : Type 0 where
    pub turn : (s : State L' B' Y) (g : ℕ) (d : Deed L' B' Y E') → Move s g d → deeds.is_event d ≡ true → slice_get T g ≡ Some d.thread
    pub kind : (xs : List (Deed L B Y E)) (p : Deed L B Y E) (ys : List (Deed L B Y E)) → plan ≡ xs ++ p ∷ ys →
        (s : State L' B' Y) (g : ℕ) (d : Deed L' B' Y E') → Move s g d → d.thread ≡ p.thread →
        K.local ((effects z xs).locals p.thread) (s.locals p.thread) → deeds.is_event d ≡ deeds.is_event p
    pub fits : (xs : List (Deed L B Y E)) (p : Deed L B Y E) (ys : List (Deed L B Y E)) → plan ≡ xs ++ p ∷ ys →
        (s : State L' B' Y) (g : ℕ) (d : Deed L' B' Y E') → Move s g d → d.thread ≡ p.thread →
        K.local ((effects z xs).locals p.thread) (s.locals p.thread) →
        ((b : ℕ) → p.reads b ≡ true → K.cell ((effects z xs).cells b) (s.cells b)) →
        (deeds.is_event p ≡ true → (effects z xs).objects ≡ s.objects) → Fits p d
    -- a thread whose steps are all done, and which has no turn left of those that the plan performs
    pub no_more : (s : State L' B' Y) (g : ℕ) (d : Deed L' B' Y E') → Move s g d → g ≤ turns_done deeds 0 plan →
        K.local ((effects z plan).locals d.thread) (s.locals d.thread) →
        ((i : ℕ) → g ≤ i → slice_get T i ≡ Some d.thread → turns_done deeds 0 plan ≤ i) →
        (turns_done deeds 0 plan ≤ g → (effects z plan).objects ≡ s.objects) → ⊥

  -- a run performs the steps of a plan that are done, whatever the order between its threads
  pub record Performs (done : List (Deed L B Y E)) (run : List (Deed L' B' Y E')) : Type 0 where
    -- the steps of each thread are those of the plan that are done, in their order, and so are the events
    pub threads : (u : ℕ) → FitEach (filter (is_of_thread u) done) (filter (is_of_thread u) run)
    pub events : FitEach (filter deeds.is_event done) (filter deeds.is_event run)
    pub number : length done ≡ length run

  -- a state, after g turns, is like what the plan's steps that are done leave, in the plan's order
  pub record Follows (T : List ℕ) (z : State L B Y) (plan : List (Deed L B Y E)) (g : ℕ) (s : State L' B' Y) : Type 0 where
    pub marks : List (Mark (Timed (Deed L B Y E)))
    pub is_whole : whole marks ≡ times deeds T 0 plan
    pub is_cut : IsCut deeds marks
    pub below : IsBelow g marks
    pub alike : Alike (effects z (did_of (kept marks))) s

-- each step is a move, one after another
abbrev pub Moves : {L B Y E : Type 0} → (State L B Y → ℕ → Deed L B Y E → Type 0) → State L B Y → ℕ → List (Deed L B Y E) → Type 0
Moves Move s g [] = ⊤
Moves Move s g (d ∷ ds) = Move s g d × Moves Move (effect s d) (done_after (deeds.is_event d) g) ds
