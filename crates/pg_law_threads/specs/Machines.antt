-- A machine of several threads, each of which is deterministic; its permitted runs along turns; and a law on
-- them: where one full run is ordered, each permitted run is the same run but for the order of its steps.
use Rattle.std.specs.Prelude.{◌≡◌, ℕ, ◌≤◌, ◌<◌, ◌⊎◌, List, [], ◌∷◌, length, map, Bool, true, false, Some, slice_get, ⊤}
use Rattle.std.specs.List.{filter}
use Rattle.pg_law_threads.specs.Intervals.{turns_done, done_after, Timed, times, did_of, IsOrdered}
use Rattle.pg_law_threads.specs.Cuts.{Mark, kept, whole, IsCut, IsBelow}
use Rattle.pg_law_threads.specs.Effects.{State, Deed, deeds, effect, effects, Same, IsSame}
use Rattle.pg_law_threads.specs.Plans.{is_of_thread}

-- which threads may step: by their local states and the objects
pub record Rules (L Y : Type 0) : Type 0 where
  -- no thread takes a step any more
  pub over : Y → Bool
  -- the thread has a next step: it is made, hasn't ended, doesn't trap by itself and has steps left
  pub can : L → Bool
  -- its next step is an event
  pub is_event : L → Bool
  -- the thread of this number may do the event: it is ready and doesn't trap
  pub ready : ℕ → L → Y → Bool

module _ {L Y : Type 0} (R : Rules L Y) where
  -- thread t may take a step in the state s along the turns T, of which g are done: the run isn't over, the
  -- thread has a next step and a turn left, and an event is the next turn and is ready
  pub record May {B : Type 0} (T : List ℕ) (s : State L B Y) (g t : ℕ) : Type 0 where
    pub going : R.over s.objects ≡ false
    pub can : R.can (s.locals t) ≡ true
    pub turn : ℕ
    pub left : g ≤ turn
    pub own : slice_get T turn ≡ Some t
    pub next : R.is_event (s.locals t) ≡ true → slice_get T g ≡ Some t
    pub ready : R.is_event (s.locals t) ≡ true → R.ready t (s.locals t) s.objects ≡ true

-- Does s d says that d is what the next step of its thread does in the state s
module _ {L B Y E : Type 0} (R : Rules L Y) (Does : State L B Y → Deed L B Y E → Type 0) where
  -- a step rests on its thread's local state, the cells that it reads, and, where it is an event, the objects
  pub record AreDetermined : Type 0 where
    pub event : (s : State L B Y) (d : Deed L B Y E) → Does s d → deeds.is_event d ≡ R.is_event (s.locals d.thread)
    pub same : (s z : State L B Y) (p d : Deed L B Y E) → Does s p → Does z d → d.thread ≡ p.thread → s.locals p.thread ≡ z.locals p.thread →
        ((b : ℕ) → p.reads b ≡ true → s.cells b ≡ z.cells b) → (deeds.is_event p ≡ true → s.objects ≡ z.objects) → IsSame p d

  -- d is a permitted step
  pub record Takes (T : List ℕ) (s : State L B Y) (g : ℕ) (d : Deed L B Y E) : Type 0 where
    pub may : May R T s g d.thread
    pub is_step : Does s d

  -- a permitted run from s on, where g turns are done
  abbrev pub IsPermitted : List ℕ → State L B Y → ℕ → List (Deed L B Y E) → Type 0
  IsPermitted T s g [] = ⊤
  IsPermitted T s g (d ∷ ds) = Takes T s g d × IsPermitted T (effect s d) (done_after (deeds.is_event d) g) ds

  -- a permitted run that can't be prolonged; where it is over it has all turns
  pub record IsFull (T : List ℕ) (s : State L B Y) (ds : List (Deed L B Y E)) : Type 0 where
    pub permitted : IsPermitted T s 0 ds
    pub all_turns : R.over (effects s ds).objects ≡ true → length T ≤ turns_done deeds 0 ds
    pub maximal : (t : ℕ) → May R T (effects s ds) (turns_done deeds 0 ds) t → ⊥

-- a machine whose steps are a function of the state and the thread
pub record Machine (L B Y E : Type 0) : Type 0 where
  pub rules : Rules L Y
  pub step : State L B Y → ℕ → Deed L B Y E

abbrev pub does : {L B Y E : Type 0} → Machine L B Y E → State L B Y → Deed L B Y E → Type 0
does M s d = IsSame d (M.step s d.thread)

module _ {L B Y E : Type 0} (M : Machine L B Y E) where
  -- a step rests on its thread's local state, the cells that it reads, and, where it is an event, the objects
  pub record IsDeterministic : Type 0 where
    pub thread : (s : State L B Y) (t : ℕ) → (M.step s t).thread ≡ t
    pub event : (s : State L B Y) (t : ℕ) → deeds.is_event (M.step s t) ≡ M.rules.is_event (s.locals t)
    pub same : (s z : State L B Y) (t : ℕ) → s.locals t ≡ z.locals t →
        ((b : ℕ) → (M.step s t).reads b ≡ true → s.cells b ≡ z.cells b) →
        (M.rules.is_event (s.locals t) ≡ true → s.objects ≡ z.objects) → IsSame (M.step s t) (M.step z t)

-- ---- the law

module _ {L B Y E : Type 0} (T : List ℕ) (s : State L B Y) where
  -- of these steps, in whatever order between threads, the others are a rearrangement: each thread has the same
  -- steps, as they are told and with the same local states after them, and the events are the same, in order
  pub record IsRearranged (these others : List (Deed L B Y E)) : Type 0 where
    pub told : (u : ℕ) → map (λ d. d.told) (filter (is_of_thread u) these) ≡ map (λ d. d.told) (filter (is_of_thread u) others)
    pub locals : (u : ℕ) → map (λ d. d.to) (filter (is_of_thread u) these) ≡ map (λ d. d.to) (filter (is_of_thread u) others)
    pub events : map (λ d. d.told) (filter deeds.is_event these) ≡ map (λ d. d.told) (filter deeds.is_event others)
    pub number : length these ≡ length others

  -- the run stands at a cut of the full run: its turns are those below their number, its steps are those that are
  -- done there, and it leaves what these leave in the full run's order: of each cell the last write
  pub record IsAtCut (full run : List (Deed L B Y E)) : Type 0 where
    pub marks : List (Mark (Timed (Deed L B Y E)))
    pub is_whole : whole marks ≡ times deeds T 0 full
    pub is_cut : IsCut deeds marks
    pub below : IsBelow (turns_done deeds 0 run) marks
    pub steps : IsRearranged run (did_of (kept marks))
    pub same : Same (effects s run) (effects s (did_of (kept marks)))

  -- the run is the full run but for the order of the steps
  pub record EndsAs (full run : List (Deed L B Y E)) : Type 0 where
    pub turns : turns_done deeds 0 run ≡ turns_done deeds 0 full
    pub steps : IsRearranged run full
    pub same : Same (effects s run) (effects s full)

module _ {L B Y E : Type 0} (s : State L B Y) where
  -- all turns of the full run are done, and thread t stands where it stands at that run's end, with the same objects
  pub record IsAtEnd (full run : List (Deed L B Y E)) (t : ℕ) : Type 0 where
    pub turns : turns_done deeds 0 full ≤ turns_done deeds 0 run
    pub local : (effects s run).locals t ≡ (effects s full).locals t
    pub objects : (effects s run).objects ≡ (effects s full).objects

-- what holds of a permitted run where some full run is ordered
module _ {L B Y E : Type 0} (R : Rules L Y) (T : List ℕ) (s : State L B Y) where
  pub record IsPart (full run : List (Deed L B Y E)) : Type 0 where
    pub cut : IsAtCut T s full run
    pub ordered : IsOrdered deeds T run
    -- it has at most as many steps
    pub short : length run ≤ length full
    -- it can be prolonged by a step, or it is the full run but for the order of the steps
    pub goes_on : ((t : ℕ) × May R T (effects s run) (turns_done deeds 0 run) t) ⊎ EndsAs T s full run
    -- where the full run has the next turn, its owner may step
    pub owner : (t : ℕ) → turns_done deeds 0 run < turns_done deeds 0 full → slice_get T (turns_done deeds 0 run) ≡ Some t → May R T (effects s run) (turns_done deeds 0 run) t
    -- the owner of the next turn may step, or stands where the full run leaves it
    pub rests : (t : ℕ) → slice_get T (turns_done deeds 0 run) ≡ Some t → May R T (effects s run) (turns_done deeds 0 run) t ⊎ IsAtEnd s full run t

module _ {L B Y E : Type 0} (M : Machine L B Y E) (T : List ℕ) (s : State L B Y) where
  -- some full run is ordered
  pub record HasOrdered (full : List (Deed L B Y E)) : Type 0 where
    pub machine : IsDeterministic M
    pub is_full : IsFull M.rules (does M) T s full
    pub ordered : IsOrdered deeds T full
