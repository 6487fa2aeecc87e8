-- What steps leave of a state: a local state a thread, cells, and objects that all threads share.
use Rattle.std.specs.Prelude.{◌≡◌, ℕ, ◌==◌, List, [], ◌∷◌, Bool, Option, Some, None, is_some, if◌then◌else◌}
use Rattle.pg_law_threads.specs.Steps.{View}

pub record State (L B Y : Type 0) : Type 0 where
  pub locals : ℕ → L
  pub cells : ℕ → B
  pub objects : Y

-- what one step did: the local state of its thread after it, what is told of it, the cells that it read, what
-- it wrote, and the objects after it where it was an event
pub record Deed (L B Y E : Type 0) : Type 0 where
  pub thread : ℕ
  pub to : L
  pub told : E
  pub reads : ℕ → Bool
  pub writes : ℕ → Option B
  pub objects : Option Y

-- how a deed is read
abbrev pub deeds : {L B Y E : Type 0} → View (Deed L B Y E)
deeds = record {
  thread = λ d. d.thread;
  is_event = λ d. is_some d.objects;
  reads = λ d. d.reads;
  writes = λ d b. is_some (d.writes b);
}

abbrev pub or_old : {A : Type 0} → Option A → A → A
or_old None a = a
or_old (Some b) a = b

-- the state after a step did what it did
abbrev pub effect : {L B Y E : Type 0} → State L B Y → Deed L B Y E → State L B Y
effect s d = record {
  locals = λ u. if u == d.thread then d.to else s.locals u;
  cells = λ b. or_old (d.writes b) (s.cells b);
  objects = or_old d.objects s.objects;
}

abbrev pub effects : {L B Y E : Type 0} → State L B Y → List (Deed L B Y E) → State L B Y
effects s [] = s
effects s (d ∷ ds) = effects (effect s d) ds

-- states that are equal place by place
pub record Same {L B Y : Type 0} (s z : State L B Y) : Type 0 where
  pub locals : (u : ℕ) → s.locals u ≡ z.locals u
  pub cells : (b : ℕ) → s.cells b ≡ z.cells b
  pub objects : s.objects ≡ z.objects

-- deeds that are equal place by place
pub record IsSame {L B Y E : Type 0} (d e : Deed L B Y E) : Type 0 where
  pub thread : d.thread ≡ e.thread
  pub to : d.to ≡ e.to
  pub told : d.told ≡ e.told
  pub reads : (b : ℕ) → d.reads b ≡ e.reads b
  pub writes : (b : ℕ) → d.writes b ≡ e.writes b
  pub objects : d.objects ≡ e.objects
