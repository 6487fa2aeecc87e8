-- The next turn of a run, and when the run is over.
use Rattle.std.specs.Prelude.{◌≡◌, ℕ, ◌<◌, ◌≤◌, ◌⊎◌, List, length, Bool, true, false, Option, Some, None, slice_index_or}
use Rattle.pg_room.specs.pg_ir.Program.{NumberedProgram}
use Rattle.pg_room.specs.pg_run.declared.guided_end.GuidedEnd.{GuidedEnd}
use Rattle.pg_room.specs.pg_run.declared.guided_end.GuidedEnd.TheVariants as ends
use Rattle.pg_room.specs.pg_seats.declared.run.Run.{Run}
use Rattle.pg_room.specs.pg_worker.declared.worker.Paused.{Paused}
use Rattle.pg_room.specs.pg_worker.declared.worker.Worker.{Worker}
use Rattle.pg_room.specs.pg_worker.Standing.{HasPaused, is_stopped, next_turn_of}

-- of the first n workers none has a turn left
abbrev pub AreDoneBelow : List Worker → ℕ → Type 0
AreDoneBelow ws n = (t : ℕ) (d : Worker) → t < n → next_turn_of (slice_index_or ws t d) ≡ None

-- of their next turns that of worker t comes first, and has the number g
pub record IsFirst (ws : List Worker) (n t g : ℕ) : Type 0 where
  pub within : t < n
  pub own : (d : Worker) → next_turn_of (slice_index_or ws t d) ≡ Some g
  pub least : (u h : ℕ) (d : Worker) → u < n → next_turn_of (slice_index_or ws u d) ≡ Some h → g ≤ h

abbrev pub IsFirstOf : List Worker → ℕ → Option (ℕ × ℕ) → Type 0
IsFirstOf ws n None = AreDoneBelow ws n
IsFirstOf ws n (Some x) = IsFirst ws n x.0 x.1

-- no worker has a turn left
abbrev pub AreDone : List Worker → Type 0
AreDone ws = AreDoneBelow ws (length ws)

-- turn g is the next turn of worker t, and those of the others come later
abbrev pub IsNext : List Worker → ℕ → ℕ → Type 0
IsNext ws t g = IsFirst ws (length ws) t g

-- the turn of a worker, and another worker's next turn, if it has one: o is the sooner of them
abbrev pub IsSooner : Option (ℕ × ℕ) → ℕ → Option ℕ → Option (ℕ × ℕ) → Type 0
IsSooner None t None o = o ≡ None
IsSooner None t (Some g) o = o ≡ Some (t, g)
IsSooner (Some f) t None o = o ≡ Some f
IsSooner (Some f) t (Some g) o = ((f.1 ≤ g) × (o ≡ Some f)) ⊎ ((g < f.1) × (o ≡ Some (t, g)))

-- the same, and the worker can go on
pub record IsAwaited (p : NumberedProgram) (ws : List Worker) (t g : ℕ) : Type 0 where
  pub next : IsNext ws t g
  pub goes : (d : Worker) → is_stopped p (slice_index_or ws t d) ≡ false

-- the same, and the worker is stopped
pub record IsHeld (p : NumberedProgram) (ws : List Worker) (t g : ℕ) : Type 0 where
  pub next : IsNext ws t g
  pub stopped : (d : Worker) → is_stopped p (slice_index_or ws t d) ≡ true

-- no end of a worker that is stopped
abbrev pub is_strayed : GuidedEnd → Bool
is_strayed ends.Strayed = true
is_strayed end = false

-- no turn is left, or the owner of the next turn is stopped
abbrev pub IsOver : NumberedProgram → List Worker → Type 0
IsOver p ws = AreDone ws ⊎ ((t : ℕ) × (g : ℕ) × IsHeld p ws t g)

-- all turns below this one are done
abbrev pub IsPast : ℕ → List Worker → Type 0
IsPast g ws = (t h : ℕ) (d : Worker) → t < length ws → next_turn_of (slice_index_or ws t d) ≡ Some h → g ≤ h

-- each of them paused behind some steps
abbrev pub HavePaused : Run → List Worker → Type 0
HavePaused r ws = (t : ℕ) (d : Worker) → t < length ws → (a : Worker) × (why : Paused) × HasPaused r why a (slice_index_or ws t d)

-- they are the workers a, and the seats of some were told of turns that are done
pub record WereTold (a b : List Worker) : Type 0 where
  pub count : length b ≡ length a
  pub same : (t : ℕ) (d : Worker) → t < length a → slice_index_or b t d ≡ record (slice_index_or a t d) { seat = (slice_index_or b t d).seat }

-- each has done as many turns as in a, or more
pub record HaveDone (a b : List Worker) : Type 0 where
  pub count : length b ≡ length a
  pub more : (t : ℕ) (d : Worker) → t < length a → (slice_index_or a t d).done ≤ (slice_index_or b t d).done
