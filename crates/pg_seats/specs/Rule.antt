-- The rule of the shared words: at every moment words and seats stand at a cut of the full guided run, apart from the parts of the turn
-- that is due which are done.
use Rattle.std.specs.Prelude.{◌≡◌, ℕ, ◌+◌, ◌-◌, ◌*◌, ◌/◌, ◌%◌, ◌<◌, ◌≤◌, ◌⊎◌, nat_lt, true, length, List, Option, Some, None, slice_get, slice_index, if◌then◌else◌, ⊤, suc}
use mathlib.Core.Option.{some}
use lib.ListN.{get_elem?}
use Rattle.atomic_table.specs.Table.{State}
use Rattle.pg_law_course.specs.pg_num.declared.layout.TheConstants.{GRANULE_COUNT, MEMORY_BYTES}
use Rattle.pg_law_course.specs.pg_num.declared.limits.TheConstants.{THREAD_LIMIT}
use Rattle.pg_law_course.specs.pg_run_memory.Bytes.{byte_of}
use Rattle.pg_law_course.specs.pg_run_memory.Initial.{initial_byte}
use Rattle.pg_law_course.specs.pg_law_threads.Effects.{deeds, or_old}
use Rattle.pg_law_course.specs.pg_law_threads.Intervals.{Timed, turns_done}
use Rattle.pg_law_course.specs.pg_law_threads.Standing.{Stands, done_of, left_by}
use Rattle.pg_law_course.specs.pg_law_runs.Deeds.{Did}
use Rattle.pg_words.specs.Calls.{NoSlot}
use Rattle.pg_words.specs.declared.layout.TheConstants.{GRANULE_WORDS, THREAD_WORDS, TURN_WORD, WORD_COUNT}
use Rattle.pg_seats.specs.declared.run.Run.{Run}
use Rattle.pg_seats.specs.declared.run.Standing.{Standing}
use Rattle.pg_seats.specs.declared.run.View.{View}
use Rattle.pg_seats.specs.declared.run.View.TheVariants.{Idle, Laying, Pool, Worker, Note, Sweeping, Spent}
use Rattle.pg_seats.specs.Plan.{IsEnforced, first_of, own_of, plan_of, turns_in}
use Rattle.pg_seats.specs.Views.{IsClean, is_due, is_put, needed, next_of}

-- the cell of the run that these words hold: a byte of memory, and behind memory a thread's word
abbrev pub cell_in : List ℕ → ℕ → ℕ
cell_in words b = if nat_lt b MEMORY_BYTES then byte_of (slice_index words (GRANULE_WORDS + b / 8)) (b % 8) else slice_index words (THREAD_WORDS + (b - MEMORY_BYTES))

-- ---- seats

-- how many threads were given a seat, how many of these seats were taken back, which seat is the pool's and which each thread's, and how many parts of a turn each has done
pub record Seats : Type 0 where
  pub made : ℕ
  pub gone : ℕ
  pub pool : ℕ
  pub seat : ℕ → ℕ
  pub parts : ℕ → ℕ

-- w is what the seat id knows, where each thread has done so many shared steps and so many turns are done
pub record IsSeated (run : Run) (c : Seats) (done : ℕ → ℕ) (clock id : ℕ) (w : Standing) : Type 0 where
  pub same_run : w.run ≡ run
  pub seated : id ≡ c.seat w.thread
  pub made : w.thread < c.made
  pub left : c.gone ≤ w.thread
  pub done_is : w.done ≡ done w.thread
  pub parts_is : w.parts ≡ c.parts w.thread
  -- where it is due, its next shared step is the next turn
  pub due : w.due ≡ true → is_due w clock ≡ true
  -- parts are done of a turn that is due, and of no more than it has
  pub some_parts : 0 < w.parts → w.due ≡ true
  pub few_parts : w.parts ≤ needed (next_of w)
  pub seen : w.seen ≤ clock

abbrev pub Fits : Run → Seats → (ℕ → ℕ) → ℕ → ℕ → View → Type 0
Fits run c done clock id (Pool r n m) = (r ≡ run) × (id ≡ c.pool) × (n ≡ c.made) × (m ≡ c.gone)
Fits run c done clock id (Worker w) = IsSeated run c done clock id w
Fits run c done clock id (Note r n) = ((r ≡ run) × (n ≤ clock)) ⊎ (r.epoch < run.epoch)
Fits run c done clock id Spent = ⊤
Fits run c done clock id v = ⊥

-- thread t has a seat
pub record HasSeat (views : List View) (c : Seats) (t : ℕ) : Type 0 where
  pub standing : Standing
  pub view : get_elem? views (c.seat t) ≡ some (Worker standing)
  pub thread : standing.thread ≡ t

-- ---- memory

-- a cell, with the parts of the step that are done laid over it
abbrev pub over : Option (Timed Did) → ℕ → ℕ → ℕ → ℕ
over None parts b v = v
over (Some x) parts b v = if is_put x.did parts b then or_old (x.did.writes b) v else v

-- the same with the next step of the thread that owns a turn
abbrev pub over_turn : Run → (ℕ → ℕ) → (ℕ → ℕ) → Option ℕ → ℕ → ℕ → ℕ
over_turn run done parts None b v = v
over_turn run done parts (Some t) b v = over (slice_get (own_of run t) (done t)) (parts t) b v

-- ---- while a run goes on

pub record Keeps (run : Run) (words : List ℕ) (views : List View) : Type 0 where
  pub run_is : IsEnforced run
  pub wide : length words ≡ WORD_COUNT
  -- the turn word is the number of turns that are done, of those that the run has
  pub turns : ℕ
  pub clock : slice_index words TURN_WORD ≡ turns
  pub bound : turns ≤ turns_done deeds 0 (plan_of run)
  -- the threads stand at a cut of the run
  pub stands : Stands (turns_in run) (plan_of run) turns
  pub seats : Seats
  pub fits : (id : ℕ) (v : View) → get_elem? views id ≡ some v → Fits run seats (done_of stands) turns id v
  pub few_gone : seats.gone ≤ seats.made
  pub seated : (t : ℕ) → t < seats.made → seats.gone ≤ t → HasSeat views seats t
  pub gathered : (t : ℕ) → t < seats.gone → seats.parts t ≡ 0
  pub unseated : (t : ℕ) → seats.made ≤ t → (done_of stands t ≡ 0) × (seats.parts t ≡ 0)
  -- each cell is what the steps that are done leave, in the run's order, with the parts of the next turn laid over it
  pub memory : (b : ℕ) → b < MEMORY_BYTES + THREAD_LIMIT
      → cell_in words b ≡ over_turn run (done_of stands) seats.parts (slice_get (turns_in run) turns) b ((left_by (first_of run) stands).cells b)

-- ---- before it

-- a note of a run before this one
abbrev pub IsOld : ℕ → View → Type 0
IsOld epoch (Note r n) = r.epoch < epoch
IsOld epoch v = ⊥

-- one seat has this view, and all others are spent, or notes of runs before this one
pub record IsAlone (v : View) (epoch : ℕ) (views : List View) : Type 0 where
  pub only : (id : ℕ) (u : View) → get_elem? views id ≡ some u → (u ≡ v) ⊎ ((u ≡ Spent) ⊎ IsOld epoch u)
  pub one : (i j : ℕ) → get_elem? views i ≡ some v → get_elem? views j ≡ some v → i ≡ j

-- all bytes of granule g are 0
abbrev pub IsZero : List ℕ → ℕ → Type 0
IsZero words g = (j : ℕ) → j < 8 → byte_of (slice_index words (GRANULE_WORDS + g)) j ≡ 0

-- between runs all is 0, and one seat is idle
pub record Rests (epoch : ℕ) (words : List ℕ) (views : List View) : Type 0 where
  pub wide : length words ≡ WORD_COUNT
  pub heads : (i : ℕ) → i < GRANULE_WORDS → slice_index words i ≡ 0
  pub zeros : (g : ℕ) → g < GRANULE_COUNT → IsZero words g
  pub alone : IsAlone (Idle epoch) epoch views

-- the words hold what the run begins with in granules below a number, and 0 elsewhere
pub record Lays (run : Run) (laid : ℕ) (words : List ℕ) (views : List View) : Type 0 where
  pub run_is : IsEnforced run
  pub wide : length words ≡ WORD_COUNT
  pub heads : (i : ℕ) → i < GRANULE_WORDS → slice_index words i ≡ 0
  pub bytes : (b : ℕ) → b < 8 * laid → byte_of (slice_index words (GRANULE_WORDS + b / 8)) (b % 8) ≡ initial_byte run.program.globals b
  pub zeros : (g : ℕ) → laid ≤ g → g < GRANULE_COUNT → IsZero words g
  pub alone : IsAlone (Laying run laid) run.epoch views

-- ---- behind it

-- words below a number are 0 again, and so are the granules that are clean
pub record Sweeps (run : Run) (k : ℕ) (words : List ℕ) (views : List View) : Type 0 where
  pub wide : length words ≡ WORD_COUNT
  pub heads : (i : ℕ) → i < k → i < GRANULE_WORDS → slice_index words i ≡ 0
  pub zeros : (g : ℕ) → g < GRANULE_COUNT → (GRANULE_WORDS + g < k) ⊎ IsClean run g → IsZero words g
  pub alone : IsAlone (Sweeping run k) (suc run.epoch) views

abbrev pub Holds : State NoSlot View → Type 0
Holds s = ((epoch : ℕ) × Rests epoch s.words s.views) ⊎ ((run : Run) × (((laid : ℕ) × Lays run laid s.words s.views) ⊎ (Keeps run s.words s.views ⊎ ((k : ℕ) × Sweeps run k s.words s.views))))
