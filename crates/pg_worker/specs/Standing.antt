-- Where a worker stands in its run, and what its steps change.
use Rattle.std.specs.Prelude.{◌≡◌, ℕ, suc, ◌+◌, ◌<◌, ◌≤◌, ◌==◌, ◌&&◌, ◌||◌, List, [], ◌++◌, length, take, Bool, true, false, Option, Some, None, is_some, slice_get, slice_index, vec_capacity, if◌then◌else◌}
use Rattle.std.specs.List.{cons_option}
use Rattle.atomic_table.specs.Seated.{TableId}
use Rattle.pg_seats.specs.pg_num.Places.{ByteRange, IsPlace}
use Rattle.pg_seats.specs.pg_num.declared.layout.TheConstants.{MEMORY_BYTES}
use Rattle.pg_seats.specs.pg_num.declared.limits.TheConstants.{GUIDED_STEP_LIMIT}
use Rattle.pg_seats.specs.pg_ir.declared.request.Request.{Request}
use Rattle.pg_seats.specs.pg_ir.declared.request.Request.TheVariants as requests
use Rattle.pg_seats.specs.pg_ir.Program.{NumberedProgram}
use Rattle.pg_seats.specs.pg_run_thread.declared.action.Action.{Action}
use Rattle.pg_seats.specs.pg_run_thread.declared.action.Action.TheVariants as actions
use Rattle.pg_seats.specs.pg_run_thread.LocalState.{LocalState}
use Rattle.pg_seats.specs.pg_run_thread.Step.{after, next}
use Rattle.pg_seats.specs.pg_run_thread.Told.{id_of}
use Rattle.pg_seats.specs.pg_run_thread.States.{IsOf}
use Rattle.pg_seats.specs.pg_run.declared.guided_end.GuidedEnd.{GuidedEnd}
use Rattle.pg_seats.specs.pg_run.declared.guided_end.GuidedEnd.TheVariants as ends
use Rattle.pg_seats.specs.pg_law_threads.Effects.{or_old}
use Rattle.pg_seats.specs.pg_law_runs.Deeds.{Did, is_event_at}
use Rattle.pg_seats.specs.pg_law_course.Course.{cells_before, course, shared_in, state_at, turns_before, turns_in, turns_of}
use Rattle.pg_seats.specs.pg_law_course.Prints.{number_printed, numbers_printed, word_behind}
use Rattle.pg_seats.specs.pg_law_course.Rests.{is_trap, trap_end}
use Rattle.pg_seats.specs.pg_law_course.Steps.{answer_by}
use Rattle.pg_seats.specs.declared.run.Run.{Run}
use Rattle.pg_seats.specs.declared.run.Standing.{Standing}
use Rattle.pg_seats.specs.declared.run.View.{View}
use Rattle.pg_seats.specs.declared.run.View.TheVariants as views
use Rattle.pg_seats.specs.Plan.{IsEnforced, run_of}
use Rattle.pg_seats.specs.Views.{is_due, seen_of}
use Rattle.pg_worker.specs.declared.shared.Shared.{Shared}
use Rattle.pg_worker.specs.declared.worker.Paused.{Paused}
use Rattle.pg_worker.specs.declared.worker.Paused.TheVariants as pauses
use Rattle.pg_worker.specs.declared.worker.Taken.{Taken}
use Rattle.pg_worker.specs.declared.worker.Taken.TheVariants as outcomes
use Rattle.pg_worker.specs.declared.worker.Worker.{Worker}
use Rattle.pg_worker.specs.Pages.{is_marked, page_of}

-- the run that workers share
abbrev pub run_in : Shared → Run
run_in s = run_of s.program.now s.schedule.now s.input.now s.epoch

-- the table of their words
abbrev pub table_in : Shared → TableId
table_in s = s.words.table.shared.table_id

-- what a thread's seat knows before its first step
abbrev pub first_view : Run → ℕ → View
first_view r t = views.Worker (record { run = r; thread = t; done = 0; due = false; parts = 0; seen = 0; looks = 0 })

-- how many turns a note knows of
abbrev pub noted_in : View → ℕ
noted_in (views.Note r n) = n
noted_in v = 0

-- how often the turn word was read through a seat
abbrev pub looks_of : View → ℕ
looks_of (views.Worker w) = w.looks
looks_of v = 0

-- the number of the worker's next turn, none where no turn is left
abbrev pub next_turn_of : Worker → Option ℕ
next_turn_of w = slice_get w.turns.items w.done

-- the seat w of thread t stands behind k of the thread's steps of the run, with so many parts of the next one done
pub record IsSeatAt (r : Run) (t k parts : ℕ) (w : Standing) : Type 0 where
  pub run_is : w.run ≡ r
  pub thread : w.thread ≡ t
  pub parts_done : w.parts ≡ parts
  pub done : w.done ≡ shared_in r.program r.input r.schedule t k

-- each byte of memory that the first k steps of thread t write lies in a page that is marked
abbrev pub HasMarks : Run → ℕ → ℕ → List ℕ → Type 0
HasMarks r t k words = (i : ℕ) (d : Did) (b : ℕ) → i < k → slice_get (course r.program r.input r.schedule t) i ≡ Some d → b < MEMORY_BYTES
    → is_some (d.writes b) ≡ true → is_marked words (page_of b) ≡ true

-- the worker stands behind so many steps of its thread in the full guided run, with the local state that the thread has there; where
-- the next step is a turn that is due, so many parts of it are done
pub record IsAt (r : Run) (table : TableId) (parts : ℕ) (w : Worker) : Type 0 where
  pub enforced : IsEnforced r
  pub taken : ℕ
  pub standing : Standing
  pub own : w.seat.table_id ≡ table
  pub view : w.seat.me ≡ (views.Worker standing, [])
  pub seat : IsSeatAt r w.thread.0 taken parts standing
  pub local : state_at r.program r.input r.schedule w.thread.0 taken ≡ Some w.fiber
  pub of : IsOf r.program w.fiber
  pub steps : w.left + taken ≡ GUIDED_STEP_LIMIT
  pub turns : w.turns.items ≡ turns_of w.thread.0 r.schedule.turns
  pub turns_done : w.done ≡ turns_in r.program r.input r.schedule w.thread.0 taken
  -- its seat knows of each of its turns that are done
  pub behind : (i g : ℕ) → i < w.done → slice_get w.turns.items i ≡ Some g → g < standing.seen
  pub prints : w.prints.items ≡ numbers_printed r.program r.input r.schedule w.thread.0 taken
  pub few : length w.prints.items ≤ w.done
  pub room : length w.turns.items ≤ vec_capacity w.prints
  -- the main thread's worker keeps its thread's word
  pub value : w.thread.0 ≡ 0 → w.value ≡ word_behind 0 0 (take taken (course r.program r.input r.schedule 0))
  pub marked : HasMarks r w.thread.0 taken w.pages.words.items

-- it can take no step: its next action traps by itself, or its steps are spent
abbrev pub is_stopped : NumberedProgram → Worker → Bool
is_stopped p w = is_trap (next p w.fiber) || (w.left == 0)

-- the end of the run where it owns the next turn and is stopped
abbrev pub end_by : NumberedProgram → Worker → GuidedEnd
end_by p w = if w.left == 0 then ends.Budget w.thread else trap_end (id_of w.fiber) (next p w.fiber)

-- what a worker's steps leave as it was, and what they only raise
pub record WentOn (a b : Worker) : Type 0 where
  pub thread : b.thread ≡ a.thread
  pub turns : b.turns.items ≡ a.turns.items
  pub done : a.done ≤ b.done
  pub left : b.left ≤ a.left
  pub seen : seen_of a.seat.me.0 ≤ seen_of b.seat.me.0
  pub looks : looks_of a.seat.me.0 ≤ looks_of b.seat.me.0

-- one step more
pub record TookOne (a b : Worker) : Type 0 where
  pub one : suc b.left ≡ a.left
  pub went : WentOn a b

-- the turn word was read, and fewer turns were done than those before the worker's next one
pub record HasToWait (a b : Worker) : Type 0 where
  pub looked : looks_of a.seat.me.0 < looks_of b.seat.me.0
  pub early : (g : ℕ) → next_turn_of b ≡ Some g → seen_of b.seat.me.0 < g

-- b is a behind one step of its own state, which went on with this answer; their seats are another matter
pub record IsResumed (p : NumberedProgram) (answer : ℕ) (a b : Worker) : Type 0 where
  pub fiber : b.fiber ≡ after p a.fiber answer
  pub of : IsOf p b.fiber
  pub left : suc b.left ≡ a.left
  pub thread : b.thread ≡ a.thread
  pub turns : b.turns ≡ a.turns
  pub done : b.done ≡ a.done
  pub prints : b.prints ≡ a.prints
  pub value : b.value ≡ a.value
  pub pages : b.pages ≡ a.pages

-- ---- turns

-- the seat knows that its next shared step is the turn of this number, which is due
abbrev pub is_now : View → ℕ → Bool
is_now (views.Worker w) n = w.due && is_due w n
is_now v n = false

-- the worker's next turn is due
abbrev pub IsDue : Worker → Type 0
IsDue w = (g : ℕ) → next_turn_of w ≡ Some g → is_now w.seat.me.0 g ≡ true

-- the thread's next action is an event, or the thread has ended: it takes no step before its next turn is due
abbrev pub is_end : Action → Bool
is_end actions.Ended = true
is_end action = false

abbrev pub stands_at_event : Run → LocalState → Bool
stands_at_event r l = is_event_at r.schedule.gated (id_of l) (next r.program l)

abbrev pub waits_there : Run → LocalState → Bool
waits_there r l = stands_at_event r l || is_end (next r.program l)

-- ---- why it pauses

-- b is a, which waited and took no step: it stands at an event, or its thread has ended
pub record HasWaited (r : Run) (a b : Worker) : Type 0 where
  pub same : b ≡ record a { seat = b.seat }
  pub went : WentOn a b
  pub waits : HasToWait a b
  pub goes : is_stopped r.program b ≡ false
  pub stands : waits_there r b.fiber ≡ true

-- what became of its next step
abbrev pub HasDone : Run → Taken → Worker → Worker → Type 0
HasDone r outcomes.Step a b = TookOne a b
HasDone r outcomes.Waits a b = HasWaited r a b
HasDone r outcomes.Traps a b = (b ≡ a) × (is_trap (next r.program a.fiber) ≡ true)

-- a turn is left and isn't due, the worker isn't stopped, and it stands at an event or its thread has ended
pub record IsWaiting (r : Run) (a b : Worker) : Type 0 where
  pub turn : b.done < length b.turns.items
  pub waits : HasToWait a b
  pub goes : is_stopped r.program b ≡ false
  pub stands : waits_there r b.fiber ≡ true

-- no turn is left, or it waits for its next turn, or a turn is left and it is stopped
abbrev pub HasPaused : Run → Paused → Worker → Worker → Type 0
HasPaused r pauses.Done a b = length b.turns.items ≤ b.done
HasPaused r pauses.Waiting a b = IsWaiting r a b
HasPaused r pauses.Stopped a b = (b.done < length b.turns.items) × (is_stopped r.program b ≡ true)

-- the answer with which thread t goes on behind k of its steps, in the local state l
abbrev pub answer_at : Run → ℕ → ℕ → LocalState → ℕ
answer_at r t k l = answer_by r.input (cells_before r.program r.input r.schedule t k) t
    (slice_index r.schedule.replies (turns_before r.program r.input r.schedule t k)) (next r.program l)

-- the worker's next turn has this answer
pub record IsAnswered (r : Run) (table : TableId) (answer : ℕ) (w : Worker) : Type 0 where
  pub parts : ℕ
  pub at : IsAt r table parts w
  pub answered : answer ≡ answer_at r w.thread.0 at.taken w.fiber

-- one turn more
pub record TookTurn (a b : Worker) : Type 0 where
  pub turn : b.done ≡ suc a.done
  pub took : TookOne a b

-- where an action stores
abbrev pub place_stored : Action → Option ByteRange
place_stored (actions.Store q n) = Some q
place_stored (actions.Event (requests.Create q f n)) = Some q
place_stored (actions.Event (requests.Join u (Some q))) = Some q
place_stored action = None

-- the value with which it ends its thread
abbrev pub value_left : Action → Option ℕ
value_left (actions.Event (requests.Exit n is_return)) = Some n
value_left action = None

-- b is a with what this action prints, the value that it leaves, and a mark where it stores
pub record HasKept (action : Action) (a b : Worker) : Type 0 where
  pub prints : b.prints.items ≡ a.prints.items ++ cons_option (number_printed action) []
  pub room : vec_capacity a.prints ≤ vec_capacity b.prints
  pub value : b.value ≡ or_old (value_left action) a.value
  pub stored : (q : ByteRange) → place_stored action ≡ Some q → IsPlace q × (is_marked b.pages.words.items (page_of q.start) ≡ true)
  pub marked : (page : ℕ) → is_marked a.pages.words.items page ≡ true → is_marked b.pages.words.items page ≡ true
  pub rest : b ≡ record a { prints = b.prints; value = b.value; pages = b.pages }

-- a turn that leaves no word of a thread and stores nothing
abbrev pub is_bare : Request → Bool
is_bare requests.Start = false
is_bare (requests.Exit n is_return) = false
is_bare (requests.Create q f n) = false
is_bare (requests.Join u (Some q)) = false
is_bare q = true
