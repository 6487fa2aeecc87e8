-- What a view says of the run that it holds: the next shared step of its thread, what its seat may do, and what each step makes of it.
use Rattle.std.specs.Prelude.{◌≡◌, ℕ, suc, ◌+◌, ◌*◌, ◌<◌, ◌≤◌, ◌==◌, ◌&&◌, not, nat_lt, max, Bool, true, false, Option, Some, None, is_some, slice_get, if◌then◌else◌, ⊤, ◌/◌}
use Rattle.pg_law_course.specs.pg_num.Places.{ByteRange}
use Rattle.std.specs.List.{AllByRecursion}
use Rattle.pg_law_course.specs.pg_num.declared.layout.TheConstants.{GRANULE_COUNT, MEMORY_BYTES}
use Rattle.pg_law_course.specs.pg_num.declared.limits.TheConstants.{THREAD_LIMIT}
use Rattle.pg_law_course.specs.pg_run_memory.Bytes.{byte_of, number_of}
use Rattle.pg_law_course.specs.pg_run_memory.Initial.{initial_byte}
use Rattle.pg_law_course.specs.pg_law_threads.Effects.{deeds}
use Rattle.pg_law_course.specs.pg_law_threads.Intervals.{Timed, turns_done}
use Rattle.pg_law_course.specs.pg_run_trace.declared.step.Access.{Access}
use Rattle.pg_law_course.specs.pg_run_trace.declared.step.StepKind.{StepKind}
use Rattle.pg_law_course.specs.pg_run_trace.declared.step.StepKind.TheVariants as kinds
use Rattle.pg_law_course.specs.pg_run_trace.declared.turn.TurnKind.{TurnKind}
use Rattle.pg_law_course.specs.pg_run_trace.declared.turn.TurnKind.TheVariants as turns
use Rattle.pg_law_course.specs.pg_run_trace.Steps.{access_of, range_of}
use Rattle.pg_law_course.specs.pg_law_runs.Deeds.{Did}
use Rattle.pg_seats.specs.declared.run.Run.{Run}
use Rattle.pg_seats.specs.declared.run.Standing.{Standing}
use Rattle.pg_seats.specs.declared.run.View.{View}
use Rattle.pg_seats.specs.declared.run.View.TheVariants.{Idle, Laying, Pool, Worker, Note, Sweeping, Spent}
use Rattle.pg_words.specs.Calls.{thread_word}
use Rattle.pg_words.specs.declared.layout.TheConstants.{GRANULE_WORDS}
use Rattle.pg_seats.specs.Plan.{cells_there, own_of, plan_of}

-- ---- the next shared step

unfoldable pub next_of : Standing → Option (Timed Did)
next_of w = slice_get (own_of w.run w.thread) w.done

abbrev pub fits : (Timed Did → Bool) → Option (Timed Did) → Bool
fits f None = false
fits f (Some x) = f x

-- it is the turn of this number
abbrev pub is_turn : ℕ → Timed Did → Bool
is_turn n x = deeds.is_event x.did && (x.high == n)

abbrev pub is_due : Standing → ℕ → Bool
is_due w n = fits (is_turn n) (next_of w)

abbrev pub is_plain : Timed Did → Bool
is_plain x = not (deeds.is_event x.did)

abbrev pub is_range : ByteRange → Access → Bool
is_range r a = ((range_of a).start == r.start) && ((range_of a).bytes == r.bytes)

-- it reads this range
abbrev pub reads_at : ByteRange → Option Access → Bool
reads_at r None = false
reads_at r (Some a) = not a.writes && is_range r a

-- it writes this range
abbrev pub writes_at : ByteRange → Option Access → Bool
writes_at r None = false
writes_at r (Some a) = a.writes && is_range r a

-- and this number there
abbrev pub has_number : ℕ → Option Access → Bool
has_number n None = false
has_number n (Some a) = a.number == n

-- what the run has in this range before it
abbrev pub number_there : View → ByteRange → ℕ
number_there (Worker w) r = number_of (cells_there w.run w.thread w.done) r.start r.bytes
number_there v r = 0

-- what the run has as the word of thread t before it
abbrev pub word_there : View → ℕ → ℕ
word_there (Worker w) t = cells_there w.run w.thread w.done (MEMORY_BYTES + t)
word_there v t = 0

-- a cell of the run: a byte of memory, or a thread's word behind memory
abbrev pub IsCell : ℕ → Type 0
IsCell b = b < MEMORY_BYTES + THREAD_LIMIT

-- ---- the parts of a turn: a word of a thread that it leaves, and then a store

abbrev pub bit : Bool → ℕ
bit true = 1
bit false = 0

-- a create leaves the argument of the thread that it makes, an exit its thread's value
abbrev pub kind_leaves : TurnKind → Bool
kind_leaves turns.Create = true
kind_leaves turns.Exit = true
kind_leaves k = false

abbrev pub leaves_word : StepKind → Bool
leaves_word (kinds.Event e) = kind_leaves e.kind
leaves_word k = false

abbrev pub is_write : Option Access → Bool
is_write None = false
is_write (Some a) = a.writes

abbrev pub has_word : Did → Bool
has_word d = leaves_word d.told.kind

abbrev pub has_store : Did → Bool
has_store d = is_write (access_of d.told)

-- how many parts it has
abbrev pub needs : Did → ℕ
needs d = bit (has_word d) + bit (has_store d)

abbrev pub needed : Option (Timed Did) → ℕ
needed None = 0
needed (Some x) = needs x.did

-- the part that writes this cell, where one does
abbrev pub part_at : Did → ℕ → ℕ
part_at d b = if nat_lt b MEMORY_BYTES then bit (has_word d) else 0

-- of its first parts one writes this cell
abbrev pub is_put : Did → ℕ → ℕ → Bool
is_put d parts b = is_some (d.writes b) && nat_lt (part_at d b) parts

-- it leaves this number as the word of thread t
abbrev pub is_number : ℕ → Option ℕ → Bool
is_number n None = false
is_number n (Some m) = m == n

abbrev pub says : ℕ → ℕ → Did → Bool
says t n d = has_word d && is_number n (d.writes (MEMORY_BYTES + t))

-- ---- what a seat may do

abbrev pub epoch_of : View → ℕ
epoch_of (Idle e) = e
epoch_of v = 0

abbrev pub may_begin : View → Bool
may_begin (Idle e) = true
may_begin v = false

abbrev pub may_look : View → Bool
may_look (Worker w) = true
may_look v = false

abbrev pub may_split : View → Bool
may_split (Pool r n m) = m == 0
may_split v = false

-- a note of the same run
abbrev pub may_take : View → View → Bool
may_take (Worker w) (Note r n) = r.epoch == w.run.epoch
may_take v u = false

-- the seat of the first thread that has one, with no part done
abbrev pub may_gather : View → View → Bool
may_gather (Pool r n m) (Worker w) = (w.thread == m) && (w.parts == 0)
may_gather v u = false

abbrev pub may_close : View → Bool
may_close (Pool r n m) = n == m
may_close v = false

abbrev pub may_clear : View → ℕ → Bool
may_clear (Sweeping r k) t = k == thread_word t
may_clear v t = false

-- a plain load
abbrev pub may_load : View → ByteRange → Bool
may_load (Worker w) r = fits (λ x. is_plain x && reads_at r (access_of x.did.told)) (next_of w)
may_load v r = false

-- the load of a turn that is due
abbrev pub may_read : View → ByteRange → Bool
may_read (Worker w) r = w.due && fits (λ x. reads_at r (access_of x.did.told)) (next_of w)
may_read v r = false

-- a plain store
abbrev pub may_store : View → ByteRange → ℕ → Bool
may_store (Worker w) r n = fits (λ x. is_plain x && (writes_at r (access_of x.did.told) && has_number n (access_of x.did.told))) (next_of w)
may_store v r n = false

-- the store of a turn that is due, behind its word
abbrev pub may_put : View → ByteRange → ℕ → Bool
may_put (Worker w) r n = w.due && fits (λ x. (w.parts == bit (has_word x.did)) && (writes_at r (access_of x.did.told) && has_number n (access_of x.did.told))) (next_of w)
may_put v r n = false

-- the word that a turn that is due leaves
abbrev pub may_say : View → ℕ → ℕ → Bool
may_say (Worker w) t n = w.due && fits (λ x. (w.parts == 0) && says t n x.did) (next_of w)
may_say v t n = false

-- the word that a turn that is due reads
abbrev pub may_hear : View → ℕ → Bool
may_hear (Worker w) t = w.due && fits (λ x. (w.parts == 0) && x.did.reads (MEMORY_BYTES + t)) (next_of w)
may_hear v t = false

-- the end of a turn that is due: all its parts are done
abbrev pub may_advance : View → Bool
may_advance (Worker w) = w.due && fits (λ x. w.parts == needs x.did) (next_of w)
may_advance v = false

-- ---- what a step makes of a view

abbrev pub went_on : View → View
went_on (Worker w) = Worker (record { run = w.run; thread = w.thread; done = suc w.done; due = false; parts = 0; seen = w.seen; looks = w.looks })
went_on v = v

abbrev pub with_part : View → View
with_part (Worker w) = Worker (record { run = w.run; thread = w.thread; done = w.done; due = w.due; parts = suc w.parts; seen = w.seen; looks = w.looks })
with_part v = v

abbrev pub looked : View → ℕ → View
looked (Worker w) n = Worker (record { run = w.run; thread = w.thread; done = w.done; due = is_due w n; parts = w.parts; seen = n; looks = suc w.looks })
looked v n = v

abbrev pub advanced : View → ℕ → View
advanced (Worker w) n = Worker (record { run = w.run; thread = w.thread; done = suc w.done; due = false; parts = 0; seen = suc n; looks = w.looks })
advanced v n = v

abbrev pub with_one_more : View → View
with_one_more (Pool r n m) = Pool r (suc n) m
with_one_more v = v

abbrev pub newcomer : View → View
newcomer (Pool r n m) = Worker (record { run = r; thread = n; done = 0; due = false; parts = 0; seen = 0; looks = 0 })
newcomer v = Spent

abbrev pub noted : View → View
noted (Worker w) = Note w.run w.seen
noted v = Spent

abbrev pub told : View → View → View
told (Worker w) (Note r n) = Worker (record { run = w.run; thread = w.thread; done = w.done; due = w.due; parts = w.parts; seen = max w.seen n; looks = w.looks })
told v u = v

abbrev pub seen_of : View → ℕ
seen_of (Worker w) = w.seen
seen_of v = 0

-- no more turns are done than the run has, and where its next step is a turn, no more than those before it
abbrev pub IsAhead : View → ℕ → Type 0
IsAhead (Worker w) n = (n ≤ turns_done deeds 0 (plan_of w.run)) × ((x : Timed Did) → next_of w ≡ Some x → deeds.is_event x.did ≡ true → n ≤ x.high)
IsAhead v n = ⊤

-- its next step is the turn of this number, and it knew of no more turns
abbrev pub IsNow : View → ℕ → Type 0
IsNow (Worker w) n = (is_due w n ≡ true) × (w.seen ≤ n)
IsNow v n = ⊤

-- ---- words that are made ready for a run

abbrev pub laid : View → ℕ → View
laid (Laying r n) k = Laying r (suc k)
laid v k = v

abbrev pub pooled : View → View
pooled (Laying r n) = Pool r 0 0
pooled v = v

-- the run begins with this word in granule k, and with zeros in those between it and the last that was laid
abbrev pub MayLay : View → ℕ → ℕ → Type 0
MayLay (Laying r n) k word =
    (n ≤ k) × ((b : ℕ) → 8 * n ≤ b → b < 8 * k → initial_byte r.program.globals b ≡ 0)
    × ((j : ℕ) → j < 8 → byte_of word j ≡ initial_byte r.program.globals (8 * k + j))
MayLay v k word = ⊥

-- it begins with zeros behind the last granule that was laid
abbrev pub MayOpen : View → Type 0
MayOpen (Laying r n) = (b : ℕ) → 8 * n ≤ b → b < MEMORY_BYTES → initial_byte r.program.globals b ≡ 0
MayOpen v = ⊥

-- ---- the end of a run

abbrev pub gathered : View → View → View
gathered (Pool r n m) u = Pool r n (suc m)
gathered v u = v

abbrev pub closed : View → View
closed (Pool r n m) = Sweeping r 1
closed v = v

abbrev pub swept : View → ℕ → View
swept (Sweeping r k) i = Sweeping r (suc i)
swept v i = v

abbrev pub rested : View → View
rested (Sweeping r k) = Idle (suc r.epoch)
rested v = v

-- the run never writes this granule, and begins with zeros there
abbrev pub IsClean : Run → ℕ → Type 0
IsClean r g = (b : ℕ) → b / 8 ≡ g → (initial_byte r.program.globals b ≡ 0) × AllByRecursion (λ d. is_some (d.writes b) ≡ false) (plan_of r)

-- all granules between the words that are 0 again and this one are clean
abbrev pub MayWipe : View → ℕ → Type 0
MayWipe (Sweeping r k) g = (GRANULE_WORDS ≤ k) × (k ≤ GRANULE_WORDS + g) × ((i : ℕ) → k ≤ GRANULE_WORDS + i → i < g → IsClean r i)
MayWipe v g = ⊥

abbrev pub MayRest : View → Type 0
MayRest (Sweeping r k) = (GRANULE_WORDS ≤ k) × ((i : ℕ) → k ≤ GRANULE_WORDS + i → i < GRANULE_COUNT → IsClean r i)
MayRest v = ⊥
