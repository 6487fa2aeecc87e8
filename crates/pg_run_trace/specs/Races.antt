-- Which steps of a trace conflict, and whether they are ordered; its races, and the schedule that they give.
use Rattle.std.specs.Prelude.{◌≡◌, ℕ, zero, suc, ◌+◌, ◌==◌, ◌&&◌, ◌||◌, not, max, nat_le, nat_lt, List, [], ◌∷◌, ◌++◌, map, Bool, true, false, Option, Some}
use Rattle.std.specs.Prelude.{None, is_some, slice_get, if◌then◌else◌}
use Rattle.std.specs.List.{filter_map, list_any, position_from}
use Rattle.std.specs.Option.{option_to_list}
use Rattle.pg_ir.specs.pg_num.Places.{ByteRange}
use Rattle.pg_ir.specs.declared.ids.InstrId.{InstrId}
use Rattle.pg_law_threads.specs.Steps.{View}
use Rattle.pg_law_threads.specs.Intervals.{Timed, times, owners}
use Rattle.pg_run_trace.specs.declared.turn.Race.{Race}
use Rattle.pg_run_trace.specs.declared.turn.TurnKind.{TurnKind}
use Rattle.pg_run_trace.specs.declared.turn.TurnKind.TheVariants as turns
use Rattle.pg_run_trace.specs.declared.schedule.Schedule.{Schedule}
use Rattle.pg_run_trace.specs.declared.step.Step.{Step}
use Rattle.pg_run_trace.specs.declared.step.StepKind.{StepKind}
use Rattle.pg_run_trace.specs.declared.step.StepKind.TheVariants as kinds
use Rattle.pg_run_trace.specs.declared.step.Access.{Access}
use Rattle.pg_run_trace.specs.Steps.{access_of, events, happening_in, range_of}

-- ---- conflicts

abbrev pub is_in : ByteRange → ℕ → Bool
is_in r b = nat_le r.start b && nat_lt b (r.start + r.bytes)

abbrev pub reads_in : Option Access → ℕ → Bool
reads_in None b = false
reads_in (Some a) b = not a.writes && is_in (range_of a) b

abbrev pub writes_in : Option Access → ℕ → Bool
writes_in None b = false
writes_in (Some a) b = a.writes && is_in (range_of a) b

-- the two have a byte in common
abbrev pub share : ByteRange → ByteRange → Bool
share r s = nat_lt (max r.start s.start) (r.start + r.bytes) && nat_lt (max r.start s.start) (s.start + s.bytes)

abbrev pub accesses_conflict : Option Access → Option Access → Bool
accesses_conflict (Some a) (Some b) = (a.writes || b.writes) && share (range_of a) (range_of b)
accesses_conflict a b = false

-- the steps are of different threads, both access memory, their bytes meet and one writes
abbrev pub conflict : Step → Step → Bool
conflict x y = not (x.thread.0 == y.thread.0) && accesses_conflict (access_of x) (access_of y)

-- ---- events

-- the steps of a trace, where this test says which are events
abbrev pub steps_by : (Step → Bool) → View Step
steps_by is_event = record {
  thread = λ x. x.thread.0;
  is_event = is_event;
  reads = λ x. reads_in (access_of x);
  writes = λ x. writes_in (access_of x);
}

-- as they were recorded
abbrev pub recorded : View Step
recorded = steps_by (λ x. is_some (happening_in x.kind))

abbrev pub is_asked : StepKind → Bool
is_asked (kinds.Event e) = true
is_asked k = false

-- only what threads ask for: starts, exits, pthread calls and prints, but no loads and stores
abbrev pub asked : View Step
asked = steps_by (λ x. is_asked x.kind)

-- the steps with their intervals along their own events
abbrev pub timed_by : View Step → List Step → List (Timed Step)
timed_by V xs = times V (owners V xs) 0 xs

-- ---- order

-- neither's next turn stands before the other's last turn
abbrev pub overlap : Timed Step → Timed Step → Bool
overlap x y = not (nat_lt x.high y.low) && not (nat_lt y.high x.low)

-- the steps conflict, and nothing orders them
abbrev pub is_unordered : Timed Step → Timed Step → Bool
is_unordered x y = conflict x.did y.did && overlap x y

abbrev pub pair_or : ℕ → Option ℕ → Option (ℕ × ℕ) → Option (ℕ × ℕ)
pair_or j None later = later
pair_or j (Some i) later = Some (i, j)

-- the first unordered pair whose greater step is one of ys, which stand behind the steps xs: by the greater
-- and then by the lesser step
abbrev pub unordered_in : List (Timed Step) → ℕ → List (Timed Step) → Option (ℕ × ℕ)
unordered_in xs j [] = None
unordered_in xs j (y ∷ ys) = pair_or j (position_from (λ x. is_unordered x y) 0 xs) (unordered_in (xs ++ y ∷ []) (j + 1) ys)

-- the first two steps of a trace that conflict and aren't ordered along its events
abbrev pub first_unordered : List Step → Option (ℕ × ℕ)
first_unordered xs = unordered_in [] 0 (timed_by recorded xs)

-- ---- races

abbrev pub is_access : StepKind → Bool
is_access (kinds.Access a) = true
is_access k = false

-- x is a load or store of this instruction, and races with a step
abbrev pub is_racing : List (Timed Step) → ℕ → Timed Step → Bool
is_racing xs id x = is_access x.did.kind && (x.did.instr.0 == id) && list_any (is_unordered x) xs

abbrev pub race_with : ℕ → ℕ → Option ℕ → Option Race
race_with id i None = None
race_with id i (Some j) = Some (record { instr = record { 0 = id }; step = i; with = j })

-- the step that races with step x, which has this number, the first if there are more
abbrev pub race_of : List (Timed Step) → ℕ → ℕ → Option (Timed Step) → Option Race
race_of xs id i None = None
race_of xs id i (Some x) = race_with id i (position_from (is_unordered x) 0 xs)

abbrev pub race_at : List (Timed Step) → ℕ → Option ℕ → Option Race
race_at xs id None = None
race_at xs id (Some i) = race_of xs id i (slice_get xs i)

-- the first racing step of an instruction, with the first step that races with it
abbrev pub race_in : List (Timed Step) → ℕ → Option Race
race_in xs id = race_at xs id (position_from (is_racing xs id) 0 xs)

-- those of the instructions below n, ascending
unfoldable pub races_below : List (Timed Step) → ℕ → List Race
races_below xs zero = []
races_below xs (suc n) = races_below xs n ++ option_to_list (race_in xs n)

-- one more than the greatest instruction of the steps
abbrev pub instrs_in : List Step → ℕ
instrs_in [] = 0
instrs_in (x ∷ xs) = max (x.instr.0 + 1) (instrs_in xs)

-- the races of a trace
abbrev pub races_of : List Step → List Race
races_of xs = races_below (timed_by asked xs) (instrs_in xs)

-- ---- the schedule

abbrev pub is_one_of : List InstrId → ℕ → Bool
is_one_of gated i = list_any (λ (g : InstrId). g.0 == i) gated

abbrev pub kind_gated : Bool → StepKind → StepKind
kind_gated event (kinds.Access a) = kinds.Access (record a { event = event })
kind_gated event k = k

-- a step where the loads and stores of these instructions, and no others, are events
abbrev pub with_gated : List InstrId → Step → Step
with_gated gated x = record x { kind = kind_gated (is_one_of gated x.instr.0) x.kind }

-- the number that the pthread call of an event returned; a start, an exit, a print and the first halves of
-- a wait and of an arrival return none
abbrev pub reply_of : TurnKind → ℕ → ℕ
reply_of turns.Start n = 0
reply_of turns.Exit n = 0
reply_of turns.Wait n = 0
reply_of turns.Arrive n = 0
reply_of turns.Out n = 0
reply_of turns.Putchar n = 0
reply_of kind n = n

abbrev pub reply_in : StepKind → Option ℕ
reply_in (kinds.Event e) = Some (reply_of e.kind e.reply)
reply_in (kinds.Access a) = if a.event then Some 0 else None
reply_in k = None

-- the schedule of a trace where these loads and stores are events: all events in order, and their replies
abbrev pub schedule_by : List InstrId → List Step → Schedule
schedule_by gated xs = record {
  turns = events (map (with_gated gated) xs);
  replies = filter_map (λ (x : Step). reply_in x.kind) (map (with_gated gated) xs);
  gated = gated;
}

-- the schedule that orders the races of a trace
abbrev pub schedule_of : List Step → Schedule
schedule_of xs = schedule_by (map (λ (r : Race). r.instr) (races_of xs)) xs
