-- Entries: what is kept of a run, so that its schedule serves other inputs.
use Rattle.std.specs.Prelude.{◌≡◌, ℕ, ℤ, Bool, List, length, map, true, None, Option}
use Rattle.std.specs.List.{filter_map}
use Rattle.pg_ir.specs.declared.ids.InstrId.{InstrId}
use Rattle.pg_ir.specs.Program.{NumberedProgram}
use Rattle.pg_precondition.specs.Nodes.{Conditions}
use Rattle.pg_precondition.specs.Values.{is_admitted}
use Rattle.pg_precondition.specs.Names.{AreNeeded}
use Rattle.pg_region_accesses.specs.Accesses.{RootedList, is_gated}
use Rattle.pg_region_summaries.specs.Summaries.{AreSummaries}
use Rattle.pg_run_trace.specs.declared.schedule.Schedule.{Schedule}
use Rattle.pg_run_trace.specs.declared.step.Step.{Step}
use Rattle.pg_run_trace.specs.declared.turn.Race.{Race}
use Rattle.pg_run_trace.specs.declared.turn.Turn.{Turn}
use Rattle.pg_run_trace.specs.Races.{first_unordered, races_of, reply_in, schedule_of}
use Rattle.pg_run.specs.State.{State, exit_value_of}
use Rattle.pg_run.specs.Follow.{Exits, following_of}
use Rattle.pg_slice_rules.specs.Closed.{IsSlice, admits}
use Rattle.pg_slice_rules.specs.Freeable.{Regions}
use Rattle.pg_slice_rules.specs.Known.{Taken}
use Rattle.pg_slice_rules.specs.Sets.{taken}
use Rattle.pg_slice.specs.pg_slice_decisions.Marks.{members_from}
use Rattle.pg_law_reference.specs.pg_slice_replay.OfRegions.{AreRegions}
use Rattle.pg_law_reference.specs.Given.{reference_of}

-- ---- what an entry tells

pub record EntryParts : Type 0 where
  -- the input that was recorded
  pub input : List ℤ
  -- the turns, their replies, and the loads and stores that are turns
  pub schedule : Schedule
  -- the races of the recorded run
  pub races : List Race
  -- the decisions on the reference run: the numbers of its pinned and of its exact steps
  pub pinned : List ℕ
  pub exact : List ℕ
  -- what an input must give so that the schedule serves it
  pub precondition : Conditions
  -- the instruction of each step of the reference run
  pub ids : List InstrId

abbrev pub decisions_of : EntryParts → Taken
decisions_of e = taken e.pinned e.exact

-- the decisions are the slice of a run with these steps, and the precondition admits the inputs that they admit: by what quiet
-- functions access where these loads and stores are turns, and whatever gives the program's regions by that
pub record IsSliced (p : NumberedProgram) (input : List ℤ) (gated : List InstrId) (steps : List Step) (d : Taken) (c : Conditions) : Type 0 where
  pub sums : ℕ → Option RootedList
  pub summaries : AreSummaries p (is_gated gated) sums
  pub slice : (regions : Regions) → AreRegions p (is_gated gated) sums regions → IsSlice (reference_of p regions gated input steps) d
  pub admits : (regions : Regions) → AreRegions p (is_gated gated) sums regions → (other : List ℤ) → is_admitted other c ≡ admits (reference_of p regions gated input steps) d other
  -- no node that no check needs
  pub needed : AreNeeded c

-- the numbers of a set of those below n: ascending and without doubles
abbrev pub AreOfSet : ℕ → List ℕ → Type 0
AreOfSet n xs = (marks : List Bool) × (length marks ≡ n) × (xs ≡ members_from 0 marks)

-- the guided run of the program on the entry's input along its schedule exits with these steps, prints this and exits with this
-- value; the decisions are the slice of that run
pub record ServesAlong (p : NumberedProgram) (steps : List Step) (printed : List ℕ) (value : ℤ) (e : EntryParts) : Type 0 where
  pub exits : following_of p e.input e.schedule.turns e.schedule.gated ≡ Exits steps printed value
  pub sliced : IsSliced p e.input e.schedule.gated steps (decisions_of e) e.precondition
  pub ids : e.ids ≡ map (λ (x : Step). x.instr) steps
  -- each decision is on a step, and each list ascends without doubles
  pub pinned : AreOfSet (length e.ids) e.pinned
  pub exact : AreOfSet (length e.ids) e.exact
  -- the input of the run is admitted
  pub own : is_admitted e.input e.precondition ≡ true

-- ---- the entry of a recorded run

-- the entry of a run of the program on an input, which has the steps xs and ends in the state z: its schedule is that of the
-- run's events and races, and the guided run along it prints the same and exits with the same value
pub record IsEntry (p : NumberedProgram) (input : List ℤ) (xs : List Step) (z : State) (e : EntryParts) : Type 0 where
  pub same_input : e.input ≡ input
  pub races : e.races ≡ races_of xs
  pub schedule : e.schedule ≡ schedule_of xs
  pub steps : List Step
  pub serves : ServesAlong p steps z.printed (exit_value_of z) e

-- ---- the entry of given turns

-- the entry of the guided run on an input along these turns, where these loads and stores are turns: the run is ordered, and
-- the races and replies are its own
pub record IsEntryOfTurns (p : NumberedProgram) (input : List ℤ) (turns : List Turn) (gated : List InstrId) (e : EntryParts) : Type 0 where
  pub same_input : e.input ≡ input
  pub same_turns : e.schedule.turns ≡ turns
  pub same_gated : e.schedule.gated ≡ gated
  pub steps : List Step
  pub printed : List ℕ
  pub value : ℤ
  pub serves : ServesAlong p steps printed value e
  pub replies : e.schedule.replies ≡ filter_map (λ (x : Step). reply_in x.kind) steps
  pub races : e.races ≡ races_of steps
  pub ordered : first_unordered steps ≡ None

-- ---- entries of one run

-- two entries have the same turns, replies and races, and admit the same inputs
pub record AreAlike (e k : EntryParts) : Type 0 where
  pub input : e.input ≡ k.input
  pub schedule : e.schedule ≡ k.schedule
  pub races : e.races ≡ k.races
  pub admitted : (input : List ℤ) → is_admitted input e.precondition ≡ is_admitted input k.precondition
