-- The shared steps of a run as rows that are written out.
use Rattle.std.specs.Prelude.{◌≡◌, ℕ, suc, Bool, false, List, [], ◌∷◌, ◌++◌, Option, Some, None, is_some, if◌then◌else◌}
use Rattle.pg_num.specs.Pointers.{word_of}
use Rattle.pg_run_thread.specs.declared.action.Action.{Action}
use Rattle.pg_run_trace.specs.declared.step.Step.{Step}
use Rattle.pg_run_trace.specs.declared.step.StepKind.{StepKind}
use Rattle.pg_run_trace.specs.declared.step.StepKind.TheVariants as kinds
use Rattle.pg_run_trace.specs.declared.step.Write.{Write}
use Rattle.pg_run_trace.specs.declared.turn.TurnKind.{TurnKind}
use Rattle.pg_run_trace.specs.Steps.{event_of}
use Rattle.pg_law_runs.specs.Deeds.{Did, Shared, Thread}
use Rattle.pg_law_course.specs.Steps.{reads_by, writes_by}
use Rattle.pg_seats.specs.declared.run.Run.{Run}
use Rattle.pg_seats.specs.Plan.{first_of, plan_of, turns_in}

-- a step: its thread, its instruction, the action that it does, the thread that it makes, and what is told of it, which for an event
-- depends on the numbers of its operands and on its reply
pub record Row : Type 0 where
  pub thread : ℕ
  pub instr : ℕ
  pub action : Action
  pub made : ℕ
  pub told : List ℕ → ℕ → StepKind

-- what the rows leave open of each step: the local state behind it, the objects behind it, and an event's operands and its reply
pub record Open : Type 0 where
  pub to : ℕ → Thread
  pub objects : ℕ → Shared
  pub operands : ℕ → List ℕ
  pub reply : ℕ → ℕ

abbrev pub step_of : Open → ℕ → Row → Step
step_of o k x = record { thread = record { 0 = x.thread }; instr = record { 0 = x.instr }; kind = x.told (o.operands k) (o.reply k) }

-- step k of a run, as its row tells it
abbrev pub did_by : Open → ℕ → Row → Did
did_by o k x = record {
  thread = x.thread;
  to = o.to k;
  told = step_of o k x;
  reads = reads_by x.thread x.action;
  writes = writes_by (λ c. 0) x.thread x.made x.action;
  objects = if is_some (event_of (step_of o k x)) then Some (o.objects k) else None;
}

-- the steps of these rows, the first of which has the number k
abbrev pub dids_from : Open → ℕ → List Row → List Did
dids_from o k [] = []
dids_from o k (x ∷ xs) = did_by o k x ∷ dids_from o (suc k) xs

-- the shared steps of the run begin with these rows, its turns are owned by these threads, and all cells are 0 at first
pub record BeginsAs (r : Run) (owners : List ℕ) (rows : List Row) : Type 0 where
  pub turns : turns_in r ≡ owners
  pub zeros : (c : ℕ) → (first_of r).cells c ≡ 0
  pub open_of : Open
  pub later : List Did
  pub plan : plan_of r ≡ dids_from open_of 0 rows ++ later

-- and these rows are all of them
pub record IsRunOf (r : Run) (owners : List ℕ) (rows : List Row) : Type 0 where
  pub turns : turns_in r ≡ owners
  pub zeros : (c : ℕ) → (first_of r).cells c ≡ 0
  pub open_of : Open
  pub plan : plan_of r ≡ dids_from open_of 0 rows

-- ---- how rows are written

-- an event of this kind, with this object and what it writes
abbrev pub event : TurnKind → ℕ → Option Write → List ℕ → ℕ → StepKind
event kind object write operands reply = kinds.Event (record { kind = kind; object = object; operands = operands; reply = reply; write = write })

-- a plain load or store of so many bytes of a global of 8 bytes that begins at this granule, from this offset on, with this number
abbrev pub access : ℕ → ℕ → ℕ → ℕ → Bool → List ℕ → ℕ → StepKind
access granule offset bytes number writes operands reply = kinds.Access (record {
  pointer = word_of (record { start = granule; length = 8; offset = offset });
  number = number;
  bytes = bytes;
  writes = writes;
  event = false;
})
