-- The steps that a trace keeps: a cell for each, which for an event names one of the trace's list of events.
use Rattle.std.specs.Prelude.{ℕ, ◌<◌, List, map, Bool, Option, Some, None, true, false, slice_get}
use Rattle.pg_run_trace.specs.declared.cell.Cell.{Cell}
use Rattle.pg_run_trace.specs.declared.cell.CellKind.{CellKind}
use Rattle.pg_run_trace.specs.declared.cell.CellKind.TheVariants as cells
use Rattle.pg_run_trace.specs.declared.step.Step.{Step}
use Rattle.pg_run_trace.specs.declared.step.StepKind.{StepKind}
use Rattle.pg_run_trace.specs.declared.step.StepKind.TheVariants as kinds
use Rattle.pg_run_trace.specs.declared.step.Event.{Event}

abbrev pub event_or_other : Option Event → StepKind
event_or_other None = kinds.Other
event_or_other (Some e) = kinds.Event e

abbrev pub access_with : Cell → Bool → Bool → StepKind
access_with c writes event = kinds.Access (record { pointer = c.first; number = c.second; bytes = c.bytes; writes = writes; event = event })

abbrev pub kind_by : List Event → Cell → CellKind → StepKind
kind_by es c cells.Other = kinds.Other
kind_by es c cells.Branch = kinds.Branch c.first
kind_by es c cells.Allocation = kinds.Allocation c.first c.second
kind_by es c cells.Load = access_with c false false
kind_by es c cells.Store = access_with c true false
kind_by es c cells.GatedLoad = access_with c false true
kind_by es c cells.GatedStore = access_with c true true
kind_by es c cells.Event = event_or_other (slice_get es c.first)

-- the step of a cell
abbrev pub step_in : List Event → Cell → Step
step_in es c = record { thread = c.thread; instr = c.instr; kind = kind_by es c c.kind }

abbrev pub steps_in : List Event → List Cell → List Step
steps_in es cs = map (step_in es) cs

-- a cell of an event names one of so many
abbrev pub NamesBy : ℕ → Cell → CellKind → Type 0
NamesBy n c cells.Event = c.first < n
NamesBy n c k = Unit {0}

abbrev pub Names : ℕ → Cell → Type 0
Names n c = NamesBy n c c.kind
