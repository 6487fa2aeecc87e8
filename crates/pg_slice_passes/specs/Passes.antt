-- A pass over the first steps of a run: what is gathered is what the definitions have of them.
use Rattle.std.specs.Prelude.{◌≡◌, ℕ, ℤ, List, length, Bool, true, false, Some}
use Rattle.pg_ir.specs.declared.instr.Instr.{Instr}
use Rattle.pg_ir.specs.declared.instr.Op.{Op}
use Rattle.pg_ir.specs.declared.instr.Op.TheVariants as op
use Rattle.pg_ir.specs.Program.{NumberedProgram}
use Rattle.pg_schedule.specs.declared.interval.Interval.{Interval}
use Rattle.pg_slice_checks.specs.Asks.{AreNamed, all_hold, all_met}
use Rattle.pg_precondition.specs.Nodes.{NodeList}
use Rattle.pg_run_trace.specs.declared.step.Step.{Step}
use Rattle.pg_run_trace.specs.declared.step.StepKind.{StepKind}
use Rattle.pg_run_trace.specs.declared.step.StepKind.TheVariants as kinds
use Rattle.pg_slice_rules.specs.Extents.{is_live}
use Rattle.pg_slice_rules.specs.Known.{Reference, Seen, Taken, region_of, thread_of}
use Rattle.pg_slice_rules.specs.Moments.{instr_in, thread_in}
use Rattle.pg_law_demands.specs.pg_law_least.Footprints.{footprints_of}
use Rattle.pg_slice_replay.specs.declared.run.ReferenceRun.{ReferenceRun}
use Rattle.pg_slice_replay.specs.Kept.{landmark_at}
use Rattle.pg_slice_replay.specs.Landmarks.{landmark_of}
use Rattle.pg_slice_passes.specs.declared.pass.Gathered.{Gathered}
use Rattle.pg_slice_passes.specs.declared.state.SymbolicRun.{SymbolicRun}
use Rattle.pg_law_demands.specs.Along.{known_at}
use Rattle.pg_slice_passes.specs.Along.{asked_before, conditions_before, first_steps}
use Rattle.pg_slice_passes.specs.Footprints.{owners_of}
use Rattle.pg_slice_passes.specs.Rows.{all_footprints, all_owners}
use Rattle.pg_slice_passes.specs.State.{Knows}

-- x is step n of the run under these decisions, of this instruction, before which this is kept
pub record IsAt (R : Reference) (d : Taken) (p : NumberedProgram) (ns : NodeList) (s : SymbolicRun) (r : ReferenceRun) (n : ℕ) (step : Step) (i : Instr) (x : Seen) : Type 0 where
  pub program : R.program ≡ p
  pub number : x.number ≡ n
  pub did : x.moment.did.did ≡ step
  pub instr : instr_in p x.moment ≡ Some i
  pub landmark : landmark_at r n ≡ Some (landmark_of p R.regions x.moment)
  pub region : x.region ≡ region_of p R.regions x.moment (instr_in p x.moment)
  pub live : x.live ≡ is_live d.pinned (thread_of x.before (thread_in x.moment)).extents
  pub before : Knows p ns d.pinned s x.before

-- x is this step with this interval
pub record IsTimed (x : Seen) (step : Step) (i : Interval) : Type 0 where
  pub did : x.moment.did.did ≡ step
  pub low : x.moment.did.low ≡ i.low
  pub high : x.moment.did.high ≡ i.high

-- a branch is fixed where it is pinned, an access where it is exact
abbrev pub fixed_by : Taken → StepKind → ℕ → Bool
fixed_by d (kinds.Branch c) n = d.pinned n
fixed_by d (kinds.Access a) n = d.exact n
fixed_by d kind n = false

-- a call of a function that the program doesn't define
abbrev pub is_library_call : Op → Bool
is_library_call (op.CallLibrary k args) = true
is_library_call o = false

-- by these nodes, over the first n steps
pub record HasPassed (R : Reference) (d : Taken) (n : ℕ) (ns : NodeList) (g : Gathered) : Type 0 where
  pub known : Knows R.program ns d.pinned g.symbolic_nodes (known_at R d n)
  pub missing : g.asked.missing.items ≡ asked_before R d n
  pub checks : (input : List ℤ) → all_hold ns g.asked.checks.items input ≡ all_met (conditions_before R d n) input
  pub named : AreNamed (length ns) g.asked.checks.items
  pub footprints : all_footprints g.footprints ≡ footprints_of (first_steps R d n)
  pub owners : all_owners g.footprints ≡ owners_of (first_steps R d n)
