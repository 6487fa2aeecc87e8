-- The same, followed along the moments of a run: what is to be shown of a machine's run.
use Rattle.std.specs.Prelude.{◌≡◌, ℕ, suc, ◌+◌, ◌-◌, ◌==◌, ◌<◌, ◌≤◌, not, List}
use Rattle.std.specs.Prelude.{[], ◌∷◌, length, map, filter, Contains, true, Option, Some, None, if◌then◌else◌}
use Rattle.pg_ir.specs.declared.instr.Instr.{Instr}
use Rattle.pg_ir.specs.declared.instr.Op.{Op}
use Rattle.pg_ir.specs.declared.instr.Op.TheVariants as op
use Rattle.pg_run_trace.specs.declared.step.Access.{Access}
use Rattle.pg_run_trace.specs.declared.step.StepKind.{StepKind}
use Rattle.pg_run_trace.specs.declared.step.StepKind.TheVariants as kinds
use Rattle.pg_run_trace.specs.declared.turn.TurnKind.{TurnKind}
use Rattle.pg_run_trace.specs.declared.turn.TurnKind.TheVariants as turns
use Rattle.pg_run_trace.specs.Steps.{range_of}
use Rattle.pg_slice_rules.specs.Moments.{Moment, instr_in, thread_in}
use Rattle.pg_slice_rules.specs.Freeable.{FreeRegion, bounds_of}
use Rattle.pg_slice_rules.specs.SymbolicValues.{is_within}
use Rattle.pg_slice_rules.specs.Extents.{Extent, begun, ends}
use Rattle.pg_slice_rules.specs.Known.{Reference, Seen, edge_of, region_of, start_of}
use Rattle.pg_law_least.specs.Keeps.{AreStacked, KeepsTo, MaySetPhis, StoresBy, is_branching}

-- ---- before a step

-- an open extent, and the region of its branch step
pub record OpenExtent : Type 0 where
  pub extent : Extent
  pub region : FreeRegion

abbrev pub extents_in : List OpenExtent → List Extent
extents_in os = map (λ (o : OpenExtent). o.extent) os

-- how many threads there are, and of each how many calls it has and the extents that are open, the last begun first
pub record Track : Type 0 where
  pub threads : ℕ
  pub calls : ℕ → ℕ
  pub extents : ℕ → List OpenExtent

-- before the first step
abbrev pub first_track : Track
first_track = record { threads = 1; calls = λ t. if t == 0 then 1 else 0; extents = λ t. [] }

-- ---- after a step

-- how many calls there are after an instruction: one more after a call, one fewer after a return
abbrev pub calls_by_op : Op → ℕ → ℕ
calls_by_op (op.Call g args) k = suc k
calls_by_op (op.Ret v) k = k - 1
calls_by_op o k = k

-- an exit leaves none
abbrev pub calls_by_event : TurnKind → ℕ → ℕ
calls_by_event turns.Exit k = 0
calls_by_event kind k = k

abbrev pub calls_by_kind : Instr → StepKind → ℕ → ℕ
calls_by_kind x (kinds.Access a) k = k
calls_by_kind x (kinds.Event v) k = calls_by_event v.kind k
calls_by_kind x kind k = calls_by_op x.op k

abbrev pub calls_behind : Option Instr → StepKind → ℕ → ℕ
calls_behind None kind k = k
calls_behind (Some x) kind k = calls_by_kind x kind k

-- how many threads a step makes
abbrev pub made_by_event : TurnKind → ℕ
made_by_event turns.Create = 1
made_by_event kind = 0

abbrev pub made_by_kind : StepKind → ℕ
made_by_kind (kinds.Event v) = made_by_event v.kind
made_by_kind kind = 0

abbrev pub made_behind : Option Instr → StepKind → ℕ
made_behind None kind = 0
made_behind (Some x) kind = made_by_kind kind

-- the extents that are open
abbrev pub with_begun : ℕ → ℕ → Option FreeRegion → List OpenExtent → List OpenExtent
with_begun n depth None os = os
with_begun n depth (Some r) os = record { extent = record { step = n; join = r.join; depth = depth }; region = r } ∷ os

abbrev pub extents_behind : ℕ → ℕ → Option FreeRegion → Option ℕ → List OpenExtent → List OpenExtent
extents_behind n depth region edge os = filter (λ (o : OpenExtent). not (ends depth edge o.extent)) (with_begun n depth region os)

-- ---- a step

abbrev pub region_in : Reference → Moment → Option FreeRegion
region_in R m = region_of R.program R.regions m (instr_in R.program m)

-- step n of the run, where nothing is said of what is known
abbrev pub step_at : Reference → ℕ → Moment → Seen
step_at R n m = record { number = n; moment = m; region = region_in R m; live = true; before = start_of R.program }

-- step n keeps to the open extents, and leads from a to b
pub record StepGoes (R : Reference) (n : ℕ) (a : Track) (m : Moment) (b : Track) : Type 0 where
  -- its thread has begun, and has so many calls
  pub known : thread_in m < a.threads
  pub calls : a.calls (thread_in m) ≡ length m.calls
  -- a store accesses bytes of its pointer's bounds
  pub bounds : (c : Access) → StoresBy R (step_at R n m) c → (j : ℕ) → is_within (range_of c) j ≡ true → is_within (bounds_of c.pointer) j ≡ true
  -- a freeable branch step stands at a branch, and its edge sets registers of its region alone
  pub branches : (r : FreeRegion) → region_in R m ≡ Some r → (i : Instr) → instr_in R.program m ≡ Some i → is_branching i.op ≡ true
  pub own : (r : FreeRegion) → region_in R m ≡ Some r → MaySetPhis R.program r.sets (edge_of R.program m m.did.did.kind)
  -- no other thread has an open extent, and its own are nested and kept to
  pub together : (t : ℕ) (o : OpenExtent) → Contains (a.extents t) o → thread_in m ≡ t
  pub nested : AreStacked (length m.calls) (edge_of R.program m m.did.did.kind) (begun n (length m.calls) (region_in R m) (extents_in (a.extents (thread_in m))))
  pub keep : (o : OpenExtent) → Contains (a.extents (thread_in m)) o → KeepsTo R o.region o.extent.depth (step_at R n m)
  -- threads and calls after it
  pub more : b.threads ≡ a.threads + made_behind (instr_in R.program m) m.did.did.kind
  pub own_calls : b.calls (thread_in m) ≡ calls_behind (instr_in R.program m) m.did.did.kind (a.calls (thread_in m))
  pub other_calls : (u : ℕ) → (u ≡ thread_in m → ⊥) → u < a.threads → b.calls u ≡ a.calls u
  pub first_call : (u : ℕ) → a.threads ≤ u → u < b.threads → b.calls u ≡ 1
  -- and open extents
  pub own_extents : b.extents (thread_in m) ≡ extents_behind n (length m.calls) (region_in R m) (edge_of R.program m m.did.did.kind) (a.extents (thread_in m))
  pub other_extents : (u : ℕ) → (u ≡ thread_in m → ⊥) → b.extents u ≡ a.extents u

-- the steps from number n on, from a on
abbrev pub GoesFrom : Reference → ℕ → Track → List Moment → Type 0
GoesFrom R n a [] = Unit {0}
GoesFrom R n a (m ∷ ms) = (b : Track) × StepGoes R n a m b × GoesFrom R (suc n) b ms

abbrev pub Goes : Reference → Type 0
Goes R = GoesFrom R 0 first_track R.moments
