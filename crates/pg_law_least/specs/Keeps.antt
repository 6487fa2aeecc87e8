-- What the steps of a reference run keep to while the extent of a freeable branch step is open.
use Rattle.std.specs.Prelude.{◌≡◌, ℕ, suc, ◌<◌, ◌&&◌, List, [], ◌∷◌, length, Contains, Bool, true, false, Option, Some, None, IfSome}
use Rattle.std.specs.List.{list_any}
use Rattle.pg_ir.specs.declared.instr.Instr.{Instr}
use Rattle.pg_ir.specs.declared.instr.Op.{Op}
use Rattle.pg_ir.specs.declared.instr.Op.TheVariants as op
use Rattle.pg_ir.specs.declared.value.Value.{Value}
use Rattle.pg_ir.specs.declared.instr.Op.TheVariants.{Ret}
use Rattle.pg_ir.specs.Program.{NumberedProgram}
use Rattle.pg_ir.specs.Edges.{phis_of}
use Rattle.pg_run_trace.specs.declared.step.Access.{Access}
use Rattle.pg_run_trace.specs.declared.step.StepKind.TheVariants as kinds
use Rattle.pg_run_trace.specs.Steps.{happening_in, range_of}
use Rattle.pg_slice_rules.specs.Moments.{instr_in, thread_in}
use Rattle.pg_slice_rules.specs.Freeable.{FreeAccess, FreeRegion, bounds_of}
use Rattle.pg_slice_rules.specs.SymbolicValues.{is_within}
use Rattle.pg_slice_rules.specs.Extents.{Extent, begun, ends}
use Rattle.pg_slice_rules.specs.Known.{Reference, Seen, Taken, caller_target, edge_of, seen_in, thread_of}
use Rattle.pg_slice_rules.specs.Rules.{kind_in}

-- ---- a run's steps with the extents that are open: under all decisions, which leave no step out. They rest on none

abbrev pub every : Taken
every = record { pinned = λ n. true; exact = λ n. true }

abbrev pub steps_of : Reference → List Seen
steps_of R = seen_in R every

-- the extents of a thread that are open before a step
abbrev pub open_in : Seen → ℕ → List Extent
open_in y t = (thread_of y.before t).extents

abbrev pub open_before : Seen → List Extent
open_before y = open_in y (thread_in y.moment)

-- how deep in calls a step is
abbrev pub depth_of : Seen → ℕ
depth_of y = length y.moment.calls

-- the instruction of a step, and the block that it enters
abbrev pub instr_of : Reference → Seen → Option Instr
instr_of R y = instr_in R.program y.moment

abbrev pub edge_at : Reference → Seen → Option ℕ
edge_at R y = edge_of R.program y.moment (kind_in y)

-- ---- what is set and written

-- the register, if it is one, may be set
abbrev pub MaySet : (ℕ → Bool) → Option ℕ → Type 0
MaySet sets target = IfSome target (λ (k : ℕ). sets k ≡ true)

abbrev pub phis_entered : NumberedProgram → Option ℕ → List Instr
phis_entered p None = []
phis_entered p (Some to) = phis_of p to

-- the phis of the block that is entered may be set
abbrev pub MaySetPhis : NumberedProgram → (ℕ → Bool) → Option ℕ → Type 0
MaySetPhis p sets edge = (i : Instr) → Contains (phis_entered p edge) i → MaySet sets i.result

-- the byte lies in the bounds of a store of the region
abbrev pub may_write : List FreeAccess → ℕ → Bool
may_write xs b = list_any (λ (f : FreeAccess). f.writes && is_within (bounds_of f.at.last) b) xs

abbrev pub is_store : Op → Bool
is_store (op.Store w v at) = true
is_store o = false

abbrev pub is_branching : Op → Bool
is_branching (op.CondBr c a b) = true
is_branching (op.Switch w on other cases) = true
is_branching o = false

-- the step stores by this access
pub record StoresBy (R : Reference) (y : Seen) (a : Access) : Type 0 where
  pub instr : Instr
  pub stands : instr_of R y ≡ Some instr
  pub store : is_store instr.op ≡ true
  pub kind : kind_in y ≡ kinds.Access a

-- the step returns
pub record Returns (R : Reference) (y : Seen) : Type 0 where
  pub instr : Instr
  pub value : Option Value
  pub stands : instr_of R y ≡ Some instr
  pub returns : instr.op ≡ Ret value

-- ---- a step in an extent

-- the step y keeps to the region r of a branch step whose frame is so deep, and whose extent is open before y
pub record KeepsTo (R : Reference) (r : FreeRegion) (depth : ℕ) (y : Seen) : Type 0 where
  -- it is no event
  pub plain : happening_in (kind_in y) ≡ None
  -- in the branch's frame it sets registers of the region alone: its result, the phis of the block that it enters, and, where it
  -- is freeable, those of its own region
  pub result : depth_of y ≡ depth → (i : Instr) → instr_of R y ≡ Some i → MaySet r.sets i.result
  pub phis : depth_of y ≡ depth → MaySetPhis R.program r.sets (edge_at R y)
  pub inner : depth_of y ≡ depth → (q : FreeRegion) → y.region ≡ Some q → (k : ℕ) → q.sets k ≡ true → r.sets k ≡ true
  -- it doesn't return from the branch's frame, and a return into it sets a register of the region
  pub deeper : Returns R y → depth < depth_of y
  pub target : Returns R y → depth_of y ≡ suc depth → MaySet r.sets (caller_target R.program y.moment.calls)
  -- it stores in bounds of the region's stores, and so does its own region
  pub stores : (a : Access) → StoresBy R y a → (b : ℕ) → is_within (bounds_of a.pointer) b ≡ true → may_write r.accesses b ≡ true
  pub inner_stores : (q : FreeRegion) → y.region ≡ Some q → (b : ℕ) → may_write q.accesses b ≡ true → may_write r.accesses b ≡ true

-- ---- the run

-- of the open extents, the last begun first, one that ends ends each that was begun later
abbrev pub EndsLater : ℕ → Option ℕ → Extent → List Extent → Type 0
EndsLater depth edge e older = (o : Extent) → Contains older o → ends depth edge o ≡ true → ends depth edge e ≡ true

abbrev pub AreStacked : ℕ → Option ℕ → List Extent → Type 0
AreStacked depth edge [] = Unit {0}
AreStacked depth edge (e ∷ older) = EndsLater depth edge e older × AreStacked depth edge older

pub record ExtentsKeep (R : Reference) : Type 0 where
  -- the thread of a step has begun, and has as many calls as what is known of them
  pub known : (y : Seen) → Contains (steps_of R) y → thread_in y.moment < length y.before.threads
  pub calls : (y : Seen) → Contains (steps_of R) y → length (thread_of y.before (thread_in y.moment)).calls ≡ depth_of y
  -- a store accesses bytes of its pointer's bounds
  pub bounds : (y : Seen) → Contains (steps_of R) y → (a : Access) → StoresBy R y a → (b : ℕ) → is_within (range_of a) b ≡ true → is_within (bounds_of a.pointer) b ≡ true
  -- a freeable branch step stands at a conditional branch or a switch, and its edge sets registers of its region alone
  pub branches : (y : Seen) → Contains (steps_of R) y → (r : FreeRegion) → y.region ≡ Some r → (i : Instr) → instr_of R y ≡ Some i → is_branching i.op ≡ true
  pub own : (y : Seen) → Contains (steps_of R) y → (r : FreeRegion) → y.region ≡ Some r → MaySetPhis R.program r.sets (edge_at R y)
  -- while an extent is open no other thread takes a step
  pub together : (y : Seen) → Contains (steps_of R) y → (t : ℕ) (e : Extent) → Contains (open_in y t) e → thread_in y.moment ≡ t
  -- extents are nested: what ends one ends those that were begun later, at this step too
  pub nested : (y : Seen) → Contains (steps_of R) y → AreStacked (depth_of y) (edge_at R y) (begun y.number (depth_of y) y.region (open_before y))
  -- each step in an extent keeps to the region of the extent's branch step
  pub keep : (x : Seen) → Contains (steps_of R) x → (y : Seen) → Contains (steps_of R) y → (r : FreeRegion) → x.region ≡ Some r → (e : Extent) → Contains (open_before y) e →
      e.step ≡ x.number → KeepsTo R r e.depth y
