-- What a reference run asks of decisions, rule by rule: the decisions that are missing, and what an input must give.
use Rattle.std.specs.Prelude.{ℕ, ◌==◌, ◌&&◌, ◌||◌, not, pos, List, [], ◌∷◌, ◌++◌, map, Bool, true, false, Option, Some, None, slice_index, slice_index_or, if◌then◌else◌}
use Rattle.std.specs.List.{list_any}
use Rattle.pg_precondition.specs.pg_num.Places.{ByteRange}
use Rattle.pg_precondition.specs.pg_num.Pointers.{moved_by, pointer_of}
use Rattle.pg_region_paths.specs.pg_ir.declared.edge.Case.{Case}
use Rattle.pg_region_paths.specs.pg_ir.declared.library_call.LibraryCall.{LibraryCall}
use Rattle.pg_region_paths.specs.pg_ir.declared.library_call.LibraryCall.TheVariants as known
use Rattle.pg_region_paths.specs.pg_ir.declared.instr.Instr.{Instr}
use Rattle.pg_region_paths.specs.pg_ir.declared.instr.Op.{Op}
use Rattle.pg_region_paths.specs.pg_ir.declared.instr.Op.TheVariants as op
use Rattle.pg_region_paths.specs.pg_ir.Program.{NumberedProgram}
use Rattle.pg_precondition.specs.declared.check.Test.{Test}
use Rattle.pg_precondition.specs.declared.check.Test.TheVariants as test
use Rattle.pg_precondition.specs.Values.{with_one}
use Rattle.pg_region_paths.specs.declared.path.Root.{Root}
use Rattle.pg_region_paths.specs.declared.path.Root.TheVariants as root
use Rattle.pg_region_paths.specs.FollowedPaths.{root_value}
use Rattle.pg_region_paths.specs.Paths.{offsets_of}
use Rattle.pg_run.specs.pg_run_trace.declared.turn.TurnKind.{TurnKind}
use Rattle.pg_run.specs.pg_run_trace.declared.turn.TurnKind.TheVariants as turns
use Rattle.pg_run.specs.pg_run_trace.declared.step.StepKind.{StepKind}
use Rattle.pg_run.specs.pg_run_trace.declared.step.StepKind.TheVariants as kinds
use Rattle.pg_run.specs.pg_run_trace.declared.step.Access.{Access}
use Rattle.pg_run.specs.pg_run_trace.declared.step.Event.{Event}
use Rattle.pg_run.specs.pg_run_trace.Races.{overlap, share}
use Rattle.pg_run.specs.pg_run_trace.Steps.{access_in}
use Rattle.pg_slice_rules.specs.declared.decision.Decision.{Decision}
use Rattle.pg_slice_rules.specs.declared.decision.Decision.TheVariants.{Pinned, Exact}
use Rattle.pg_slice_rules.specs.Moments.{instr_in, thread_in}
use Rattle.pg_slice_rules.specs.Freeable.{FreeAccess, FreeRegion, bounds_of}
use Rattle.pg_slice_rules.specs.SymbolicValues.{OnInput, Symbolic, Known, Bounded, Unknown, blames, bounds_blames, bounds_word, loaded, unset, valued}
use Rattle.pg_slice_rules.specs.Known.{Reference, Taken, Seen, is_branch, operand_at, registers_of}

-- ---- what is asked of one value: that it is known, or that its bounds are, and what an input must give of it

pub data Need : Type 0 where
  Value : Symbolic → List Test → Need
  Bounds : Symbolic → Test → Need

-- a number on an input, and what it must be
pub record Condition : Type 0 where
  pub value : OnInput
  pub test : Test

abbrev pub need_blames : Need → List Decision
need_blames (Value s tests) = blames s
need_blames (Bounds s t) = bounds_blames s

abbrev pub conditions_with : OnInput → List Test → List Condition
conditions_with f [] = []
conditions_with f (t ∷ ts) = record { value = f; test = t } ∷ conditions_with f ts

abbrev pub if_some : Option OnInput → List Test → List Condition
if_some None ts = []
if_some (Some f) ts = conditions_with f ts

abbrev pub value_of : Symbolic → Option OnInput
value_of (Known f g) = Some f
value_of s = None

abbrev pub need_conditions : Need → List Condition
need_conditions (Value s tests) = if_some (value_of s) tests
need_conditions (Bounds s t) = if_some (bounds_word s) (t ∷ [])

abbrev pub all_of : {A B : Type 0} → (A → List B) → List A → List B
all_of f [] = []
all_of f (x ∷ xs) = f x ++ all_of f xs

abbrev pub same_bounds : ℕ → Test
same_bounds word = test.Bounds (pointer_of word).start (pointer_of word).length

-- ---- the steps by their parts

abbrev pub kind_in : Seen → StepKind
kind_in x = x.moment.did.did.kind

abbrev pub registers_before : Seen → List Symbolic
registers_before x = registers_of x.before (thread_in x.moment)

abbrev pub operand_of : NumberedProgram → Seen → Instr → ℕ → Symbolic
operand_of p x i k = operand_at p (registers_before x) i.op k

abbrev pub has_region : Option FreeRegion → Bool
has_region None = false
has_region (Some r) = true

-- ---- rule 1: each live branch step that isn't freeable is pinned

abbrev pub is_bound : Seen → Bool
is_bound x = x.live && is_branch (kind_in x) && not (has_region x.region)

abbrev pub asks_pins : Taken → Seen → List Decision
asks_pins d x = if is_bound x && not (d.pinned x.number) then Pinned x.number ∷ [] else []

-- ---- rule 2: at each live step the pinned condition, the exact address, the size of a malloc and the checked operands of an
-- event are known

-- the edge of a switch: its case, or none of its cases
abbrev pub is_case : ℕ → List Case → Bool
is_case n cases = list_any (λ (c : Case). c.value == n) cases

abbrev pub edge_tests : Op → ℕ → List Test
edge_tests (op.Switch w on other cases) n = if is_case n cases then test.Eq n ∷ [] else map (λ (c : Case). test.Ne c.value) cases
edge_tests o n = test.Eq n ∷ []

-- the operand of a load or a store that is its address
abbrev pub address_index : Op → ℕ
address_index (op.Store w v at) = 1
address_index o = 0

-- the operands that are checked: those of a pthread call, but for the argument of create and the value of exit
abbrev pub checked : LibraryCall → List ℕ
checked known.PthreadCreate = 0 ∷ 1 ∷ 2 ∷ []
checked known.PthreadJoin = 0 ∷ 1 ∷ []
checked known.PthreadMutexInit = 0 ∷ 1 ∷ []
checked known.PthreadMutexLock = 0 ∷ []
checked known.PthreadMutexTrylock = 0 ∷ []
checked known.PthreadMutexUnlock = 0 ∷ []
checked known.PthreadMutexDestroy = 0 ∷ []
checked known.PthreadCondInit = 0 ∷ 1 ∷ []
checked known.PthreadCondWait = 0 ∷ 1 ∷ []
checked known.PthreadCondSignal = 0 ∷ []
checked known.PthreadCondBroadcast = 0 ∷ []
checked known.PthreadCondDestroy = 0 ∷ []
checked known.PthreadBarrierInit = 0 ∷ 1 ∷ 2 ∷ []
checked known.PthreadBarrierWait = 0 ∷ []
checked known.PthreadBarrierDestroy = 0 ∷ []
checked k = []

abbrev pub checked_of : Op → List ℕ
checked_of (op.CallLibrary k args) = checked k
checked_of o = []

abbrev pub equal_to : NumberedProgram → Seen → Instr → Event → ℕ → Need
equal_to p x i e k = Value (operand_of p x i k) (test.Eq (slice_index e.operands k) ∷ [])

-- a start asks for nothing, whatever its function's first instruction is
abbrev pub event_needs : NumberedProgram → Seen → Instr → Event → TurnKind → List Need
event_needs p x i e turns.Start = []
event_needs p x i e kind = map (equal_to p x i e) (checked_of i.op)

abbrev pub is_malloc : Op → Bool
is_malloc (op.CallLibrary known.Malloc args) = true
is_malloc o = false

abbrev pub value_needs_by : NumberedProgram → Taken → Seen → Instr → StepKind → List Need
value_needs_by p d x i (kinds.Branch c) = if d.pinned x.number then Value (operand_of p x i 0) (edge_tests i.op c) ∷ [] else []
value_needs_by p d x i (kinds.Access a) = if a.event || d.exact x.number then Value (operand_of p x i (address_index i.op)) (test.Eq a.pointer ∷ []) ∷ [] else []
value_needs_by p d x i (kinds.Allocation operand result) = if is_malloc i.op then Value (operand_of p x i 0) (test.Eq operand ∷ []) ∷ [] else []
value_needs_by p d x i (kinds.Event e) = event_needs p x i e e.kind
value_needs_by p d x i k = []

abbrev pub value_needs_in : NumberedProgram → Taken → Seen → Option Instr → List Need
value_needs_in p d x None = []
value_needs_in p d x (Some i) = if x.live then value_needs_by p d x i (kind_in x) else []

abbrev pub value_needs : Reference → Taken → Seen → List Need
value_needs R d x = value_needs_in R.program d x (instr_in R.program x.moment)

abbrev pub asks_values : Reference → Taken → Seen → List Decision
asks_values R d x = all_of need_blames (value_needs R d x)

-- ---- rule 3: each live access has known bounds; of each path of a live freeable branch step, pinned or not, the root is known
-- where the path loads, each cell that it loads is known, and so are its last bounds

-- the address of a create's write is its first operand, that of a join's its second
abbrev pub write_index : Op → ℕ
write_index (op.CallLibrary known.PthreadJoin args) = 1
write_index o = 0

abbrev pub write_needs : NumberedProgram → Seen → Instr → Option Access → List Need
write_needs p x i None = []
write_needs p x i (Some a) = Bounds (operand_of p x i (write_index i.op)) (same_bounds a.pointer) ∷ []

abbrev pub access_needs_by : NumberedProgram → Seen → Instr → StepKind → List Need
access_needs_by p x i (kinds.Access a) = Bounds (operand_of p x i (address_index i.op)) (same_bounds a.pointer) ∷ []
access_needs_by p x i (kinds.Event e) = write_needs p x i (access_in (kinds.Event e))
access_needs_by p x i k = []

abbrev pub access_needs_in : NumberedProgram → Seen → Option Instr → List Need
access_needs_in p x None = []
access_needs_in p x (Some i) = if x.live then access_needs_by p x i (kind_in x) else []

abbrev pub root_symbolic : NumberedProgram → List Symbolic → Root → Symbolic
root_symbolic p rs (root.Register r) = slice_index_or rs r unset
root_symbolic p rs r = valued (λ input. root_value p (λ k. None) r)

-- a word that is moved to a load's address
abbrev pub moved_symbolic : ℕ → Symbolic → Symbolic
moved_symbolic k (Known f g) = Known (λ input. with_one (f input) (λ word. Some (moved_by word (pos k)))) g
moved_symbolic k (Bounded f x) = Bounded f x
moved_symbolic k (Unknown x) = Unknown x

-- along the loads of a path: each address is known, and so are the bounds at the end
abbrev pub path_needs : (ℕ → Symbolic) → Symbolic → List ℕ → List ℕ → List ByteRange → ℕ → List Need
path_needs bytes s (k ∷ offsets) (word ∷ words) (cell ∷ cells) last =
    Value (moved_symbolic k s) (test.Eq (moved_by word (pos k)) ∷ []) ∷ path_needs bytes (loaded bytes cell.start 8) offsets words cells last
path_needs bytes s offsets words cells last = Bounds s (same_bounds last) ∷ []

abbrev pub free_access_needs : NumberedProgram → Seen → FreeAccess → List Need
free_access_needs p x a = path_needs x.before.bytes (root_symbolic p (registers_before x) a.path.root) (offsets_of a.path.loads) a.at.pointers a.at.cells a.at.last

abbrev pub region_needs_in : NumberedProgram → Seen → Option FreeRegion → List Need
region_needs_in p x None = []
region_needs_in p x (Some r) = all_of (free_access_needs p x) r.accesses

abbrev pub bounds_needs : Reference → Seen → List Need
bounds_needs R x = access_needs_in R.program x (instr_in R.program x.moment) ++ (if x.live then region_needs_in R.program x x.region else [])

abbrev pub asks_bounds : Reference → Seen → List Decision
asks_bounds R x = all_of need_blames (bounds_needs R x)

-- ---- bounds that conflict

-- the bytes that may be accessed, and whether they are written
pub record Footprint : Type 0 where
  pub bytes : ByteRange
  pub writes : Bool

abbrev pub footprints_conflict : Footprint → Footprint → Bool
footprints_conflict a b = (a.writes || b.writes) && share a.bytes b.bytes

abbrev pub footprint_of : Option Access → List Footprint
footprint_of None = []
footprint_of (Some a) = record { bytes = bounds_of a.pointer; writes = a.writes } ∷ []

-- of a live access its bounds
abbrev pub access_footprint : Seen → List Footprint
access_footprint x = if x.live then footprint_of (access_in (kind_in x)) else []

abbrev pub footprints_in : Option FreeRegion → List Footprint
footprints_in None = []
footprints_in (Some r) = map (λ (a : FreeAccess). record { bytes = bounds_of a.at.last; writes = a.writes }) r.accesses

-- of a live freeable branch step the bounds of its region
abbrev pub region_footprints : Seen → List Footprint
region_footprints x = if x.live then footprints_in x.region else []

abbrev pub any_conflict : List Footprint → List Footprint → Bool
any_conflict xs bs = list_any (λ a. list_any (footprints_conflict a) bs) xs

-- steps of different threads in overlapping intervals, with some bounds that conflict
abbrev pub bounds_meet : Seen → List Footprint → Seen → List Footprint → Bool
bounds_meet x xs y bs = not (thread_in x.moment == thread_in y.moment) && overlap x.moment.did y.moment.did && any_conflict xs bs

-- ---- rule 4: a live freeable branch step is pinned if bounds of its region conflict, in overlapping intervals, with those of
-- another thread's live access or of another thread's live freeable branch step's region

abbrev pub is_disturbed : List Seen → Seen → Bool
is_disturbed ys x = list_any (λ y. bounds_meet x (region_footprints x) y (access_footprint y ++ region_footprints y)) ys

abbrev pub asks_disturbed : Taken → List Seen → Seen → List Decision
asks_disturbed d ys x = if is_disturbed ys x && not (d.pinned x.number) then Pinned x.number ∷ [] else []

-- ---- rule 5: of two live accesses of different threads whose bounds conflict in overlapping intervals, each that isn't an event
-- is exact

abbrev pub is_plain : StepKind → Bool
is_plain (kinds.Access a) = not a.event
is_plain k = false

abbrev pub is_shared : List Seen → Seen → Bool
is_shared ys x = is_plain (kind_in x) && list_any (λ y. bounds_meet x (access_footprint x) y (access_footprint y)) ys

abbrev pub asks_shared : Taken → List Seen → Seen → List Decision
asks_shared d ys x = if is_shared ys x && not (d.exact x.number) then Exact x.number ∷ [] else []
