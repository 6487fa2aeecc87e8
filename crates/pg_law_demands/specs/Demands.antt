-- From the end of a run back: what has to be known before each step, and which decisions this takes.
use Rattle.std.specs.Prelude.{ℕ, ◌==◌, ◌&&◌, ◌||◌, not, List, [], ◌∷◌, ◌++◌, Bool, true, false, Option, Some, None, if◌then◌else◌}
use Rattle.std.specs.List.{list_any}
use Rattle.pg_num.specs.Places.{ByteRange}
use Rattle.pg_ir.specs.declared.instr.Instr.{Instr}
use Rattle.pg_region_paths.specs.declared.path.Root.{Root}
use Rattle.pg_region_paths.specs.declared.path.Root.TheVariants as root
use Rattle.pg_region_paths.specs.Paths.{offsets_of}
use Rattle.pg_run_trace.specs.declared.turn.TurnKind.{TurnKind}
use Rattle.pg_run_trace.specs.declared.turn.TurnKind.TheVariants as turns
use Rattle.pg_run_trace.specs.declared.step.StepKind.{StepKind}
use Rattle.pg_run_trace.specs.declared.step.StepKind.TheVariants as kinds
use Rattle.pg_run_trace.specs.declared.step.Access.{Access}
use Rattle.pg_run_trace.specs.Steps.{access_in}
use Rattle.pg_law_least.specs.pg_slice_rules.declared.decision.Decision.{Decision}
use Rattle.pg_law_least.specs.pg_slice_rules.declared.decision.Decision.TheVariants.{Pinned, Exact}
use Rattle.pg_law_least.specs.pg_slice_rules.Moments.{thread_in}
use Rattle.pg_law_least.specs.pg_slice_rules.Freeable.{FreeAccess, FreeRegion}
use Rattle.pg_law_least.specs.pg_slice_rules.Extents.{Extent, is_live}
use Rattle.pg_law_least.specs.pg_slice_rules.Known.{Reference, Seen, Taken, is_branch}
use Rattle.pg_law_least.specs.pg_slice_rules.Rules.{address_index, all_of, checked_of, has_region, is_malloc, kind_in, write_index}
use Rattle.pg_law_least.specs.Keeps.{depth_of, instr_of, open_before, steps_of}
use Rattle.pg_law_demands.specs.Cells.{Demand}
use Rattle.pg_law_demands.specs.Back.{Asked, back, of_bytes, of_operand, register_demand}
use Rattle.pg_law_demands.specs.Passed.{first_free, passing, region_at_step, sets_any}

-- ---- decisions with more of them

abbrev pub is_pin : ℕ → Decision → Bool
is_pin n (Pinned m) = m == n
is_pin n (Exact m) = false

abbrev pub is_fix : ℕ → Decision → Bool
is_fix n (Pinned m) = false
is_fix n (Exact m) = m == n

abbrev pub and_those : Taken → List Decision → Taken
and_those d xs = record { pinned = λ n. d.pinned n || list_any (is_pin n) xs; exact = λ n. d.exact n || list_any (is_fix n) xs }

-- ---- what a live step asks by itself under closed decisions

abbrev pub operand_demands : Seen → Instr → Bool → ℕ → List Demand
operand_demands y i whole j = of_operand (thread_in y.moment) (depth_of y) whole i.op j

abbrev pub checked_demands : Seen → Instr → TurnKind → List Demand
checked_demands y i turns.Start = []
checked_demands y i kind = all_of (operand_demands y i true) (checked_of i.op)

abbrev pub write_demands : Seen → Instr → Option Access → List Demand
write_demands y i None = []
write_demands y i (Some a) = operand_demands y i false (write_index i.op)

abbrev pub kind_demands : Taken → Seen → Instr → StepKind → List Demand
kind_demands d y i (kinds.Branch c) = if d.pinned y.number then operand_demands y i true 0 else []
kind_demands d y i (kinds.Access a) = operand_demands y i (a.event || d.exact y.number) (address_index i.op)
kind_demands d y i (kinds.Allocation operand result) = if is_malloc i.op then operand_demands y i true 0 else []
kind_demands d y i (kinds.Event e) = checked_demands y i e.kind ++ write_demands y i (access_in (kinds.Event e))
kind_demands d y i kind = []

abbrev pub root_demands : Seen → Root → Bool → List Demand
root_demands y (root.Register r) whole = register_demand (thread_in y.moment) (depth_of y) r whole ∷ []
root_demands y r whole = []

-- along a path: the root is known where the path loads, and each cell that it loads is; else the root's bounds are
abbrev pub path_demands : (Bool → List Demand) → List ℕ → List ℕ → List ByteRange → List Demand
path_demands word (k ∷ offsets) (w ∷ words) (cell ∷ cells) = word true ++ path_demands (λ whole. of_bytes cell.start 8) offsets words cells
path_demands word offsets words cells = word false

abbrev pub free_access_demands : Seen → FreeAccess → List Demand
free_access_demands y a = path_demands (root_demands y a.path.root) (offsets_of a.path.loads) a.at.pointers a.at.cells

abbrev pub region_demands : Seen → Option FreeRegion → List Demand
region_demands y None = []
region_demands y (Some r) = all_of (free_access_demands y) r.accesses

abbrev pub instr_demands : Taken → Seen → Option Instr → List Demand
instr_demands d y None = []
instr_demands d y (Some i) = kind_demands d y i (kind_in y)

abbrev pub step_demands : Reference → Taken → Seen → List Demand
step_demands R d y = instr_demands d y (instr_of R y) ++ region_demands y y.region

-- a branch step that isn't freeable is pinned
abbrev pub step_pins : Seen → List Decision
step_pins y = if is_branch (kind_in y) && not (has_region y.region) then Pinned y.number ∷ [] else []

-- ---- the run

abbrev pub behind : Reference → Seen → Asked → Asked
behind R y a = record {
  demands = all_of (λ (q : Demand). (back R.program y (instr_of R y) q).demands) a.demands;
  decisions = (a.decisions ++ all_of (λ (q : Demand). (back R.program y (instr_of R y) q).decisions) a.demands) ++ step_pins y;
}

abbrev pub with_own : Reference → Taken → Seen → Asked → Asked
with_own R d y a = record { demands = a.demands ++ step_demands R (and_those d a.decisions) y; decisions = a.decisions }

abbrev pub before_live : Reference → Taken → Seen → Asked → Asked
before_live R d y a = with_own R d y (behind R y a)

-- the branch step of an open extent is pinned where those of the older ones are and its region may have set what is demanded
abbrev pub pin_if : Bool → ℕ → Asked → Asked
pin_if true n a = record { demands = a.demands; decisions = a.decisions ++ Pinned n ∷ [] }
pin_if false n a = a

abbrev pub pin_one : Reference → Taken → Seen → Extent → List Extent → Asked → Asked
pin_one R d y x older a = pin_if (is_live (and_those d a.decisions).pinned older && sets_any (region_at_step R x.step) y x.depth a.demands) x.step a

-- of open extents, the last begun first
abbrev pub with_pins : Reference → Taken → Seen → List Extent → Asked → Asked
with_pins R d y [] a = a
with_pins R d y (x ∷ older) a = pin_one R d y x older (with_pins R d y older a)

-- a step that is live, or one that isn't known to be
abbrev pub before_either : Reference → Taken → Seen → Asked → Asked
before_either R d y a =
    if is_live (and_those d a.decisions).pinned (open_before y) then before_live R d y a
    else record { demands = passing R y (first_free (and_those d a.decisions).pinned (open_before y)) a.demands; decisions = a.decisions }

abbrev pub before_step : Reference → Taken → Seen → Asked → Asked
before_step R d y a = before_either R d y (with_pins R d y (open_before y) a)

-- before the first of these steps
unfoldable pub asked_from : Reference → Taken → List Seen → Asked
asked_from R d [] = record { demands = []; decisions = [] }
asked_from R d (y ∷ ys) = before_step R d y (asked_from R d ys)

-- of a whole run
abbrev pub demanded : Reference → Taken → List Decision
demanded R d = (asked_from R d (steps_of R)).decisions
