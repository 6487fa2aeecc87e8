-- The extents of freeable branch steps: from such a step until its thread reaches the join of its region in the same frame.
use Rattle.std.specs.Prelude.{ℕ, ◌==◌, ◌&&◌, not, List, ◌∷◌, filter, Bool, false, Option, Some, None}
use Rattle.std.specs.List.{list_all}
use Rattle.pg_region_paths.specs.pg_ir.declared.instr.Instr.{Instr}
use Rattle.pg_region_paths.specs.pg_ir.declared.instr.Op.{Op}
use Rattle.pg_region_paths.specs.pg_ir.declared.instr.Op.TheVariants as op
use Rattle.pg_region_paths.specs.pg_ir.Program.{NumberedProgram}
use Rattle.pg_region_paths.specs.pg_ir.Edges.{case_of}
use Rattle.pg_run.specs.pg_run_thread.Compute.{chosen}
use Rattle.pg_run.specs.pg_run_thread.Operands as operands
use Rattle.pg_slice_rules.specs.Moments.{Moment, registers_in}
use Rattle.pg_slice_rules.specs.Freeable.{FreeRegion}

-- the number of a freeable branch step, the join of its region, and the depth of its frame
pub record Extent : Type 0 where
  pub step : ℕ
  pub join : ℕ
  pub depth : ℕ

-- ---- edges

-- the number of a branch's operand at a step
abbrev pub condition_in : NumberedProgram → Moment → Op → ℕ
condition_in p m o = operands.number_at p (registers_in m.calls) (operands.operands_of o) 0

-- the block to which a step goes on, where it takes an edge
abbrev pub edge_by : NumberedProgram → Moment → Op → Option ℕ
edge_by p m (op.Br to) = Some to.0
edge_by p m (op.CondBr c a b) = Some (chosen (condition_in p m (op.CondBr c a b)) a.0 b.0)
edge_by p m (op.Switch w on other cases) = Some (case_of cases other.0 (condition_in p m (op.Switch w on other cases)))
edge_by p m _ = None

abbrev pub edge_in : NumberedProgram → Moment → Option Instr → Option ℕ
edge_in p m None = None
edge_in p m (Some x) = edge_by p m x.op

-- ---- extents of one thread, the last begun first

-- the thread, so deep in calls, reaches the join
abbrev pub ends : ℕ → Option ℕ → Extent → Bool
ends depth None e = false
ends depth (Some to) e = (e.depth == depth) && (e.join == to)

abbrev pub begun : ℕ → ℕ → Option FreeRegion → List Extent → List Extent
begun n depth None es = es
begun n depth (Some r) es = record { step = n; join = r.join; depth = depth } ∷ es

-- the extents that are open after step n, which takes this edge, if it takes one, and is freeable with this region, if it is
abbrev pub open_after : ℕ → ℕ → Option FreeRegion → Option ℕ → List Extent → List Extent
open_after n depth free edge es = filter (λ e. not (ends depth edge e)) (begun n depth free es)

-- a step is live where each freeable branch step in whose extent it lies is pinned
abbrev pub is_live : (ℕ → Bool) → List Extent → Bool
is_live pinned es = list_all (λ (e : Extent). pinned e.step) es
