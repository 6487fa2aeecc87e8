-- Laws on regions.
use Rattle.std.specs.Prelude.{◌≡◌, ℕ, ◌+◌, ◌⊎◌, List, Bool, false, Option, Some, Contains, slice_get}
use Rattle.pg_cfg.specs.Graphs.{Edge, Path}
use Rattle.pg_ir.specs.declared.instr.Instr.{Instr}
use Rattle.pg_ir.specs.Program.{NumberedProgram, first_of}
use Rattle.pg_ir.specs.Edges.{instrs_of}
use Rattle.pg_region_accesses.specs.Accesses.{RootedList}
use Rattle.pg_region_accesses.specs.Laws.{IsQuiet}
use Rattle.pg_region.specs.declared.region.Region.{Region}
use Rattle.pg_region.specs.Regions.{flow_of, IsJoin, IsRegion}

-- an edge from a block before a join, or from the branch, leads to a block before the join or to the join
pub record EdgesStayOrJoin (p : NumberedProgram) (c j : ℕ) (blocks : List ℕ) : Type 0 where
  pub inside : (x y : ℕ) → Contains blocks x → Edge (flow_of p) x y → (y ≡ j) ⊎ Contains blocks y
  pub first : (y : ℕ) → Edge (flow_of p) c y → (y ≡ j) ⊎ Contains blocks y

abbrev pub EdgesStay : Type 0
EdgesStay = (p : NumberedProgram) (gated : ℕ → Bool) (sums : ℕ → Option RootedList) (c j : ℕ) (blocks : List ℕ) (accesses : RootedList) → IsJoin p gated sums c j blocks accesses
    → EdgesStayOrJoin p c j blocks

-- a block with an event, a gated access, an `alloca`, a call of a function that isn't quiet, or a `ret`
pub record IsLoudBlock (p : NumberedProgram) (gated : ℕ → Bool) (sums : ℕ → Option RootedList) (v : ℕ) : Type 0 where
  pub at : ℕ
  pub instr : Instr
  pub is : slice_get (instrs_of p v) at ≡ Some instr
  pub loud : IsQuiet false gated sums (first_of p v + at) instr.op → ⊥

-- the inner region lies in the outer one, and its join is the outer one's or lies in the outer region
pub record AreNested (outer inner : Region) : Type 0 where
  pub blocks : (x : ℕ) → Contains inner.blocks.items x → Contains outer.blocks.items x
  pub join : (inner.join ≡ outer.join) ⊎ Contains outer.blocks.items inner.join

-- a branch in the region of another has its own region in there, where a path goes from the outer join to a loud block
abbrev pub RegionsNest : Type 0
RegionsNest = (p : NumberedProgram) (gated : ℕ → Bool) (sums : ℕ → Option RootedList) (c d v : ℕ) (outer inner : Region) → IsRegion p gated sums c outer
    → IsRegion p gated sums d inner → Contains outer.blocks.items d →
    Path (flow_of p) outer.join v → IsLoudBlock p gated sums v → AreNested outer inner
