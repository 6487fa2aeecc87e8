-- The region of a branch: the blocks that can be reached from it before the join at which its ways meet again, none of
-- which does what another thread can see.
use Rattle.std.specs.Prelude.{◌≡◌, ℕ, ◌<◌, ◌≤◌, ◌⊎◌, List, [], ◌∷◌, ◌++◌, length, Bool, false, Option, Some, None, slice_get, zero, suc}
use Rattle.pg_cfg.specs.Graphs.{EdgeLists, Enters, IsReach}
use Rattle.pg_ir.specs.declared.instr.Instr.{Instr}
use Rattle.pg_ir.specs.Program.{NumberedProgram}
use Rattle.pg_ir.specs.Edges.{successors}
use Rattle.pg_region.specs.declared.region.Region.{Region}
use Rattle.pg_region_accesses.specs.Accesses.{RootedList, set_accesses}

-- the flow of control between the first blocks of a program
abbrev pub flow_between : NumberedProgram → ℕ → EdgeLists
flow_between p zero = []
flow_between p (suc b) = flow_between p b ++ successors p b ∷ []

-- the flow of control between the blocks of a program
unfoldable pub flow_of : NumberedProgram → EdgeLists
flow_of p = flow_between p (length p.blocks)

-- j is a join of the branch at the end of block c: it can be reached, and what can be reached without passing it is quiet
pub record IsJoin (p : NumberedProgram) (gated : ℕ → Bool) (sums : ℕ → Option RootedList) (c j : ℕ) (blocks : List ℕ) (accesses : RootedList) : Type 0 where
  pub reached : Enters (flow_of p) j c
  pub before : IsReach (flow_of p) c j blocks
  pub quiet : set_accesses false p gated sums blocks ≡ Some accesses

-- fewer blocks, or as many and the join not later in the text
abbrev pub IsSmaller : List ℕ → ℕ → List ℕ → ℕ → Type 0
IsSmaller blocks j others k = (length blocks < length others) ⊎ ((length blocks ≡ length others) × (j ≤ k))

-- the join with the fewest blocks before it, of those with as many the first in the text
pub record IsRegion (p : NumberedProgram) (gated : ℕ → Bool) (sums : ℕ → Option RootedList) (c : ℕ) (r : Region) : Type 0 where
  pub join : IsJoin p gated sums c r.join r.blocks.items r.accesses.items
  pub fewest : (k : ℕ) (blocks : List ℕ) (accesses : RootedList) → IsJoin p gated sums c k blocks accesses → IsSmaller r.blocks.items r.join blocks k

abbrev pub RegionOf : NumberedProgram → (ℕ → Bool) → (ℕ → Option RootedList) → ℕ → Option Region → Type 0
RegionOf p gated sums c None = (k : ℕ) (blocks : List ℕ) (accesses : RootedList) → IsJoin p gated sums c k blocks accesses → ⊥
RegionOf p gated sums c (Some r) = IsRegion p gated sums c r

abbrev pub block_in : Option Instr → ℕ
block_in None = 0
block_in (Some x) = x.block.0

-- the block of an instruction
abbrev pub block_of : NumberedProgram → ℕ → ℕ
block_of p i = block_in (slice_get p.instrs i)
