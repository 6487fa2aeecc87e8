-- A worked example: a loop over the elements of a global, and its region.
use Rattle.std.specs.Prelude.{◌≡◌, ℕ, ◌==◌, [], ◌∷◌, true, false, Option, Some, None}
use Rattle.pg_cfg.specs.Graphs.{EdgeLists, IsReach}
use Rattle.pg_num.specs.declared.width.Width.TheVariants.{W1, W64}
use Rattle.pg_num.specs.declared.operations.Compare.TheVariants as compares
use Rattle.pg_ir.specs.declared.library_call.LibraryCall.TheVariants as known
use Rattle.pg_ir.specs.declared.instr.Op.TheVariants as op
use Rattle.pg_ir.specs.declared.value.Scalar.TheVariants.{Int, Ptr}
use Rattle.pg_ir.specs.declared.value.Scale.TheVariants as scale
use Rattle.pg_ir.specs.declared.value.Value.TheVariants as value
use Rattle.pg_ir.specs.Program.{NumberedProgram}
use Rattle.pg_region_accesses.specs.pg_region_paths.declared.path.Loads.TheVariants.{Never}
use Rattle.pg_region_accesses.specs.pg_region_paths.declared.path.Root.TheVariants as root
use Rattle.pg_region_accesses.specs.Accesses.{RootedList}
use Rattle.pg_region.specs.declared.region.Region.{Region}
use Rattle.pg_region.specs.Regions.{flow_of, IsRegion, RegionOf}

-- n is the input's first number; for each i below it n is stored at element i of the global:
--   block 0: %0 = pg_in(0)                                   br 1
--   block 1: %1 = phi [0, block 0], [%4, block 2]            %2 = icmp slt %1, %0     br %2, block 2, block 3
--   block 2: %3 = getelementptr @0, %1    store %0, %3       %4 = add %1, 1           br 1
--   block 3: ret
abbrev pub loop_program : NumberedProgram
loop_program = record {
  functions = record { params = 0; registers = Int W64 ∷ Int W64 ∷ Int W1 ∷ Ptr ∷ Int W64 ∷ []; first_block = record { 0 = 0 }; blocks = 4; result = None } ∷ [];
  blocks =
      record { function = 0; first = record { 0 = 0 }; count = 2 }
      ∷ record { function = 0; first = record { 0 = 2 }; count = 3 }
      ∷ record { function = 0; first = record { 0 = 5 }; count = 4 }
      ∷ record { function = 0; first = record { 0 = 9 }; count = 1 }
      ∷ [];
  instrs =
      record { op = op.CallLibrary known.PgIn (value.Const 0 ∷ []); block = record { 0 = 0 }; result = Some 0 }
      ∷ record { op = op.Br (record { 0 = 1 }); block = record { 0 = 0 }; result = None }
      ∷ record {
        op = op.Phi (record { block = record { 0 = 0 }; value = value.Const 0 } ∷ record { block = record { 0 = 2 }; value = value.Register 4 } ∷ []);
        block = record { 0 = 1 };
        result = Some 1;
      }
      ∷ record { op = op.Compare compares.Slt W64 (value.Register 1) (value.Register 0); block = record { 0 = 1 }; result = Some 2 }
      ∷ record { op = op.CondBr (value.Register 2) (record { 0 = 2 }) (record { 0 = 3 }); block = record { 0 = 1 }; result = None }
      ∷ record { op = op.Gep (value.Global 0) (record { value = value.Register 1; width = W64; scale = scale.Times 8 } ∷ []); block = record { 0 = 2 }; result = Some 3 }
      ∷ record { op = op.Store W64 (value.Register 0) (value.Register 3); block = record { 0 = 2 }; result = None }
      ∷ record { op = op.Add W64 (value.Register 1) (value.Const 1); block = record { 0 = 2 }; result = Some 4 }
      ∷ record { op = op.Br (record { 0 = 1 }); block = record { 0 = 2 }; result = None }
      ∷ record { op = op.Ret None; block = record { 0 = 3 }; result = None }
      ∷ [];
  globals = record { start = 1; size = 128; bytes = [] } ∷ [];
  main = 0;
}

abbrev pub loop_flow : EdgeLists
loop_flow = (1 ∷ []) ∷ (2 ∷ 3 ∷ []) ∷ (1 ∷ []) ∷ [] ∷ []

-- instruction 6 writes at the global
abbrev pub loop_accesses : RootedList
loop_accesses = record { instr = record { 0 = 6 }; writes = true; path = record { root = root.Global 0; loads = Never } } ∷ []

abbrev pub no_summary : ℕ → Option RootedList
no_summary f = None

-- the loop's branch, in block 1, has the region of blocks 1 and 2, which walks from it meet before block 3
pub record LoopHasRegion : Type 0 where
  pub flow : flow_of loop_program ≡ loop_flow
  pub reach : IsReach loop_flow 1 3 (1 ∷ 2 ∷ [])
  pub region : (r : Region) → r.join ≡ 3 → r.blocks.items ≡ 1 ∷ 2 ∷ [] → r.accesses.items ≡ loop_accesses → IsRegion loop_program (λ i. false) no_summary 1 r

-- where the store is gated it has none
abbrev pub GatedLoopHasNone : Type 0
GatedLoopHasNone = RegionOf loop_program (λ i. i == 6) no_summary 1 None
