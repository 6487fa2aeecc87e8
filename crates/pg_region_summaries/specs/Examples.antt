-- A worked example: a function that adds to the number at its first parameter, and a call of it.
use Rattle.std.specs.Prelude.{◌≡◌, ℕ, ◌==◌, [], ◌∷◌, true, false, Option, Some, None, if◌then◌else◌}
use Rattle.pg_num.specs.declared.width.Width.TheVariants.{W64}
use Rattle.pg_ir.specs.declared.instr.Op.TheVariants as op
use Rattle.pg_ir.specs.declared.value.Scalar.TheVariants.{Int, Ptr}
use Rattle.pg_ir.specs.declared.value.Value.TheVariants as value
use Rattle.pg_ir.specs.Program.{NumberedProgram}
use Rattle.pg_region_paths.specs.declared.path.Loads.TheVariants.{Never}
use Rattle.pg_region_paths.specs.declared.path.Root.{Root}
use Rattle.pg_region_paths.specs.declared.path.Root.TheVariants as root
use Rattle.pg_region_accesses.specs.Accesses.{RootedList, set_accesses}
use Rattle.pg_region_summaries.specs.Summaries.{summary_by}

--   function 0, block 0: %2 = load i64, %0    %3 = add %2, %1    store %3, %0    ret
--   main, block 1:       call function 0 (@0, 1)                 ret
abbrev pub adder_program : NumberedProgram
adder_program = record {
  functions =
      record { params = 2; registers = Ptr ∷ Int W64 ∷ Int W64 ∷ Int W64 ∷ []; first_block = record { 0 = 0 }; blocks = 1; result = None }
      ∷ record { params = 0; registers = []; first_block = record { 0 = 1 }; blocks = 1; result = None }
      ∷ [];
  blocks =
      record { function = 0; first = record { 0 = 0 }; count = 4 }
      ∷ record { function = 1; first = record { 0 = 4 }; count = 2 }
      ∷ [];
  instrs =
      record { op = op.Load W64 (value.Register 0); block = record { 0 = 0 }; result = Some 2 }
      ∷ record { op = op.Add W64 (value.Register 2) (value.Register 1); block = record { 0 = 0 }; result = Some 3 }
      ∷ record { op = op.Store W64 (value.Register 3) (value.Register 0); block = record { 0 = 0 }; result = None }
      ∷ record { op = op.Ret None; block = record { 0 = 0 }; result = None }
      ∷ record { op = op.Call 0 (value.Global 0 ∷ value.Const 1 ∷ []); block = record { 0 = 1 }; result = None }
      ∷ record { op = op.Ret None; block = record { 0 = 1 }; result = None }
      ∷ [];
  globals = record { start = 1; size = 8; bytes = [] } ∷ [];
  main = 1;
}

-- instruction 0 reads at the root and instruction 2 writes there
abbrev pub adds_at : Root → RootedList
adds_at r =
    record { instr = record { 0 = 0 }; writes = false; path = record { root = r; loads = Never } }
    ∷ record { instr = record { 0 = 2 }; writes = true; path = record { root = r; loads = Never } }
    ∷ []

abbrev pub adder_sums : ℕ → Option RootedList
adder_sums f = if f == 0 then Some (adds_at (root.Param 0)) else None

-- the function reads and writes at its first parameter, which in the call is the global; without its summary the call isn't
-- quiet, and with its store in the gated set the function isn't
pub record AdderIsQuiet : Type 0 where
  pub summary : summary_by adder_program (λ i. false) (λ f. None) 0 ≡ Some (adds_at (root.Param 0))
  pub called : set_accesses true adder_program (λ i. false) adder_sums (1 ∷ []) ≡ Some (adds_at (root.Global 0))
  pub unknown : set_accesses true adder_program (λ i. false) (λ f. None) (1 ∷ []) ≡ None
  pub gated : summary_by adder_program (λ i. i == 2) (λ f. None) 0 ≡ None
