-- The block to which a branch goes on can be entered.
use Rattle.std.proofs.Common.{ℕ, List, [], ◌∷◌, map, Bool, true, false}
use Rattle.std.specs.Prelude.{◌==◌, if◌then◌else◌}
use Rattle.std.specs.List.{AllByRecursion}
use Rattle.pg_ir.specs.declared.edge.Case.{Case}
use Rattle.pg_ir.specs.Program.{NumberedProgram}
use Rattle.pg_ir.specs.declared.instr.Op.{Op}
use Rattle.pg_ir.specs.declared.instr.Op.TheVariants as op
use Rattle.pg_ir.specs.Operands.{CanEnter, CanGoOn}
use Rattle.pg_run_thread.specs.Compute.{chosen}
use Rattle.pg_run_thread.specs.EdgeStep.{case_of}
use Rattle.pg_run_thread.specs.Needs.{IsBranch, block_taken}

pub chosen_enters : (p : NumberedProgram) (n c a b : ℕ) → AllByRecursion (CanEnter p n) (a ∷ b ∷ []) → CanEnter p n (chosen c a b)
chosen_enters p n c a b h = go (c == 0)
  where
    go : (t : Bool) → CanEnter p n (if t then b else a)
    go true = h.1.0
    go false = h.0

pub case_enters : (p : NumberedProgram) (n : ℕ) (cases : List Case) (other k : ℕ) → AllByRecursion (CanEnter p n) (other ∷ map (λ (c : Case). c.to.0) cases)
    → CanEnter p n (case_of cases other k)
case_enters p n [] other k h = h.0
case_enters p n (c ∷ cs) other k h = go (c.value == k) (case_enters p n cs other k (h.0, h.1.1))
  where
    go : (t : Bool) → CanEnter p n (case_of cs other k) → CanEnter p n (if t then c.to.0 else case_of cs other k)
    go true more = h.1.0
    go false more = more

pub taken_enters : (p : NumberedProgram) (n c : ℕ) (o : Op) → IsBranch o → CanGoOn p n o → CanEnter p n (block_taken c o)
taken_enters p n c (op.Br to) b h = h.0
taken_enters p n c (op.CondBr v a b) k h = chosen_enters p n c a.0 b.0 h
taken_enters p n c (op.Switch w on other cases) b h = case_enters p n cases other.0 c h
taken_enters p n c o b h = absurd b
