-- Laws on what sets of blocks access.
use Rattle.std.specs.Prelude.{◌≡◌, ℕ, ◌+◌, ◌⊎◌, List, Bool, true, false, Option, Some, Contains, slice_get}
use Rattle.pg_region_paths.specs.pg_ir.declared.library_call.LibraryCall.TheVariants.{PgIn, PgInLen}
use Rattle.pg_region_paths.specs.pg_ir.declared.instr.Instr.{Instr}
use Rattle.pg_region_paths.specs.pg_ir.declared.instr.Op.{Op}
use Rattle.pg_region_paths.specs.pg_ir.declared.instr.Op.TheVariants as op
use Rattle.pg_region_paths.specs.pg_ir.Program.{NumberedProgram, first_of}
use Rattle.pg_region_paths.specs.pg_ir.Edges.{instrs_of}
use Rattle.pg_region_paths.specs.declared.path.Root.{Root}
use Rattle.pg_region_paths.specs.declared.path.Root.TheVariants as root
use Rattle.pg_region_accesses.specs.declared.rooted.Rooted.{Rooted}
use Rattle.pg_region_accesses.specs.Accesses.{RootedList, block_accesses, sets, set_accesses}

-- what is quiet in a set of blocks is quiet in each part of it, where each block accesses the same
pub record IsQuietPart (m : Bool) (p : NumberedProgram) (gated : ℕ → Bool) (sums : ℕ → Option RootedList) (blocks part : List ℕ) : Type 0 where
  pub quiet : (others : RootedList) × (set_accesses m p gated sums part ≡ Some others)
  pub same : (b : ℕ) → Contains part b → block_accesses m p gated sums (sets p part) b ≡ block_accesses m p gated sums (sets p blocks) b

abbrev pub PartsAreQuiet : Type 0
PartsAreQuiet = (m : Bool) (p : NumberedProgram) (gated : ℕ → Bool) (sums : ℕ → Option RootedList) (blocks part : List ℕ) (accesses : RootedList)
    → set_accesses m p gated sums blocks ≡ Some accesses → ((b : ℕ) → Contains part b → Contains blocks b) →
    IsQuietPart m p gated sums blocks part

-- an instruction that isn't a gated access, an `alloca`, a call of a function that isn't quiet, or a return where there
-- may be none; of the functions that a program doesn't define those that read the input alone may be called
abbrev pub IsQuiet : Bool → (ℕ → Bool) → (ℕ → Option RootedList) → ℕ → Op → Type 0
IsQuiet may_return gated sums i (op.Load w from) = gated i ≡ false
IsQuiet may_return gated sums i (op.Store w v at) = gated i ≡ false
IsQuiet may_return gated sums i (op.Call g args) = (called : RootedList) × (sums g ≡ Some called)
IsQuiet may_return gated sums i (op.CallLibrary k args) = (k ≡ PgIn) ⊎ (k ≡ PgInLen)
IsQuiet may_return gated sums i (op.Alloca bytes) = ⊥
IsQuiet may_return gated sums i (op.Ret v) = may_return ≡ true
IsQuiet may_return gated sums i _ = Unit {0}

abbrev pub QuietSetsPassQuiet : Type 0
QuietSetsPassQuiet = (m : Bool) (p : NumberedProgram) (gated : ℕ → Bool) (sums : ℕ → Option RootedList) (blocks : List ℕ) (accesses : RootedList)
    → set_accesses m p gated sums blocks ≡ Some accesses →
    (b k : ℕ) (x : Instr) → Contains blocks b → slice_get (instrs_of p b) k ≡ Some x → IsQuiet m gated sums (first_of p b + k) x.op

-- what begins an access of a set of blocks that sets these registers: none of them, and no parameter
abbrev pub IsOutside : (ℕ → Bool) → Root → Type 0
IsOutside is_set (root.Global g) = Unit {0}
IsOutside is_set (root.Const n) = Unit {0}
IsOutside is_set (root.Register r) = is_set r ≡ false
IsOutside is_set (root.Param k) = ⊥

abbrev pub RootsAreOutside : Type 0
RootsAreOutside = (m : Bool) (p : NumberedProgram) (gated : ℕ → Bool) (sums : ℕ → Option RootedList) (blocks : List ℕ) (accesses : RootedList)
    → set_accesses m p gated sums blocks ≡ Some accesses →
    (a : Rooted) → Contains accesses a → IsOutside (sets p blocks) a.path.root
