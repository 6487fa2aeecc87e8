-- Laws on quiet functions.
use Rattle.std.specs.Prelude.{◌≡◌, ℕ, ◌<◌, ◌≤◌, length, Bool, true, Option, Some, Contains, slice_get}
use Rattle.pg_ir.specs.declared.instr.Instr.{Instr}
use Rattle.pg_ir.specs.Program.{NumberedProgram, function_of, parameter_count}
use Rattle.pg_ir.specs.WellFormed.{IsProgram}
use Rattle.pg_region_paths.specs.declared.path.Root.{Root}
use Rattle.pg_region_paths.specs.declared.path.Root.TheVariants as root
use Rattle.pg_region_accesses.specs.declared.rooted.Rooted.{Rooted}
use Rattle.pg_region_accesses.specs.Accesses.{RootedList}
use Rattle.pg_region_accesses.specs.Laws.{IsQuiet}
use Rattle.pg_region_summaries.specs.declared.limits.TheConstants.{SUMMARY_LIMIT}
use Rattle.pg_region_summaries.specs.Calls.{CallsReach}
use Rattle.pg_region_summaries.specs.Summaries.{AreSummaries}

-- a function with a summary, one of a program's summaries
pub record HasSummary (p : NumberedProgram) (gated : ℕ → Bool) (sums : ℕ → Option RootedList) (f : ℕ) (xs : RootedList) : Type 0 where
  pub program : IsProgram p
  pub summaries : AreSummaries p gated sums
  pub function : f < length p.functions
  pub summary : sums f ≡ Some xs

-- each instruction of a quiet function is quiet: no event, no gated access, no `alloca` and no call but of a quiet function or
-- one that reads the input
abbrev pub QuietFunctionsPassQuiet : Type 0
QuietFunctionsPassQuiet = (p : NumberedProgram) (gated : ℕ → Bool) (sums : ℕ → Option RootedList) (f : ℕ) (xs : RootedList) → HasSummary p gated sums f xs →
    (i : ℕ) (x : Instr) → slice_get p.instrs i ≡ Some x → function_of p x.block.0 ≡ f → IsQuiet true gated sums i x.op

-- a function that the calls of a quiet one reach is quiet and doesn't reach itself
pub record IsReachedQuiet (p : NumberedProgram) (sums : ℕ → Option RootedList) (g : ℕ) : Type 0 where
  pub function : g < length p.functions
  pub accesses : RootedList
  pub summary : sums g ≡ Some accesses
  pub ends : CallsReach p g g → ⊥

abbrev pub QuietFunctionsReachQuiet : Type 0
QuietFunctionsReachQuiet = (p : NumberedProgram) (gated : ℕ → Bool) (sums : ℕ → Option RootedList) (f : ℕ) (xs : RootedList) → HasSummary p gated sums f xs →
    (g : ℕ) → CallsReach p f g → IsReachedQuiet p sums g

-- where a summary's access begins: a global, a constant or one of so many parameters
abbrev pub IsSeen : ℕ → Root → Type 0
IsSeen n (root.Global g) = Unit {0}
IsSeen n (root.Const c) = Unit {0}
IsSeen n (root.Param k) = k < n
IsSeen n (root.Register r) = ⊥

-- a summary has as many accesses as it may have at most, and each begins where a caller sees it
abbrev pub SummariesAreSeen : Type 0
SummariesAreSeen = (p : NumberedProgram) (gated : ℕ → Bool) (sums : ℕ → Option RootedList) (f : ℕ) (xs : RootedList) → HasSummary p gated sums f xs →
    (length xs ≤ SUMMARY_LIMIT) × ((a : Rooted) → Contains xs a → IsSeen (parameter_count p f) a.path.root)
