-- Quiet functions and their summaries: what a call of one accesses, by the arguments of the call.
use Rattle.std.specs.Prelude.{◌≡◌, ℕ, ◌<◌, [], ◌∷◌, length, nat_lt, nat_le, Bool, true, Option, Some, None, if◌then◌else◌}
use Rattle.pg_ir.specs.Program.{NumberedProgram, parameter_count}
use Rattle.pg_region_paths.specs.declared.path.Root.{Root}
use Rattle.pg_region_paths.specs.declared.path.Root.TheVariants as root
use Rattle.pg_region_accesses.specs.declared.rooted.Rooted.{Rooted}
use Rattle.pg_region_accesses.specs.Accesses.{RootedList, gathered, set_accesses}
use Rattle.pg_region_summaries.specs.declared.limits.TheConstants.{SUMMARY_LIMIT}
use Rattle.pg_region_summaries.specs.Calls.{CanBeQuiet}
use Rattle.pg_region_summaries.specs.Blocks.{blocks_of}

-- a root of a path within a function with so many parameters, as its callers see it: a global, a constant, or a register
-- that is a parameter, which are the first ones
abbrev pub seen_root : ℕ → Root → Option Root
seen_root n (root.Register r) = if nat_lt r n then Some (root.Param r) else None
seen_root n r = Some r

abbrev pub with_root : Rooted → Option Root → Option RootedList
with_root a None = None
with_root a (Some r) = Some (record a { path = record { root = r; loads = a.path.loads } } ∷ [])

abbrev pub seen : ℕ → RootedList → Option RootedList
seen n = gathered (λ (a : Rooted). with_root a (seen_root n a.path.root))

-- these, unless they are more than a summary may have
abbrev pub if_few : Option RootedList → Option RootedList
if_few None = None
if_few (Some xs) = if nat_le (length xs) SUMMARY_LIMIT then Some xs else None

abbrev pub seen_by_callers : ℕ → Option RootedList → Option RootedList
seen_by_callers n None = None
seen_by_callers n (Some xs) = if_few (seen n xs)

-- what a function accesses, by the summaries of those that it calls, if each of its blocks is quiet, each access has a
-- root that its callers see, and they are few
abbrev pub summary_by : NumberedProgram → (ℕ → Bool) → (ℕ → Option RootedList) → ℕ → Option RootedList
summary_by p gated sums f = seen_by_callers (parameter_count p f) (set_accesses true p gated sums (blocks_of p f))

-- each function that can be quiet has the summary that those of the functions that it calls give it, and no other
-- function has one
pub record AreSummaries (p : NumberedProgram) (gated : ℕ → Bool) (sums : ℕ → Option RootedList) : Type 0 where
  pub quiet : (f : ℕ) → f < length p.functions → CanBeQuiet p f → sums f ≡ summary_by p gated sums f
  pub others : (f : ℕ) (xs : RootedList) → f < length p.functions → sums f ≡ Some xs → CanBeQuiet p f
