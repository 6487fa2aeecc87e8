-- What the checks promise of a module.
use Rattle.std.specs.Prelude.{◌≡◌, ◌++◌, ◌∷◌, [], List, Option, Some, None}
use Rattle.std.specs.List.{enumerate_from}
use Rattle.pg_read_ast.specs.Syntax.{Tree}
use Rattle.pg_ir.specs.Program.{NumberedProgram}
use Rattle.pg_check_rules.specs.declared.fault.CheckFault.{CheckFault}
use Rattle.pg_check_rules.specs.declared.fault.CheckFault.TheVariants.{At, OutOfMemory}
use Rattle.pg_check_rules.specs.declared.refusals.CheckRefusal.{CheckRefusal}
use Rattle.pg_check_rules.specs.Conditions.{RefusedPlaces, all_of, global_refused, heads_refused, main_refused, bodies, IsUnrefused, IsFirstRefusal}
use Rattle.pg_check_rules.specs.Numbered.{program_of}

-- a tree that nothing refuses, and its numbered program
abbrev pub IsProgramOf : Tree → NumberedProgram → Type 0
IsProgramOf m p = IsUnrefused m × (p ≡ program_of m)

-- the tree's first refusal; want of memory says nothing
abbrev pub IsFaultOf : Tree → CheckFault → Type 0
IsFaultOf m (At kind span) = IsFirstRefusal m kind span
IsFaultOf m OutOfMemory = Unit {0}

-- what the checks find: the tree's first refusal, or that nothing refuses it
abbrev pub IsFoundIn : Tree → Option CheckRefusal → Type 0
IsFoundIn m (Some r) = IsFirstRefusal m r.kind r.span
IsFoundIn m None = IsUnrefused m

-- ---- the phases behind the first

abbrev pub last_phases : Tree → List RefusedPlaces
last_phases m = bodies m m.functions 0 ++ main_refused m ∷ []

abbrev pub phases_from_heads : Tree → List RefusedPlaces
phases_from_heads m = heads_refused m ∷ last_phases m

abbrev pub phases_from_globals : Tree → List RefusedPlaces
phases_from_globals m = all_of (global_refused m) (enumerate_from 0 m.globals) ∷ phases_from_heads m
