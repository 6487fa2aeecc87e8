-- What quiet basic blocks access, each access with the root path of its pointer.
use Rattle.std.specs.Prelude.{ℕ, ◌+◌, ◌==◌, List, [], ◌∷◌, ◌++◌, Bool, true, false, Option, Some, None, slice_get, if◌then◌else◌}
use Rattle.std.specs.List.{list_any}
use Rattle.pg_region_paths.specs.pg_ir.declared.ids.InstrId.{InstrId}
use Rattle.pg_region_paths.specs.pg_ir.declared.library_call.LibraryCall.{LibraryCall}
use Rattle.pg_region_paths.specs.pg_ir.declared.library_call.LibraryCall.TheVariants.{PgIn, PgInLen}
use Rattle.pg_region_paths.specs.pg_ir.declared.value.Value.{Value}
use Rattle.pg_region_paths.specs.pg_ir.declared.value.Scalar.{Scalar}
use Rattle.pg_region_paths.specs.pg_ir.declared.instr.Instr.{Instr}
use Rattle.pg_region_paths.specs.pg_ir.declared.instr.Op.{Op}
use Rattle.pg_region_paths.specs.pg_ir.declared.instr.Op.TheVariants as op
use Rattle.pg_region_paths.specs.pg_ir.Program.{NumberedProgram, types_of, function_of, first_of}
use Rattle.pg_region_paths.specs.pg_ir.Edges.{instrs_of}
use Rattle.pg_region_paths.specs.declared.path.Root.{Root}
use Rattle.pg_region_paths.specs.declared.path.Root.TheVariants as root
use Rattle.pg_region_paths.specs.declared.path.RootPath.{RootPath}
use Rattle.pg_region_paths.specs.declared.path.Path.{Path}
use Rattle.pg_region_paths.specs.Paths.{composed, root_path_of}
use Rattle.pg_region_paths.specs.Registers.{value_path, register_path, is_register}
use Rattle.pg_region_accesses.specs.declared.rooted.Rooted.{Rooted}
use Rattle.pg_region_accesses.specs.declared.rooted.Summary.{Summary}

-- ---- lists of accesses, if all is quiet

abbrev pub RootedList : Type 0
RootedList = List Rooted

abbrev pub both : Option RootedList → Option RootedList → Option RootedList
both None ys = None
both (Some xs) None = None
both (Some xs) (Some ys) = Some (xs ++ ys)

-- what each gives, one after another, if each gives something
abbrev pub gathered : {A : Type 0} → (A → Option RootedList) → List A → Option RootedList
gathered f [] = Some []
gathered f (x ∷ xs) = both (f x) (gathered f xs)

-- ---- one instruction

-- an instruction of the gated set
abbrev pub is_gated : List InstrId → ℕ → Bool
is_gated gated i = list_any (λ (g : InstrId). g.0 == i) gated

-- the accesses of a function, if it is quiet
abbrev pub accesses_in : Option (Option Summary) → Option RootedList
accesses_in None = None
accesses_in (Some None) = None
accesses_in (Some (Some s)) = Some s.accesses.items

abbrev pub summary_of : List (Option Summary) → ℕ → Option RootedList
summary_of sums f = accesses_in (slice_get sums f)

abbrev pub one_access : ℕ → Bool → Option Path → Option RootedList
one_access i writes None = None
one_access i writes (Some p) = Some (record { instr = record { 0 = i }; writes = writes; path = root_path_of p } ∷ [])

abbrev pub with_path : Rooted → Option RootPath → Option RootedList
with_path a None = None
with_path a (Some p) = Some (record a { path = p } ∷ [])

abbrev pub behind_path : Rooted → Option Path → Option RootedList
behind_path a None = None
behind_path a (Some p) = with_path a (composed p a.path.loads)

abbrev pub behind_argument : (ℕ → Option Path) → Rooted → Option Value → Option RootedList
behind_argument f a None = None
behind_argument f a (Some v) = behind_path a (value_path f v)

-- an access of a callee in the place of the call: from a parameter its path is the argument's with its own behind it;
-- the callee's registers mean nothing there
abbrev pub called_access : (ℕ → Option Path) → List Value → Rooted → Root → Option RootedList
called_access f args a (root.Param k) = behind_argument f a (slice_get args k)
called_access f args a (root.Register r) = None
called_access f args a r = Some (a ∷ [])

abbrev pub called_accesses : (ℕ → Option Path) → List Value → Option RootedList → Option RootedList
called_accesses f args None = None
called_accesses f args (Some xs) = gathered (λ (a : Rooted). called_access f args a a.path.root) xs

-- calls of other functions than the program's own: only those that read the input are quiet
abbrev pub known_accesses : LibraryCall → Option RootedList
known_accesses PgIn = Some []
known_accesses PgInLen = Some []
known_accesses k = None

-- what an instruction accesses, by the paths of the registers, if it is quiet; a return is where
-- may_return says so
abbrev pub op_accesses : Bool → (ℕ → Bool) → (ℕ → Option RootedList) → (ℕ → Option Path) → ℕ → Op → Option RootedList
op_accesses may_return gated sums f i (op.Load w from) = if gated i then None else one_access i false (value_path f from)
op_accesses may_return gated sums f i (op.Store w v at) = if gated i then None else one_access i true (value_path f at)
op_accesses may_return gated sums f i (op.Call g args) = called_accesses f args (sums g)
op_accesses may_return gated sums f i (op.CallLibrary k args) = known_accesses k
op_accesses may_return gated sums f i (op.Alloca bytes) = None
op_accesses may_return gated sums f i (op.Ret v) = if may_return then Some [] else None
op_accesses may_return gated sums f i _ = Some []

-- ---- blocks

-- what the instructions of a block access from the one with this number on, by those that stand before
abbrev pub accesses_from : Bool → (ℕ → Bool) → (ℕ → Option RootedList) → (ℕ → Bool) → List Scalar → List Instr → ℕ → List Instr → Option RootedList
accesses_from may_return gated sums is_set types before i [] = Some []
accesses_from may_return gated sums is_set types before i (x ∷ xs) =
    both (op_accesses may_return gated sums (register_path is_set types before) i x.op) (accesses_from may_return gated sums is_set types (x ∷ before) (i + 1) xs)

-- what a block accesses, within a set of blocks that sets these registers
unfoldable pub block_accesses : Bool → NumberedProgram → (ℕ → Bool) → (ℕ → Option RootedList) → (ℕ → Bool) → ℕ → Option RootedList
block_accesses may_return p gated sums is_set b = accesses_from may_return gated sums is_set (types_of p (function_of p b)) [] (first_of p b) (instrs_of p b)

-- a register that an instruction or a phi of the block sets
unfoldable pub block_sets : NumberedProgram → ℕ → ℕ → Bool
block_sets p r b = list_any (λ (x : Instr). is_register x.result r) (instrs_of p b)

abbrev pub sets : NumberedProgram → List ℕ → ℕ → Bool
sets p blocks r = list_any (block_sets p r) blocks

-- what a set of blocks accesses, in text order, if each block is quiet
abbrev pub set_accesses : Bool → NumberedProgram → (ℕ → Bool) → (ℕ → Option RootedList) → List ℕ → Option RootedList
set_accesses may_return p gated sums blocks = gathered (block_accesses may_return p gated sums (sets p blocks)) blocks
