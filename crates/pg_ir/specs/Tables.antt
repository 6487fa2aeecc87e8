-- What is prepared of a program, so that a step costs what it names.
use Rattle.std.specs.Prelude.{◌≡◌, ℕ, ◌+◌, ◌-◌, ◌≤◌, ◌==◌, List, [], ◌∷◌, length, take, drop, Option, Some, None, slice_get, if◌then◌else◌}
use Rattle.std.specs.List.Sorted.{IsNonDecreasingBy}
use Rattle.pg_ir.specs.declared.edge.Case.{Case}
use Rattle.pg_ir.specs.declared.value.Value.{Value}
use Rattle.pg_ir.specs.declared.instr.Op.{Op}
use Rattle.pg_ir.specs.declared.instr.Op.TheVariants.{Switch}
use Rattle.pg_ir.specs.declared.instr.Instr.{Instr}
use Rattle.pg_ir.specs.declared.tables.BlockTable.{BlockTable}
use Rattle.pg_ir.specs.declared.tables.CaseRow.{CaseRow}
use Rattle.pg_ir.specs.declared.tables.Entered.{Entered}
use Rattle.pg_ir.specs.Program.{NumberedProgram, end_of}
use Rattle.pg_ir.specs.Edges.{phis_of, successors, values_along}
use Rattle.pg_ir.specs.WellFormed.{IsProgram}

-- a list begins with another
abbrev pub IsFront : {A : Type 0} → List A → List A → Type 0
IsFront [] ys = Unit {0}
IsFront (x ∷ xs) [] = ⊥
IsFront (x ∷ xs) (y ∷ ys) = (x ≡ y) × IsFront xs ys

-- ---- the cases of a switch, by their values

-- the cases, numbered as targets from k on
abbrev pub case_rows : ℕ → List Case → List CaseRow
case_rows k [] = []
case_rows k (c ∷ cs) = record { value = c.value; target = k } ∷ case_rows (k + 1) cs

-- the target of the first row of this value, 0 where there is none
abbrev pub first_target : List CaseRow → ℕ → ℕ
first_target [] n = 0
first_target (r ∷ rs) n = if r.value == n then r.target else first_target rs n

abbrev pub target_at : ℕ → Option CaseRow → ℕ
target_at n None = 0
target_at n (Some r) = if r.value == n then r.target else 0

-- rows in the order of their values, which tell the same as the cases in the order of the text
pub record IsCaseTable (cases : List Case) (rows : List CaseRow) : Type 0 where
  pub count : length rows ≡ length cases
  pub sorted : IsNonDecreasingBy (λ (r : CaseRow). r.value) rows
  pub same : (n : ℕ) → first_target rows n ≡ first_target (case_rows 1 cases) n

abbrev pub cases_of : Op → List Case
cases_of (Switch w on other cases) = cases
cases_of _ = []

abbrev pub cases_in : Option Instr → List Case
cases_in None = []
cases_in (Some x) = cases_of x.op

-- the cases of the instruction that ends a block
unfoldable pub block_cases : NumberedProgram → ℕ → List Case
block_cases p b = cases_in (slice_get p.instrs (end_of p b - 1))

-- the rows from a place on are those of the cases
pub record HasCases (cases : List Case) (rows : List CaseRow) (start : ℕ) : Type 0 where
  pub within : start + length cases ≤ length rows
  pub table : IsCaseTable cases (take (length cases) (drop start rows))

-- ---- the values along edges

-- a row of values stands at a place
abbrev pub HasRow : List (Option Value) → List (Option Value) → ℕ → Type 0
HasRow row values r = (r ≤ length values) × IsFront row (drop r values)

-- at a place stand the values that the phis of block t take from block b
abbrev pub IsRow : NumberedProgram → List (Option Value) → ℕ → ℕ → Option ℕ → Type 0
IsRow p values b t None = ⊥
IsRow p values b t (Some r) = HasRow (values_along p b t) values r

-- from a place on stand the rows of block b's targets
abbrev pub HaveRows : NumberedProgram → List (Option Value) → ℕ → List ℕ → ℕ → List ℕ → Type 0
HaveRows p values b rows start ts = (k t : ℕ) → slice_get ts k ≡ Some t → IsRow p values b t (slice_get rows (start + k))

-- each edge that is kept for its target is right
unfoldable pub AreEntered : NumberedProgram → List (Option Value) → List (Option Entered) → Type 0
AreEntered p values entered = (t : ℕ) (e : Entered) → slice_get entered t ≡ Some (Some e) → HasRow (values_along p e.from t) values e.row

-- ---- the tables

pub record FitsTable (p : NumberedProgram) (rows : List ℕ) (values : List (Option Value)) (cases : List CaseRow) (b : ℕ) (x : BlockTable) : Type 0 where
  pub count : x.phis ≡ length (phis_of p b)
  pub edges : HaveRows p values b rows x.edges (successors p b)
  pub switch : HasCases (block_cases p b) cases x.cases

unfoldable pub AreTables : NumberedProgram → List ℕ → List (Option Value) → List CaseRow → List BlockTable → Type 0
AreTables p rows values cases blocks = (b : ℕ) (x : BlockTable) → slice_get blocks b ≡ Some x → FitsTable p rows values cases b x

-- a program and its tables
pub record IsPrepared (p : NumberedProgram) (rows : List ℕ) (values : List (Option Value)) (cases : List CaseRow) (blocks : List BlockTable) : Type 0 where
  pub program : IsProgram p
  pub count : length blocks ≡ length p.blocks
  pub tables : AreTables p rows values cases blocks
