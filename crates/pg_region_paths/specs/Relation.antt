-- Root paths as a relation: which paths the operands of an instruction have, case by case.
use Rattle.std.specs.Prelude.{◌≡◌, ℕ, ◌↔◌, List, [], ◌∷◌, Bool, true, false, Option, Some, None}
use Rattle.pg_ir.specs.declared.value.Value.{Value}
use Rattle.pg_ir.specs.declared.value.Value.TheVariants as value
use Rattle.pg_ir.specs.declared.value.Index.{Index}
use Rattle.pg_ir.specs.declared.value.Scalar.{Scalar}
use Rattle.pg_ir.specs.pg_num.declared.width.Width.{Width}
use Rattle.pg_ir.specs.declared.instr.Instr.{Instr}
use Rattle.pg_ir.specs.declared.instr.Op.{Op}
use Rattle.pg_ir.specs.declared.instr.Op.TheVariants as op
use Rattle.pg_region_paths.specs.declared.path.Root.{Root}
use Rattle.pg_region_paths.specs.declared.path.Root.TheVariants as root
use Rattle.pg_region_paths.specs.declared.path.Path.{Path}
use Rattle.pg_region_paths.specs.Paths.{rooted, loaded}
use Rattle.pg_region_paths.specs.Registers.{is_register, has_pointer, moved, path_of}

-- of the instructions before, the nearest first, x is the first that sets the register, and rest stand before it
pub data LastSets (r : ℕ) (x : Instr) (rest : List Instr) : List Instr → Type 0 where
  here : is_register x.result r ≡ true → LastSets r x rest (x ∷ rest)
  before : {y : Instr} {ys : List Instr} → is_register y.result r ≡ false → LastSets r x rest ys → LastSets r x rest (y ∷ ys)

-- none of the instructions sets the register
pub data NoneSets (r : ℕ) : List Instr → Type 0 where
  none : NoneSets r []
  also : {y : Instr} {ys : List Instr} → is_register y.result r ≡ false → NoneSets r ys → NoneSets r (y ∷ ys)

-- the paths of operands within a set of blocks that sets these registers, by the instructions of the same block before
pub data HasPath (is_set : ℕ → Bool) (types : List Scalar) : List Instr → Value → Path → Type 0 where
  -- a global, a constant, and a register that the set of blocks doesn't set are roots
  global : {ys : List Instr} {g : ℕ} → HasPath is_set types ys (value.Global g) (rooted (root.Global g))
  constant : {ys : List Instr} {n : ℕ} → HasPath is_set types ys (value.Const n) (rooted (root.Const n))
  register : {ys : List Instr} {r : ℕ} → is_set r ≡ false → NoneSets r ys → HasPath is_set types ys (value.Register r) (rooted (root.Register r))
  -- a register that a getelementptr sets has the path of its base, moved
  getelementptr : {ys rest : List Instr} {r : ℕ} {x : Instr} {base : Value} {indices : List Index} {q : Path} → LastSets r x rest ys → x.op ≡ op.Gep base indices →
      HasPath is_set types rest base q → HasPath is_set types ys (value.Register r) (moved indices q)
  -- a register that a load of a pointer sets has that of its address and one load more, if there is such a path
  load : {ys rest : List Instr} {r : ℕ} {x : Instr} {w : Width} {from : Value} {q q' : Path} → LastSets r x rest ys → x.op ≡ op.Load w from → has_pointer types x.result ≡ true →
      HasPath is_set types rest from q → loaded q ≡ Some q' → HasPath is_set types ys (value.Register r) q'

abbrev pub PathsAreThoseOfCases : Type 0
PathsAreThoseOfCases = (is_set : ℕ → Bool) (types : List Scalar) (before : List Instr) (v : Value) (q : Path) → HasPath is_set types before v q ↔ (path_of is_set types before v ≡ Some q)
