-- Constant indices have the width of their index.
use Rattle.std.specs.Prelude.{ℕ, ◌<◌, List}
use Rattle.std.specs.List.{AllByRecursion}
use Rattle.pg_ir.specs.pg_num.Numbers.{modulus}
use Rattle.pg_ir.specs.pg_num.declared.width.Width.{Width}
use Rattle.pg_ir.specs.declared.value.Value.{Value}
use Rattle.pg_ir.specs.declared.value.Value.TheVariants as value
use Rattle.pg_ir.specs.declared.value.Index.{Index}
use Rattle.pg_ir.specs.declared.instr.Op.{Op}
use Rattle.pg_ir.specs.declared.instr.Op.TheVariants as op

abbrev pub FitsWidth : Width → Value → Type 0
FitsWidth w (value.Const n) = n < modulus w
FitsWidth w _ = Unit {0}

abbrev pub FitsConstant : Index → Type 0
FitsConstant i = FitsWidth i.width i.value

abbrev pub FitsGep : Op → Type 0
FitsGep (op.Gep base indices) = AllByRecursion FitsConstant indices
FitsGep _ = Unit {0}
