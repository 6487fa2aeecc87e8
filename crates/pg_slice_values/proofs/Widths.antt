-- Casts that fit their widths.
use Rattle.std.proofs.Common.{◌≤◌, ◌<◌, List, Option, lit≤, arith, subst, sym}
use Rattle.pg_num.specs.Numbers.{width_bits}
use Rattle.pg_num.specs.declared.width.Width.{Width}
use Rattle.pg_ir.specs.declared.instr.Op.{Op}
use Rattle.pg_ir.specs.declared.instr.Op.TheVariants as op
use Rattle.pg_ir.specs.declared.value.Scalar.{Scalar}
use Rattle.pg_ir.specs.Program.{NumberedProgram}
use Rattle.pg_ir.specs.WellFormed.{FitsOp}
use Rattle.pg_slice_values.specs.Forms.{CastFits}
use Rattle.pg_num.specs.declared.width.Width.TheVariants.{W1, W8, W16, W32, W64}

pub within_64 : (w : Width) → width_bits w ≤ width_bits W64
within_64 W1 = lit≤ tt
within_64 W8 = lit≤ tt
within_64 W16 = lit≤ tt
within_64 W32 = lit≤ tt
within_64 W64 = lit≤ tt

-- the casts of a program narrow or widen as their kinds say
pub casts_fit : (p : NumberedProgram) (types : List Scalar) (returns result : Option Scalar) (o : Op) → FitsOp p types returns result o → CastFits o
casts_fit p types returns result (op.Trunc from to v) h = let k : width_bits to < width_bits from = h.1 in omega (arith, k)
casts_fit p types returns result (op.Zext from to v) h = let k : width_bits from < width_bits to = h.1 in omega (arith, k)
casts_fit p types returns result (op.Sext from to v) h = let k : width_bits from < width_bits to = h.1 in omega (arith, k)
casts_fit p types returns result (op.PtrToInt from to v) h = subst (λ (w : Width). width_bits to ≤ width_bits w) (sym h.1) (within_64 to)
casts_fit p types returns result (op.IntToPtr from to v) h = subst (λ (w : Width). width_bits from ≤ width_bits w) (sym h.1) (within_64 from)
casts_fit p types returns result o h = tt
