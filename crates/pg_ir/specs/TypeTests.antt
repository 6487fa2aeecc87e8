-- Tests that compute: whether the operands and the result of an operation have the types that it
-- takes and gives. Each decides the fact of the same name in WellFormed.
use Rattle.std.specs.Prelude.{ℕ, ◌==◌, nat_lt, length, Bool, true, false, ◌&&◌, ◌||◌, List, [], ◌∷◌, Option, Some, None, slice_get, zip}
use Rattle.std.specs.List.{list_all}
use Rattle.pg_num.specs.Numbers.{modulus, width_bits}
use Rattle.pg_num.specs.declared.width.Width.{Width}
use Rattle.pg_num.specs.declared.width.Width.TheVariants.{W1, W64}
use Rattle.pg_ir.specs.declared.edge.Case.{Case}
use Rattle.pg_ir.specs.declared.edge.Incoming.{Incoming}
use Rattle.pg_ir.specs.declared.function.Function.{Function}
use Rattle.pg_ir.specs.declared.instr.Op.{Op}
use Rattle.pg_ir.specs.declared.instr.Op.TheVariants as op
use Rattle.pg_ir.specs.declared.library_call.LibraryCall.{LibraryCall}
use Rattle.pg_ir.specs.declared.library_call.LibraryCall.TheVariants.{PthreadCreate}
use Rattle.pg_ir.specs.declared.value.Index.{Index}
use Rattle.pg_ir.specs.declared.value.Scalar.{Scalar}
use Rattle.pg_ir.specs.declared.value.Scalar.TheVariants.{Int, Ptr}
use Rattle.pg_ir.specs.declared.value.Value.{Value}
use Rattle.pg_ir.specs.declared.value.Value.TheVariants as value
use Rattle.pg_ir.specs.Program.{NumberedProgram, result_of}
use Rattle.pg_ir.specs.Signatures.{parameters_of, returned_by}
use Rattle.pg_ir.specs.WellFormed.{width_of, parameter_types}

abbrev pub same_width : Width → Width → Bool
same_width a b = width_bits a == width_bits b

abbrev pub same_scalar : Scalar → Scalar → Bool
same_scalar (Int a) (Int b) = same_width a b
same_scalar Ptr Ptr = true
same_scalar _ _ = false

abbrev pub same_type : Option Scalar → Option Scalar → Bool
same_type None None = true
same_type (Some a) (Some b) = same_scalar a b
same_type _ _ = false

abbrev pub has_type : NumberedProgram → List Scalar → Scalar → Value → Bool
has_type p types s (value.Register r) = same_type (slice_get types r) (Some s)
has_type p types s (value.Const n) = nat_lt n (modulus (width_of s))
has_type p types s (value.Global g) = same_scalar s Ptr && nat_lt g (length p.globals)
has_type p types s (value.Function f) = false

abbrev pub each_has_type : NumberedProgram → List Scalar → List Scalar → List Value → Bool
each_has_type p types params args = list_all (λ e. has_type p types e.0 e.1) (zip params args)

abbrev pub have_types : NumberedProgram → List Scalar → List Scalar → List Value → Bool
have_types p types params args = (length params == length args) && each_has_type p types params args

abbrev pub begins_thread : Option Function → Bool
begins_thread None = false
begins_thread (Some f) = (f.params == 1) && (same_type (slice_get f.registers 0) (Some Ptr) && same_type f.result (Some Ptr))

abbrev pub starts_thread : NumberedProgram → Value → Bool
starts_thread p (value.Function f) = begins_thread (slice_get p.functions f)
starts_thread p _ = false

abbrev pub create_fits : NumberedProgram → List Scalar → List Value → Bool
create_fits p types (at ∷ attribute ∷ function ∷ argument ∷ []) =
    has_type p types Ptr at && (has_type p types Ptr attribute && (starts_thread p function && has_type p types Ptr argument))
create_fits p types _ = false

abbrev pub library_fits : NumberedProgram → List Scalar → LibraryCall → List Value → Bool
library_fits p types PthreadCreate args = create_fits p types args
library_fits p types k args = have_types p types (parameters_of k) args

abbrev pub return_fits : NumberedProgram → List Scalar → Option Scalar → Option Value → Bool
return_fits p types None None = true
return_fits p types (Some s) (Some v) = has_type p types s v
return_fits p types _ _ = false

abbrev pub has_width : Width → Option Scalar → Bool
has_width w None = false
has_width w (Some s) = same_width (width_of s) w

abbrev pub both_have_type : NumberedProgram → List Scalar → Scalar → Value → Value → Bool
both_have_type p types s a b = has_type p types s a && has_type p types s b

abbrev pub binary_fits : NumberedProgram → List Scalar → Option Scalar → Width → Value → Value → Bool
binary_fits p types result w a b = same_type result (Some (Int w)) && both_have_type p types (Int w) a b

abbrev pub compared_fit : NumberedProgram → List Scalar → Width → Value → Value → Bool
compared_fit p types w a b = both_have_type p types (Int w) a b || (same_width w W64 && both_have_type p types Ptr a b)

abbrev pub stored_fits : NumberedProgram → List Scalar → Width → Value → Bool
stored_fits p types w v = has_type p types (Int w) v || (same_width w W64 && has_type p types Ptr v)

abbrev pub narrower : Width → Width → Bool
narrower a b = nat_lt (width_bits a) (width_bits b)

abbrev pub chosen_fit : NumberedProgram → List Scalar → Option Scalar → Value → Value → Bool
chosen_fit p types None a b = false
chosen_fit p types (Some s) a b = both_have_type p types s a b

abbrev pub incoming_fits : NumberedProgram → List Scalar → Scalar → Incoming → Bool
incoming_fits p types s i = nat_lt i.block.0 (length p.blocks) && has_type p types s i.value

abbrev pub all_incoming_fit : NumberedProgram → List Scalar → Option Scalar → List Incoming → Bool
all_incoming_fit p types None from = false
all_incoming_fit p types (Some s) from = list_all (incoming_fits p types s) from

abbrev pub cases_fit : Width → List Case → Bool
cases_fit w cases = list_all (λ (c : Case). nat_lt c.value (modulus w)) cases

abbrev pub indices_fit : NumberedProgram → List Scalar → List Index → Bool
indices_fit p types indices = list_all (λ (i : Index). has_type p types (Int i.width) i.value) indices

abbrev pub call_fits : NumberedProgram → List Scalar → Option Scalar → ℕ → List Value → Bool
call_fits p types result f args = same_type result (result_of p f) && (nat_lt f (length p.functions) && have_types p types (parameter_types p f) args)

-- an operation on integers, a comparison, a choice, or a phi
abbrev pub value_op_fits : NumberedProgram → List Scalar → Option Scalar → Op → Bool
value_op_fits p types result (op.Add w a b) = binary_fits p types result w a b
value_op_fits p types result (op.Sub w a b) = binary_fits p types result w a b
value_op_fits p types result (op.Mul w a b) = binary_fits p types result w a b
value_op_fits p types result (op.Divide d w a b) = binary_fits p types result w a b
value_op_fits p types result (op.Shift s w a b) = binary_fits p types result w a b
value_op_fits p types result (op.Bits o w a b) = binary_fits p types result w a b
value_op_fits p types result (op.Compare c w a b) = same_type result (Some (Int W1)) && compared_fit p types w a b
value_op_fits p types result (op.Select c a b) = has_type p types (Int W1) c && chosen_fit p types result a b
value_op_fits p types result (op.Phi from) = all_incoming_fit p types result from
value_op_fits p types result _ = false

abbrev pub cast_fits : NumberedProgram → List Scalar → Option Scalar → Op → Bool
cast_fits p types result (op.Trunc from to v) = same_type result (Some (Int to)) && (narrower to from && has_type p types (Int from) v)
cast_fits p types result (op.Zext from to v) = same_type result (Some (Int to)) && (narrower from to && has_type p types (Int from) v)
cast_fits p types result (op.Sext from to v) = same_type result (Some (Int to)) && (narrower from to && has_type p types (Int from) v)
cast_fits p types result (op.PtrToInt from to v) = same_type result (Some (Int to)) && (same_width from W64 && has_type p types Ptr v)
cast_fits p types result (op.IntToPtr from to v) = same_type result (Some Ptr) && (same_width to W64 && has_type p types (Int from) v)
cast_fits p types result _ = false

abbrev pub memory_op_fits : NumberedProgram → List Scalar → Option Scalar → Op → Bool
memory_op_fits p types result (op.Alloca bytes) = same_type result (Some Ptr)
memory_op_fits p types result (op.Load w from) = has_width w result && has_type p types Ptr from
memory_op_fits p types result (op.Store w v at) = same_type result None && (stored_fits p types w v && has_type p types Ptr at)
memory_op_fits p types result (op.Gep base indices) = same_type result (Some Ptr) && (has_type p types Ptr base && indices_fit p types indices)
memory_op_fits p types result _ = false

-- a call, or an operation that ends a block
abbrev pub control_op_fits : NumberedProgram → List Scalar → Option Scalar → Option Scalar → Op → Bool
control_op_fits p types returns result (op.Br to) = same_type result None
control_op_fits p types returns result (op.CondBr c a b) = same_type result None && has_type p types (Int W1) c
control_op_fits p types returns result (op.Switch w on other cases) = same_type result None && (has_type p types (Int w) on && cases_fit w cases)
control_op_fits p types returns result (op.Ret v) = same_type result None && return_fits p types returns v
control_op_fits p types returns result op.Unreachable = same_type result None
control_op_fits p types returns result (op.Call f args) = call_fits p types result f args
control_op_fits p types returns result (op.CallLibrary k args) = same_type result (returned_by k) && library_fits p types k args
control_op_fits p types returns result _ = false

-- decides FitsOp
unfoldable pub op_fits : NumberedProgram → List Scalar → Option Scalar → Option Scalar → Op → Bool
op_fits p types returns result (op.Add w a b) = value_op_fits p types result (op.Add w a b)
op_fits p types returns result (op.Sub w a b) = value_op_fits p types result (op.Sub w a b)
op_fits p types returns result (op.Mul w a b) = value_op_fits p types result (op.Mul w a b)
op_fits p types returns result (op.Divide d w a b) = value_op_fits p types result (op.Divide d w a b)
op_fits p types returns result (op.Shift s w a b) = value_op_fits p types result (op.Shift s w a b)
op_fits p types returns result (op.Bits o w a b) = value_op_fits p types result (op.Bits o w a b)
op_fits p types returns result (op.Compare c w a b) = value_op_fits p types result (op.Compare c w a b)
op_fits p types returns result (op.Select c a b) = value_op_fits p types result (op.Select c a b)
op_fits p types returns result (op.Phi from) = value_op_fits p types result (op.Phi from)
op_fits p types returns result (op.Trunc from to v) = cast_fits p types result (op.Trunc from to v)
op_fits p types returns result (op.Zext from to v) = cast_fits p types result (op.Zext from to v)
op_fits p types returns result (op.Sext from to v) = cast_fits p types result (op.Sext from to v)
op_fits p types returns result (op.PtrToInt from to v) = cast_fits p types result (op.PtrToInt from to v)
op_fits p types returns result (op.IntToPtr from to v) = cast_fits p types result (op.IntToPtr from to v)
op_fits p types returns result (op.Alloca bytes) = memory_op_fits p types result (op.Alloca bytes)
op_fits p types returns result (op.Load w from) = memory_op_fits p types result (op.Load w from)
op_fits p types returns result (op.Store w v at) = memory_op_fits p types result (op.Store w v at)
op_fits p types returns result (op.Gep base indices) = memory_op_fits p types result (op.Gep base indices)
op_fits p types returns result o = control_op_fits p types returns result o
