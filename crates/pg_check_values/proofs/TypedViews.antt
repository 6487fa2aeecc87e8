-- A value and the type that is written before it.
use Rattle.std.proofs.Common.{◌≡◌, ap}
use Rattle.pg_read_ast.specs.declared.values.TypedVal.{TypedVal, fold_out-TypedVal}
use Rattle.pg_read_ast.specs.Syntax.{Val, Typed}
use Rattle.pg_read_ast.specs.Views.{ty_of, val_of, typed_of, val_step, typed_step}

pub typed_ty : (t : TypedVal) → (typed_of t).ty ≡ ty_of t.ty
typed_ty t = ap (λ (x : Typed). x.ty) (fold_out-TypedVal Val Typed val_step typed_step t)

pub typed_value : (t : TypedVal) → (typed_of t).value ≡ val_of t.value
typed_value t = ap (λ (x : Typed). x.value) (fold_out-TypedVal Val Typed val_step typed_step t)
