use Rattle.std.proofs.Common.{◌≡◌, ℕ, List, Result, IfOk, sym, subst}
use Rattle.pg_ir.specs.declared.instr.Op as numbered_op
use Rattle.pg_read_ast.specs.declared.ops.OpNode.{OpNode}
use Rattle.pg_read_ast.specs.Syntax.{NamedType}
use Rattle.pg_read_ast.specs.Views.{op_of}
use Rattle.pg_check_rules.specs.ValueConditions.{Scope}
use Rattle.pg_check_rules.specs.Numbered.{op_at}
use Rattle.pg_check_program.specs.Room.{OpFits}
use Rattle.pg_check_program.specs.ScopeNames.{scope_in}
use Rattle.pg_check_program.specs.ScopeSizes.{types_in}
use Rattle.pg_check_program.proofs.instructions.op_at.Goals as goal

fits_as : (types : List NamedType) {a b : OpNode} → a ≡ b → OpFits types (op_of a) → OpFits types (op_of b)
fits_as types e h = subst (λ o. OpFits types (op_of o)) e h

made_as : {E : Type 0} (g : Scope) (first : ℕ) (r : Result numbered_op.Op E) {a b : OpNode} → a ≡ b → IfOk r (λ o. o ≡ op_at g first (op_of b))
    → IfOk r (λ o. o ≡ op_at g first (op_of a))
made_as g first r e h = subst (λ o. IfOk r (λ x. x ≡ op_at g first (op_of o))) (sym e) h

pub returns-in-Binary : goal.returns-in-Binary
unfolding op_at
returns-in-Binary c = record {
  op = λ names. made_as (scope_in c.args.scope.now names) c.args.scope.now.first c.binary_at.result c.in-Binary.is (c.binary_at.ensures.op names);
}

pub returns-in-Icmp : goal.returns-in-Icmp
unfolding op_at
returns-in-Icmp c = record {
  op = λ names. made_as (scope_in c.args.scope.now names) c.args.scope.now.first c.compare_at.result c.in-Icmp.is (c.compare_at.ensures.op names);
}

pub returns-in-Cast : goal.returns-in-Cast
unfolding op_at
returns-in-Cast c = record {
  op = λ names. made_as (scope_in c.args.scope.now names) c.args.scope.now.first c.cast_at.result c.in-Cast.is (c.cast_at.ensures.op names);
}

pub returns-in-Select : goal.returns-in-Select
unfolding op_at
returns-in-Select c = record {
  op = λ names. made_as (scope_in c.args.scope.now names) c.args.scope.now.first c.select_at.result c.in-Select.is (c.select_at.ensures.op names);
}

pub returns-in-CondBr : goal.returns-in-CondBr
unfolding op_at
returns-in-CondBr c = record {
  op = λ names. made_as (scope_in c.args.scope.now names) c.args.scope.now.first c.conditional_branch_at.result c.in-CondBr.is (c.conditional_branch_at.ensures.op names);
}

pub returns-in-Ret : goal.returns-in-Ret
unfolding op_at
returns-in-Ret c = record {
  op = λ names. made_as (scope_in c.args.scope.now names) c.args.scope.now.first c.return_at.result c.in-Ret.is (c.return_at.ensures.op names);
}

pub returns-in-Alloca : goal.returns-in-Alloca
unfolding op_at
returns-in-Alloca c = record {
  op = λ names. made_as (scope_in c.args.scope.now names) c.args.scope.now.first c.alloca_at.result c.in-Alloca.is (c.alloca_at.ensures.op names);
}

pub returns-in-Load : goal.returns-in-Load
unfolding op_at
returns-in-Load c = record {
  op = λ names. made_as (scope_in c.args.scope.now names) c.args.scope.now.first c.load_at.result c.in-Load.is (c.load_at.ensures.op names);
}

pub returns-in-Store : goal.returns-in-Store
unfolding op_at
returns-in-Store c = record {
  op = λ names. made_as (scope_in c.args.scope.now names) c.args.scope.now.first c.store_at.result c.in-Store.is (c.store_at.ensures.op names);
}

pub binary_at-requires-clause-left : goal.binary_at-requires-clause-left
unfolding OpFits
binary_at-requires-clause-left c = (fits_as (types_in c.args.scope.now) c.in-Binary.is c.requires.fits).0

pub binary_at-requires-clause-right : goal.binary_at-requires-clause-right
unfolding OpFits
binary_at-requires-clause-right c = (fits_as (types_in c.args.scope.now) c.in-Binary.is c.requires.fits).1

pub compare_at-requires-clause-left : goal.compare_at-requires-clause-left
unfolding OpFits
compare_at-requires-clause-left c = (fits_as (types_in c.args.scope.now) c.in-Icmp.is c.requires.fits).0

pub compare_at-requires-clause-right : goal.compare_at-requires-clause-right
unfolding OpFits
compare_at-requires-clause-right c = (fits_as (types_in c.args.scope.now) c.in-Icmp.is c.requires.fits).1

pub cast_at-requires : goal.cast_at-requires
unfolding OpFits
cast_at-requires c = record { value = fits_as (types_in c.args.scope.now) c.in-Cast.is c.requires.fits }

pub select_at-requires-clause-cond : goal.select_at-requires-clause-cond
unfolding OpFits
select_at-requires-clause-cond c = (fits_as (types_in c.args.scope.now) c.in-Select.is c.requires.fits).0

pub select_at-requires-clause-first : goal.select_at-requires-clause-first
unfolding OpFits
select_at-requires-clause-first c = (fits_as (types_in c.args.scope.now) c.in-Select.is c.requires.fits).1

pub select_at-requires-clause-second : goal.select_at-requires-clause-second
unfolding OpFits
select_at-requires-clause-second c = (fits_as (types_in c.args.scope.now) c.in-Select.is c.requires.fits).2

pub conditional_branch_at-requires : goal.conditional_branch_at-requires
unfolding OpFits
conditional_branch_at-requires c = record { cond = fits_as (types_in c.args.scope.now) c.in-CondBr.is c.requires.fits }

pub switch_at-requires : goal.switch_at-requires
unfolding OpFits
switch_at-requires c = record { value = fits_as (types_in c.args.scope.now) c.in-Switch.is c.requires.fits }

pub return_at-requires : goal.return_at-requires
unfolding OpFits
return_at-requires c = record { value = fits_as (types_in c.args.scope.now) c.in-Ret.is c.requires.fits }

pub alloca_at-requires : goal.alloca_at-requires
unfolding OpFits
alloca_at-requires c = record { ty = fits_as (types_in c.args.scope.now) c.in-Alloca.is c.requires.fits }

pub load_at-requires : goal.load_at-requires
unfolding OpFits
load_at-requires c = record { pointer = fits_as (types_in c.args.scope.now) c.in-Load.is c.requires.fits }

pub store_at-requires-clause-value : goal.store_at-requires-clause-value
unfolding OpFits
store_at-requires-clause-value c = (fits_as (types_in c.args.scope.now) c.in-Store.is c.requires.fits).0

pub store_at-requires-clause-pointer : goal.store_at-requires-clause-pointer
unfolding OpFits
store_at-requires-clause-pointer c = (fits_as (types_in c.args.scope.now) c.in-Store.is c.requires.fits).1
