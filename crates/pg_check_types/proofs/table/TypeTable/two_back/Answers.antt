use Rattle.std.proofs.Common.{IfSome, subst, arith}
use Rattle.pg_check_types.specs.Table.{types_of, type_at, IsShorter}
use Rattle.pg_check_types.proofs.Fronts.{front_fields}
use Rattle.pg_check_types.proofs.table.TypeTable.two_back.Goals as goal

pub overflow_sub-steps-in-Some : goal.overflow_sub-steps-in-Some
overflow_sub-steps-in-Some c =
    let types = types_of c.args.self.now in
    let next = type_at types c.args.next in
    let back : IsShorter types next c.args.next c.in-Some.last = subst (λ o. IfSome o (IsShorter types next c.args.next)) c.in-Some.is c.layout-middle.ensures.shorter in
    omega (arith, front_fields (type_at types c.in-Some.last) next back.beginning, c.layout.ensures.layout.fields, c.layout-middle.ensures.layout.fields)
