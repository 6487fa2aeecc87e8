use Rattle.std.proofs.Common.{IfSome, sym, subst, arith}
use Rattle.pg_check_types.specs.Table.{types_of, type_at, IsBeginning, IsShorter}
use Rattle.pg_check_types.proofs.Fronts.{front_fields, shorter_or}
use Rattle.pg_check_types.proofs.table.TypeTable.shorter_behind.Goals as goal

pub two_back-requires-clause-fields : goal.two_back-requires-clause-fields
two_back-requires-clause-fields c =
    let types = types_of c.args.self.now in
    let front = type_at types c.args.front in
    let back : IsShorter types front c.args.front c.in-Some.next = subst (λ o. IfSome o (IsShorter types front c.args.front)) c.in-Some.is c.layout-near.ensures.shorter in
    omega (arith, front_fields (type_at types c.in-Some.next) front back.beginning, c.layout-near.ensures.layout.fields)

pub returns-in-Some-clause-beginning : goal.returns-in-Some-clause-beginning
returns-in-Some-clause-beginning c =
    let types = types_of c.args.self.now in
    let front = type_at types c.args.front in
    let back : IsShorter types front c.args.front c.in-Some.next = subst (λ o. IfSome o (IsShorter types front c.args.front)) c.in-Some.is c.layout-near.ensures.shorter in
    subst (λ n. IsBeginning (type_at types n) front) (sym c.unwrap_or.ensures) (shorter_or types c.args.front c.in-Some.next c.two_back.result back.beginning c.two_back.ensures)
