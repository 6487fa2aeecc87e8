use Rattle.std.proofs.Common.{IfSome, sym, subst, arith}
use Rattle.pg_check_types.specs.Table.{type_at}
use Rattle.pg_check_types.specs.NumberedTypes.{table_of}
use Rattle.pg_check_rules.specs.Fields.{IsLast, FieldsBehind}
use Rattle.pg_check_rules.proofs.FieldLists.{one_behind}
use Rattle.pg_check_rules.proofs.fields.fields_of.Goals as goal

pub fields-preserved : goal.fields-preserved
fields-preserved c =
    let table = table_of c.args.types.now in
    let whole = type_at table c.args.number in
    let l : IsLast table c.fields.rest c.in-Some.last = subst (λ o. IfSome o (IsLast table c.fields.rest)) c.in-Some.is c.last_field.ensures.last in
    record {
      within = omega (arith, l.below, c.fields.invariant.within);
      behind = subst (λ fs. FieldsBehind table (type_at table c.in-Some.last.front) whole fs) (sym c.in_ok-push-in-Some.ensures.items)
          (one_behind table whole c.fields.rest c.in-Some.last c.fields.fields.items l c.fields.invariant.behind);
    }
