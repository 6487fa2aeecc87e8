use Rattle.std.proofs.Common.{length, IfSome, sym, ap, subst, ◌∙◌, arith}
use Rattle.pg_check_types.specs.Layout.{field_list}
use Rattle.pg_check_types.specs.Table.{type_at, IsBeginning}
use Rattle.pg_check_types.specs.NumberedTypes.{table_of}
use Rattle.pg_check_types.proofs.Fronts.{own_front, one_shorter, field_count}
use Rattle.pg_check_rules.specs.Fields.{IsLast}
use Rattle.pg_check_rules.proofs.fields.front_of.Goals as goal

pub unreachable-requires : goal.unreachable-requires
unreachable-requires c =
    let none = ap (λ ts. length ts) (c.last_field.ensures.none c.in-None.is) in
    omega (arith, none, c.requires.some)

pub returns-clause-shorter : goal.returns-clause-shorter
returns-clause-shorter c =
    let table = table_of c.args.types.now in
    let front = type_at table c.in-Some.last.front in
    let l : IsLast table c.args.number c.in-Some.last = subst (λ o. IfSome o (IsLast table c.args.number)) c.in-Some.is c.last_field.ensures.last in
    record {
      below = l.below;
      beginning = subst (λ t. IsBeginning front t) (sym l.whole) (one_shorter front front (type_at table c.in-Some.last.field) (own_front front));
    }

pub returns-clause-fields : goal.returns-clause-fields
returns-clause-fields c =
    let table = table_of c.args.types.now in
    let l : IsLast table c.args.number c.in-Some.last = subst (λ o. IfSome o (IsLast table c.args.number)) c.in-Some.is c.last_field.ensures.last in
    sym (field_count (type_at table c.in-Some.last.front) (type_at table c.in-Some.last.field)) ∙ ap (λ t. length (field_list t)) (sym l.whole)
