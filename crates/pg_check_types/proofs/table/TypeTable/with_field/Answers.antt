use Rattle.std.proofs.Common.{length, IfSome, sym, subst, arith}
use Rattle.pg_check_types.specs.Resolved.{MoreFields}
use Rattle.pg_check_types.specs.Table.{types_of, type_at, IsShorter}
use Rattle.pg_check_types.proofs.Fronts.{one_shorter}
use Rattle.pg_check_types.proofs.TableTypes.{types_count, fields_before}
use Rattle.pg_check_types.proofs.table.TypeTable.with_field.Goals as goal

pub field_layout-layout-requires : goal.field_layout-layout-requires
field_layout-layout-requires c =
    let es = c.args.self.now in
    omega (
      arith,
      fields_before es c.args.front c.len-count.ensures.table c.requires.front,
      types_count es,
      c.requires.front,
      c.len-count.ensures.length,
      c.len-count.type_inv,
      c.layout.ensures.layout.fields,
    )

pub add-requires-clause-shorter : goal.add-requires-clause-shorter
add-requires-clause-shorter c =
    let es = c.args.self.now in
    let types = types_of es in
    let front = type_at types c.args.front in
    let field = type_at types c.args.field in
    let shorter = c.shorter_behind-shorter.result in
    subst (λ o. IfSome o (IsShorter types (MoreFields front field) (length es))) (sym c.field_layout-layout.ensures.shorter)
    (record {
      below = omega (arith, c.shorter_behind-shorter.ensures.near, c.requires.front, types_count es);
      beginning = one_shorter (type_at types shorter) front field c.shorter_behind-shorter.ensures.beginning;
    })
