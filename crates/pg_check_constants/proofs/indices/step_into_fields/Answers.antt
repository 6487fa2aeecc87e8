use Rattle.std.proofs.Common.{IfSome, sym, ap, subst, ◌∙◌, arith}
use Rattle.pg_ir.specs.declared.value.Scale.TheVariants.{Field}
use Rattle.pg_check_types.specs.Table.{type_at}
use Rattle.pg_check_types.specs.NumberedTypes.{table_of}
use Rattle.pg_check_rules.specs.Fields.{IsChosen}
use Rattle.pg_check_rules.proofs.FieldLists.{in_table, no_offset}
use Rattle.pg_check_constants.proofs.indices.step_into_fields.Goals as goal

pub offset_behind-requires-clause-fits : goal.offset_behind-requires-clause-fits
offset_behind-requires-clause-fits c =
    let table = table_of c.args.types.now in
    let t = type_at table c.args.number in
    let l : IsChosen table t c.args.index c.in-Some.last = subst (λ o. IfSome o (IsChosen table t c.args.index)) c.in-Some.is c.chosen_of.ensures.chosen in
    omega (arith, l.ends, c.requires.fits)

pub returns-in-Some-clause-scale : goal.returns-in-Some-clause-scale
returns-in-Some-clause-scale c =
    let table = table_of c.args.types.now in
    let t = type_at table c.args.number in
    let l : IsChosen table t c.args.index c.in-Some.last = subst (λ o. IfSome o (IsChosen table t c.args.index)) c.in-Some.is c.chosen_of.ensures.chosen in
    ap (λ n. Field n) (c.offset_behind.ensures ∙ sym l.offset)

pub returns-in-Some-clause-next : goal.returns-in-Some-clause-next
returns-in-Some-clause-next c =
    let table = table_of c.args.types.now in
    let t = type_at table c.args.number in
    let l : IsChosen table t c.args.index c.in-Some.last = subst (λ o. IfSome o (IsChosen table t c.args.index)) c.in-Some.is c.chosen_of.ensures.chosen in
    in_table table c.in-Some.last.field l.field ∙ sym l.chosen

pub returns-in-None-clause-scale : goal.returns-in-None-clause-scale
returns-in-None-clause-scale c =
    ap (λ n. Field n) (no_offset (type_at (table_of c.args.types.now) c.args.number) c.args.index (c.chosen_of.ensures.none c.in-None.is))

pub returns-in-None-clause-next : goal.returns-in-None-clause-next
returns-in-None-clause-next c = sym (c.chosen_of.ensures.none c.in-None.is)
