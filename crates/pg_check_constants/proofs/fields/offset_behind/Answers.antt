use Rattle.std.proofs.Common.{◌+◌, ◌≤◌, ap, sym, subst, ◌∙◌, arith}
use Rattle.pg_num.specs.declared.limits.TheConstants.{SIZE_LIMIT}
use Rattle.pg_check_types.specs.Layout.{round_up, alignment_of, size_of}
use Rattle.pg_check_types.specs.Table.{type_at}
use Rattle.pg_check_types.specs.NumberedTypes.{table_of}
use Rattle.pg_check_constants.proofs.Sizes.{end_kept, end_small}
use Rattle.pg_check_constants.proofs.fields.offset_behind.Goals as goal

pub field_range-range-requires-clause-at : goal.field_range-range-requires-clause-at
field_range-range-requires-clause-at c =
    let table = table_of c.args.types.now in
    let front = type_at table c.args.last.front in
    let field = type_at table c.args.last.field in
    omega (arith, end_kept front field c.layout_of_number-front.result.fields_end c.layout_of_number-front.ensures.layout.fields_end c.requires.fits, end_small front field c.requires.fits)

pub field_range-range-requires-clause-fits : goal.field_range-range-requires-clause-fits
field_range-range-requires-clause-fits c =
    let table = table_of c.args.types.now in
    let front = type_at table c.args.last.front in
    let field = type_at table c.args.last.field in
    subst (λ n. round_up n (alignment_of field) + size_of field ≤ SIZE_LIMIT)
    (sym (end_kept front field c.layout_of_number-front.result.fields_end c.layout_of_number-front.ensures.layout.fields_end c.requires.fits)) c.requires.fits

pub returns : goal.returns
returns c =
    let table = table_of c.args.types.now in
    let front = type_at table c.args.last.front in
    let field = type_at table c.args.last.field in
    c.field_range-range.ensures.start
    ∙ ap (λ n. round_up n (alignment_of field))
    (end_kept front field c.layout_of_number-front.result.fields_end c.layout_of_number-front.ensures.layout.fields_end c.requires.fits)
