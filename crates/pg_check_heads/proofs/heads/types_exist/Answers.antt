use Rattle.std.proofs.Common.{◌&&◌, sym, ap, ◌∙◌}
use Rattle.std.specs.List.{flat_map}
use Rattle.pg_check_types.specs.NumberedTypes.{named_types}
use Rattle.pg_check_rules.specs.Earliest.{earliest}
use Rattle.pg_check_rules.specs.Written.{types_within}
use Rattle.pg_check_rules.specs.TypeConditions.{unknown_type, array_count, unknown_types, wrong_counts}
use Rattle.pg_check_rules.specs.Conditions.{is_nowhere}
use Rattle.pg_check_heads.proofs.Nowhere.{nowhere}
use Rattle.pg_check_heads.proofs.heads.types_exist.Goals as goal

pub returns-then-is_none : goal.returns-then-is_none
unfolding unknown_types wrong_counts
returns-then-is_none c = λ ts h.
    let items = named_types c.args.types.now in
    let names = nowhere (flat_map (unknown_type items) (flat_map types_within ts)) c.unknown_types.result c.is_none.result
    (c.unknown_types.ensures ∙ ap (λ us. earliest (flat_map (unknown_type items) us)) h) c.is_none.ensures in
    let counts = nowhere (flat_map array_count (flat_map types_within ts)) c.wrong_counts.result c.is_none-then-is_none.result
    (c.wrong_counts.ensures ∙ ap (λ us. earliest (flat_map array_count us)) h) c.is_none-then-is_none.ensures in
    counts ∙ ap (λ b. b && is_nowhere (flat_map array_count (flat_map types_within ts))) (sym c.if-is_none.true ∙ names)

pub returns-else-is_none : goal.returns-else-is_none
unfolding unknown_types wrong_counts
returns-else-is_none c = λ ts h.
    let items = named_types c.args.types.now in
    let names = nowhere (flat_map (unknown_type items) (flat_map types_within ts)) c.unknown_types.result c.is_none.result
    (c.unknown_types.ensures ∙ ap (λ us. earliest (flat_map (unknown_type items) us)) h) c.is_none.ensures in
    c.if-is_none.false ∙ ap (λ b. b && is_nowhere (flat_map array_count (flat_map types_within ts))) (sym c.if-is_none.false ∙ names)
