use Rattle.std.proofs.Common.{◌++◌, map, ap, subst, ◌∙◌}
use Rattle.std.specs.List.{flat_map}
use Rattle.pg_read_ast.specs.Views.{ty_of, type_item_of}
use Rattle.pg_check_types.proofs.Resolutions.{if_ok}
use Rattle.pg_check_rules.specs.Nodes.{tys_behind}
use Rattle.pg_check_rules.specs.Written.{types_within}
use Rattle.pg_check_rules.specs.declared.fault.CheckKind.TheVariants.{WrongType}
use Rattle.pg_check_rules.specs.Earliest.{only, joined, IsFirstIn}
use Rattle.pg_check_heads.specs.Circles.{circle_at}
use Rattle.pg_check_heads.proofs.circles.circles_in.Goals as goal

pub returns : goal.returns
returns c = λ p text k t.
    let within =
    ap (λ ts. tys_behind ts) c.as_slice.ensures.value ∙ c.in_ok-add_types_within.ensures ∙ ap (λ ts. tys_behind ts ++ types_within (ty_of c.args.item.now.ty)) c.new-within.ensures.items in
    if_ok c.circles_among.result
    (λ o h. subst (λ ts. IsFirstIn (joined p (only WrongType (flat_map (circle_at (map type_item_of c.args.ranked.now.items.now) text) ts))) o) within h)
    (c.circles_among.ensures p text k t)
