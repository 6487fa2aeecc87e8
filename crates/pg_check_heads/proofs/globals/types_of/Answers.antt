use Rattle.std.proofs.Common.{◌++◌, ◌∷◌, ap, ◌∙◌}
use Rattle.std.specs.List.{flat_map}
use Rattle.pg_read_ast.specs.Views.{ty_of, const_of}
use Rattle.pg_check_rules.specs.Nodes.{tys_behind}
use Rattle.pg_check_rules.specs.Written.{const_uses, const_types}
use Rattle.pg_check_heads.specs.Initialisers.{own_row}
use Rattle.pg_check_heads.proofs.ConstantRows.{one_and_others}
use Rattle.pg_check_heads.proofs.GlobalParts.{own_rows}
use Rattle.pg_check_heads.proofs.globals.types_of.Goals as goal

pub returns : goal.returns
returns c =
    let ty = ty_of c.args.item.now.ty in
    let value = const_of c.args.item.now.value in
    let types = const_types value in
    c.in_ok-add_use_types.ensures
    ∙ ap (λ us. tys_behind c.add_types.new.all.items ++ flat_map own_row us) c.requires
    ∙ ap (λ ts. ts ++ flat_map own_row (const_uses ty value))
    (one_and_others _ _ _ types _ c.in_ok-push.ensures.items c.in_ok-add_types.ensures ∙ ap (λ ts. tys_behind ts ++ (ty ∷ types)) c.new-all.ensures.items)
    ∙ ap (λ ts. ty ∷ (types ++ ts)) (own_rows (const_uses ty value))
