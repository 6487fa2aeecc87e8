use Rattle.std.proofs.Common.{◌∷◌, ◌++◌, map, sym, ap, ◌∙◌}
use Rattle.pg_read_ast.specs.Syntax.{Typed}
use Rattle.pg_read_ast.specs.Views.{ty_of, val_of, typed_of}
use Rattle.pg_check_rules.specs.Nodes.{tys_behind}
use Rattle.pg_check_rules.specs.Written.{own_types}
use Rattle.pg_check_values.proofs.TypeRows.{on_ok, with_others}
use Rattle.pg_check_values.proofs.InnerValues.{gep_types}
use Rattle.pg_check_values.proofs.own_types.add_own.Goals as goal

pub returns-in_ok-add_two-in-GetElementPtr : goal.returns-in_ok-add_two-in-GetElementPtr
returns-in_ok-add_two-in-GetElementPtr c =
    let p = c.in-GetElementPtr in
    let front = tys_behind c.args.all.now.items in
    on_ok c.add_index_types.result
    (λ h. with_others front _ _ (ty_of p.ty) (ty_of p.pointer) _ c.in_ok-add_two-in-GetElementPtr.ensures h
    ∙ ap (λ is. front ++ (ty_of p.ty ∷ ty_of p.pointer ∷ map (λ (i : Typed). i.ty) (map typed_of is))) c.as_slice.ensures.value
    ∙ ap (λ ts. front ++ ts) (sym (gep_types p.field-0 p.ty p.pointer p.field-3 p.indices))
    ∙ ap (λ x. front ++ own_types (val_of x)) (sym p.is))
    c.add_index_types.ensures
