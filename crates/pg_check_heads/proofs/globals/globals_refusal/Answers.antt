use Rattle.std.proofs.Common.{IfOk, map, refl, sym, ap, subst}
use Rattle.std.specs.List.{enumerate_from}
use Rattle.pg_read_ast.specs.Views.{global_of, tree_of}
use Rattle.pg_check_types.specs.NumberedTypes.{items_of}
use Rattle.pg_check_rules.specs.Earliest.{IsFirstIn}
use Rattle.pg_check_rules.specs.Conditions.{all_of, global_refused}
use Rattle.pg_check_heads.proofs.OutsideScopes.{outside_scope}
use Rattle.pg_check_heads.proofs.globals.globals_refusal.Goals as goal

pub returns : goal.returns
returns c = record {
  first = λ k.
      let m = tree_of c.args.symbols.now.tree.now in
      subst (λ xs. IfOk c.refusal_over.result (λ o. IsFirstIn (all_of (global_refused m) (enumerate_from 0 (map global_of xs))) o)) c.as_slice.ensures.value
      (c.refusal_over.ensures.first m (outside_scope _ m refl (ap (λ xs. items_of xs) (sym c.requires)) c.new-registers.ensures.empty refl)
      (ap (λ xs. map global_of xs) (sym c.as_slice.ensures.value)) k);
}
