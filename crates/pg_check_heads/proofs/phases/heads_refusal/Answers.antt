use Rattle.std.proofs.Common.{map, ap, subst, ◌∙◌}
use Rattle.std.specs.List.{enumerate_from}
use Rattle.pg_read_ast.specs.Numbers.{numbered}
use Rattle.pg_read_ast.specs.Views.{declare_of, define_of, tree_of}
use Rattle.pg_check_rules.specs.Earliest.{IsFirstIn}
use Rattle.pg_check_rules.specs.Conditions.{all_of, declaration_refused, definition_refused, heads_refused}
use Rattle.pg_check_rules.proofs.Parts.{map_twice}
use Rattle.pg_check_heads.proofs.phases.heads_refusal.Goals as goal

pub returns : goal.returns
unfolding heads_refused
returns c = record {
  first = λ t s.
      let m = tree_of c.args.tree.now in
      c.earlier_refusal.ensures (all_of (declaration_refused m) m.declares) (all_of (definition_refused m) (enumerate_from 0 (map (numbered m.types) m.functions)))
      (subst (λ ds. IsFirstIn (all_of (declaration_refused m) (map declare_of ds)) c.in_ok-declared.declared) c.as_slice.ensures.value (c.in_ok-declared.ensures.first m t s))
      (subst (λ ds. IsFirstIn (all_of (definition_refused m) (enumerate_from 0 ds)) c.in_ok-defined.defined)
      (ap (λ ds. map (λ d. numbered m.types (define_of d)) ds) c.as_slice-2.ensures.value ∙ map_twice (numbered m.types) define_of c.args.tree.now.functions.items)
      (c.in_ok-defined.ensures.first m t s));
}
