use Rattle.std.proofs.Common.{sym, ap, ◌∙◌}
use Rattle.std.specs.List.{flat_map}
use Rattle.pg_read_ast.specs.Views.{val_of}
use Rattle.pg_check_rules.specs.Written.{own_demands}
use Rattle.pg_check_rules.specs.TypeConditions.{unmet}
use Rattle.pg_check_rules.specs.ValueConditions.{inner_indices, wrong_use}
use Rattle.pg_check_rules.specs.Earliest.{earliest}
use Rattle.pg_check_values.proofs.EarliestPlaces.{both}
use Rattle.pg_check_values.proofs.uses.wrong_use.Goals as goal

pub returns : goal.returns
unfolding wrong_use
returns c = record {
  place = λ g s.
      let v = val_of c.args.used.value.now in
      both _ _ _ _ _ c.earlier-2.ensures (c.in_ok-own.ensures.place g s)
      (both _ _ _ _ _ c.earlier.ensures
      (c.in_ok-asked.ensures.place ∙ ap (λ types. earliest (flat_map (unmet types) (own_demands v))) (sym s.types))
      (c.in_ok-indices.ensures.place ∙ ap (λ types. earliest (inner_indices types v)) (sym s.types)));
}
