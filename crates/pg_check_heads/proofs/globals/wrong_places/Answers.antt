use Rattle.std.proofs.Common.{sym, ap, ◌∙◌}
use Rattle.std.specs.List.{flat_map}
use Rattle.pg_read_ast.specs.Views.{ty_of, const_of, global_of}
use Rattle.pg_check_types.specs.Resolved.{resolved}
use Rattle.pg_check_types.specs.NumberedTypes.{named_types}
use Rattle.pg_check_rules.specs.Nodes.{tys_behind}
use Rattle.pg_check_rules.specs.Written.{const_uses, types_within, asks, isnt_void}
use Rattle.pg_check_rules.specs.TypeConditions.{wrong_type, wrong_types, unmet}
use Rattle.pg_check_rules.specs.ValueConditions.{wrong_const, wrong_use}
use Rattle.pg_check_rules.specs.Earliest.{earliest}
use Rattle.pg_check_rules.specs.Conditions.{outside, global_types, global_refused}
use Rattle.pg_check_rules.proofs.Parts.{same_row}
use Rattle.pg_check_heads.specs.Initialisers.{uses_behind}
use Rattle.pg_check_heads.proofs.GlobalParts.{both, within_rows}
use Rattle.pg_check_heads.proofs.globals.wrong_places.Goals as goal

pub returns : goal.returns
unfolding global_refused wrong_types
returns c = record {
  place = λ m n s.
      let item = c.args.item.now in
      let ty = ty_of item.ty in
      let value = const_of item.value in
      both _ _ _ _ _ c.earlier-3.ensures
      (same_row wrong_type (named_types c.args.scope.now.types.now) m.types (tys_behind c.args.within.now)
      (flat_map types_within (global_types (global_of item))) c.in_ok-written.written c.in_ok-written.ensures.place (sym s.types) c.requires.within)
      (both _ _ _ _ _ c.earlier-2.ensures
      (c.in_ok-own.ensures.place ∙ ap (λ types. earliest (unmet types (asks isnt_void ty))) (sym s.types))
      (both _ _ _ _ _ c.earlier.ensures
      (c.in_ok-constant.ensures.place ∙ ap (λ types. earliest (wrong_const types (resolved types ty) value)) (sym s.types))
      (within_rows (wrong_use (outside m)) (uses_behind c.args.uses.now) (const_uses ty value) c.in_ok-values.values (c.in_ok-values.ensures.place (outside m) s) c.requires.uses)));
}
