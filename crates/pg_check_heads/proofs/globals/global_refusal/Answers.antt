use Rattle.std.proofs.Common.{◌≡◌, ℕ, ◌||◌, nat_le, refl, sym, ap, ◌∙◌}
use Rattle.std.specs.List.{flat_map, list_any}
use Rattle.std.proofs.lemmas.List.{append-nil}
use Rattle.pg_num.specs.declared.limits.TheConstants.{GLOBAL_LIMIT}
use Rattle.pg_read_ast.specs.Syntax.{Tree, Variable}
use Rattle.pg_read_ast.specs.Views.{ty_of, const_of, global_of}
use Rattle.pg_check_types.specs.NumberedTypes.{named_types}
use Rattle.pg_check_rules.specs.declared.fault.CheckKind.{CheckKind}
use Rattle.pg_check_rules.specs.declared.fault.CheckKind.TheVariants.{UnknownName, Doubled, WrongType, Unsupported, TooLarge}
use Rattle.pg_check_rules.specs.Nodes.{tys_behind}
use Rattle.pg_check_rules.specs.Written.{Use, const_uses, types_within}
use Rattle.pg_check_rules.specs.Names.{symbol_names}
use Rattle.pg_check_rules.specs.TypeConditions.{unknown_type, unknown_types, is_large, any_large}
use Rattle.pg_check_rules.specs.ValueConditions.{unknown_value, function_value}
use Rattle.pg_check_rules.specs.Earliest.{earliest, only, joined, names_and_types}
use Rattle.pg_check_rules.specs.Conditions.{at_if, outside, global_types, global_refused}
use Rattle.pg_check_rules.proofs.Parts.{same_row}
use Rattle.pg_check_rules.proofs.FirstRefusals.{same_places}
use Rattle.pg_check_heads.specs.Initialisers.{uses_behind}
use Rattle.pg_check_heads.proofs.GlobalParts.{both, within_rows}
use Rattle.pg_check_heads.proofs.globals.global_refusal.Goals as goal

kinds : (m : Tree) (i : ℕ) (v : Variable) (kind : CheckKind)
    → joined (names_and_types (global_refused m (i, v) UnknownName) (global_refused m (i, v) Doubled) (global_refused m (i, v) WrongType))
    (joined (only Unsupported (global_refused m (i, v) Unsupported)) (only TooLarge (global_refused m (i, v) TooLarge))) kind ≡ global_refused m (i, v) kind
unfolding global_refused
kinds m i v UnknownName = append-nil (global_refused m (i, v) UnknownName)
kinds m i v Doubled = append-nil (global_refused m (i, v) Doubled)
kinds m i v WrongType = append-nil (global_refused m (i, v) WrongType)
kinds m i v Unsupported = append-nil (global_refused m (i, v) Unsupported)
kinds m i v _ = refl

pub returns : goal.returns
unfolding global_refused unknown_types any_large
returns c = record {
  first = λ m s e k.
      let item = global_of c.args.item.now in
      let span = c.args.item.now.name.span in
      let uses = const_uses (ty_of c.args.item.now.ty) (const_of c.args.item.now.value) in
      let all = flat_map types_within (global_types item) in
      let within = c.in_ok-within.ensures ∙ ap (λ ts. flat_map types_within (tys_behind ts)) c.as_slice-2.ensures.value ∙ ap (λ ts. flat_map types_within ts) c.in_ok-written.ensures in
      let slice_large = ap (λ ts. tys_behind ts) c.as_slice-5.ensures.value ∙ within in
      let slice_unknown = ap (λ ts. tys_behind ts) c.as_slice-7.ensures.value ∙ within in
      let uses_unknown = ap (λ us. uses_behind us) c.as_slice-6.ensures.value ∙ c.in_ok-uses.ensures in
      let uses_function = ap (λ us. uses_behind us) c.as_slice-8.ensures.value ∙ c.in_ok-uses.ensures in
      let part = global_refused m (c.args.number, item) in
      let named = names_and_types (part UnknownName) (part Doubled) (part WrongType) in
      let functions = only Unsupported (part Unsupported) in
      let large = only TooLarge (part TooLarge) in
      same_places (joined named (joined functions large)) part c.earlier_refusal.result (kinds m c.args.number item)
      (c.earlier_refusal.ensures named (joined functions large)
      (c.name_or_type_refusal-named.ensures (part UnknownName) (part Doubled) (part WrongType)
      (both _ _ _ _ _ c.earlier-unknown.ensures
      (same_row unknown_type (named_types c.args.scope.now.types.now) m.types (tys_behind c.as_slice-7.result.now) all c.unknown_types.result c.unknown_types.ensures (sym s.types) slice_unknown)
      (within_rows (λ (u : Use). unknown_value (outside m) u.value) (uses_behind c.as_slice-6.result.now) uses c.unknown_uses-unknown_use.result
      (c.unknown_uses-unknown_use.ensures (outside m) s) uses_unknown))
      (c.doubled.ensures (symbol_names m) k)
      (c.in_ok-wrong.ensures.place m c.args.number s))
      (c.earlier_refusal-other.ensures functions large
      (c.refusal_at.ensures (part Unsupported)
      (within_rows (λ (u : Use). function_value (outside m) u.value) (uses_behind c.as_slice-8.result.now) uses c.function_uses-unsupported.result
      (c.function_uses-unsupported.ensures (outside m) s) uses_function))
      (c.refusal_at-2.ensures (part TooLarge)
      (c.place_if.ensures ∙ ap (λ b. earliest (at_if b span)) (c.one_of_three-over.ensures
      ∙ ap (λ b. b || c.is_past_limit.result || c.args.past_end)
      (c.in_ok-large.ensures.large ∙ ap (λ types. list_any (is_large types) (tys_behind c.as_slice-5.result.now)) (sym s.types) ∙ ap (λ ts. list_any (is_large m.types) ts) slice_large)
      ∙ ap (λ b. list_any (is_large m.types) all || b || c.args.past_end) c.is_past_limit.ensures
      ∙ ap (λ b. list_any (is_large m.types) all || nat_le GLOBAL_LIMIT c.args.number || b) e)))));
}
