use Rattle.std.proofs.Common.{◌≡◌, ℕ, ◌||◌, map, is_some, refl, sym, ap, ◌∙◌}
use Rattle.std.specs.List.{flat_map, filter_map, list_any}
use Rattle.std.proofs.lemmas.List.{append-nil}
use Rattle.pg_read_ast.specs.Syntax.{Tree, Definition}
use Rattle.pg_read_ast.specs.Numbers.{numbered, each_at, behind_param, param_at}
use Rattle.pg_read_ast.specs.Views.{param_of, define_of}
use Rattle.pg_check_types.specs.NumberedTypes.{named_types}
use Rattle.pg_check_rules.specs.declared.fault.CheckKind.{CheckKind}
use Rattle.pg_check_rules.specs.declared.fault.CheckKind.TheVariants.{UnknownName, Doubled, WrongType, BadSignature, TooLarge}
use Rattle.pg_check_rules.specs.Nodes.{tys_behind}
use Rattle.pg_check_rules.specs.Numbering.{param_name}
use Rattle.pg_check_rules.specs.Written.{types_within}
use Rattle.pg_check_rules.specs.Names.{symbol_names, doubled}
use Rattle.pg_check_rules.specs.KnownNames.{known_named}
use Rattle.pg_check_rules.specs.TypeConditions.{unknown_type, unknown_types, wrong_type, wrong_types, is_large, any_large}
use Rattle.pg_check_rules.specs.CallConditions.{definition_header}
use Rattle.pg_check_rules.specs.Earliest.{earlier, earliest, only, joined, names_and_types}
use Rattle.pg_check_rules.specs.Conditions.{at_if, head_types, wrong_main, wrong_definition, definition_refused}
use Rattle.pg_check_rules.proofs.Rows.{earliest_more}
use Rattle.pg_check_rules.proofs.Parts.{same_row}
use Rattle.pg_check_rules.proofs.FirstRefusals.{same_places}
use Rattle.pg_check_heads.proofs.NumberedHeads.{head_same, wrong_main_same, wrong_definition_same}
use Rattle.pg_check_heads.proofs.definitions.definition_refusal.Goals as goal

kinds : (m : Tree) (f : ℕ) (d : Definition) (kind : CheckKind)
    → joined (names_and_types (definition_refused m (f, d) UnknownName) (definition_refused m (f, d) Doubled) (definition_refused m (f, d) WrongType))
    (joined (only BadSignature (definition_refused m (f, d) BadSignature)) (only TooLarge (definition_refused m (f, d) TooLarge))) kind ≡ definition_refused m (f, d) kind
unfolding definition_refused
kinds m f d UnknownName = append-nil (definition_refused m (f, d) UnknownName)
kinds m f d Doubled = append-nil (definition_refused m (f, d) Doubled)
kinds m f d WrongType = append-nil (definition_refused m (f, d) WrongType)
kinds m f d BadSignature = append-nil (definition_refused m (f, d) BadSignature)
kinds m f d _ = refl

pub returns : goal.returns
unfolding definition_refused unknown_types wrong_types any_large numbered
returns c = record {
  first = λ m t s.
      let item = define_of c.args.item.now in
      let header = definition_header item in
      let span = c.args.item.now.name.span in
      let text = c.args.item.now.name.text in
      let head = head_types (definition_header (numbered m.types item)) in
      let within = c.in_ok-within.ensures ∙ ap (λ ts. flat_map types_within (tys_behind ts)) c.as_slice.ensures.value
      ∙ ap (λ ts. flat_map types_within ts) (c.in_ok-head.ensures ∙ sym (head_same m.types item)) in
      let slice_wrong = ap (λ ts. tys_behind ts) c.as_slice-3.ensures.value ∙ within in
      let slice_large = ap (λ ts. tys_behind ts) c.as_slice-5.ensures.value ∙ within in
      let slice_unknown = ap (λ ts. tys_behind ts) c.as_slice-6.ensures.value ∙ within in
      let names = filter_map param_name (each_at behind_param param_at 0 (map param_of c.args.item.now.params.items)) in
      let params = c.in_ok-params.ensures names (ap (λ ps. filter_map param_name (each_at behind_param param_at 0 (map param_of ps))) (sym c.as_slice-2.ensures.value)) in
      let part = definition_refused m (c.args.number, numbered m.types item) in
      let named = names_and_types (part UnknownName) (part Doubled) (part WrongType) in
      let bad = only BadSignature (part BadSignature) in
      let large = only TooLarge (part TooLarge) in
      same_places (joined named (joined bad large)) part c.earlier_refusal.result (kinds m c.args.number (numbered m.types item))
      (c.earlier_refusal.ensures named (joined bad large)
      (c.name_or_type_refusal-named.ensures (part UnknownName) (part Doubled) (part WrongType)
      (same_row unknown_type (named_types c.args.types.now) m.types (tys_behind c.as_slice-6.result.now)
      (flat_map types_within head) c.unknown_types-unknown.result c.unknown_types-unknown.ensures (sym t) slice_unknown)
      (c.earlier-twice.ensures ∙ ap (λ o. earlier o c.in_ok-params.params) (c.doubled.ensures (symbol_names m) s)
      ∙ ap (λ o. earlier (earliest (doubled (symbol_names m) c.args.item.now.name)) o) params
      ∙ sym (earliest_more (doubled (symbol_names m) c.args.item.now.name) (flat_map (doubled names) names)))
      (same_row wrong_type (named_types c.args.types.now) m.types (tys_behind c.as_slice-3.result.now) (flat_map types_within head) c.in_ok-wrong.wrong c.in_ok-wrong.ensures.place
      (sym t) slice_wrong))
      (c.earlier_refusal-other.ensures bad large
      (c.refusal_at.ensures (part BadSignature)
      (c.place_if.ensures ∙ ap (λ b. earliest (at_if b span)) (c.in_ok-signature.ensures.same
      ∙ ap (λ types. is_some (known_named text) || wrong_main types text header || wrong_definition types item) (sym t)
      ∙ ap (λ b. is_some (known_named text) || b || wrong_definition m.types item) (sym (wrong_main_same m.types m.types text item))
      ∙ ap (λ b. is_some (known_named text) || wrong_main m.types text (definition_header (numbered m.types item)) || b) (sym (wrong_definition_same m.types m.types item)))))
      (c.refusal_at-2.ensures (part TooLarge)
      (c.place_if-2.ensures ∙ ap (λ b. earliest (at_if b span)) (c.either-over.ensures
      ∙ ap (λ b. b || c.is_past_limit.result) (c.in_ok-large.ensures.large ∙ ap (λ types. list_any (is_large types) (tys_behind c.as_slice-5.result.now)) (sym t)
      ∙ ap (λ ts. list_any (is_large m.types) ts) slice_large)
      ∙ ap (λ b. list_any (is_large m.types) (flat_map types_within head) || b) c.is_past_limit.ensures)))));
}
