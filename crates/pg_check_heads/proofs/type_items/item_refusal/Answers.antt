use Rattle.std.proofs.Common.{◌≡◌, List, [], ◌∷◌, ◌++◌, map, refl, ap, ◌∙◌, append_assoc}
use Rattle.std.specs.List.{flat_map, list_any}
use Rattle.std.proofs.lemmas.List.{append-nil}
use Rattle.pg_read_ast.specs.Syntax.{NamedType}
use Rattle.pg_read_ast.specs.Views.{type_item_of}
use Rattle.pg_check_types.specs.NumberedTypes.{items_of, named_types}
use Rattle.pg_check_types.proofs.Resolutions.{if_ok}
use Rattle.pg_check_rules.specs.declared.fault.CheckKind.{CheckKind}
use Rattle.pg_check_rules.specs.declared.fault.CheckKind.TheVariants.{UnknownName, Doubled, WrongType, TooLarge}
use Rattle.pg_check_rules.specs.Nodes.{tys_behind}
use Rattle.pg_check_rules.specs.Written.{types_within}
use Rattle.pg_check_rules.specs.Names.{doubled}
use Rattle.pg_check_rules.specs.TypeConditions.{unknown_type, unknown_types, wrong_type, wrong_types, is_large, any_large}
use Rattle.pg_check_rules.specs.Earliest.{earliest, only, joined, names_and_types}
use Rattle.pg_check_rules.specs.Conditions.{RefusedPlaces, at_if, type_names, self_contained, item_refused}
use Rattle.pg_check_rules.proofs.Parts.{same_row}
use Rattle.pg_check_rules.proofs.FirstRefusals.{same_places}
use Rattle.pg_check_heads.proofs.type_items.item_refusal.Goals as goal

-- what an item is refused for, but that it contains itself
abbrev own_part : List NamedType → NamedType → RefusedPlaces
own_part types i = joined (names_and_types (unknown_types types (i.ty ∷ [])) (doubled (type_names types) i.name) (wrong_types types (i.ty ∷ []))) (only TooLarge (item_refused types i TooLarge))

kinds : (types : List NamedType) (i : NamedType) (kind : CheckKind) → joined (own_part types i) (only WrongType (self_contained types i)) kind ≡ item_refused types i kind
unfolding item_refused
kinds types i UnknownName = append-nil (own_part types i UnknownName) ∙ append-nil (unknown_types types (i.ty ∷ []))
kinds types i Doubled = append-nil (own_part types i Doubled) ∙ append-nil (doubled (type_names types) i.name)
kinds types i WrongType = ap (λ ss. ss ++ self_contained types i) (append-nil (wrong_types types (i.ty ∷ [])))
kinds types i TooLarge = append-nil (item_refused types i TooLarge)
kinds types i _ = refl

pub returns : goal.returns
unfolding item_refused unknown_types wrong_types any_large
returns c = record {
  first = λ p k.
      let types = map type_item_of c.args.ranked.now.items.now in
      let item = type_item_of c.args.item.now in
      let all = flat_map types_within (item.ty ∷ []) in
      let span = c.args.item.now.name.span in
      let within = c.in_ok-within.ensures in
      let old = ap (λ xs. items_of xs) c.requires.items in
      let own = own_part types item in
      let circles = only WrongType (self_contained types item) in
      let named = names_and_types (unknown_types types (item.ty ∷ [])) (doubled (type_names types) item.name) (wrong_types types (item.ty ∷ [])) in
      let large = only TooLarge (item_refused types item TooLarge) in
      if_ok c.self_contained.result
      (λ o h. same_places (joined (joined p own) circles) (joined p (item_refused types item)) o
      (λ kind. append_assoc (p kind) (own kind) (circles kind) ∙ ap (λ ss. p kind ++ ss) (kinds types item kind)) h)
      (c.self_contained.ensures.first (joined p own)
      (c.earlier_refusal-found.ensures p own k
      (c.earlier_refusal-own.ensures named large
      (c.name_or_type_refusal-named.ensures (unknown_types types (item.ty ∷ [])) (doubled (type_names types) item.name) (wrong_types types (item.ty ∷ []))
      (same_row unknown_type (named_types c.args.types.now) types (tys_behind c.as_slice-3.result.now) all c.unknown_types-unknown.result c.unknown_types-unknown.ensures old
      (ap (λ ts. tys_behind ts) c.as_slice-3.ensures.value ∙ within))
      (c.doubled.ensures (type_names types) c.requires.starts)
      (same_row wrong_type (named_types c.args.types.now) types (tys_behind c.as_slice.result.now) all c.in_ok-wrong.wrong c.in_ok-wrong.ensures.place old
      (ap (λ ts. tys_behind ts) c.as_slice.ensures.value ∙ within)))
      (c.refusal_at.ensures (item_refused types item TooLarge)
      (c.place_if.ensures ∙ ap (λ b. earliest (at_if b span))
      (c.in_ok-large.ensures.large ∙ ap (λ t. list_any (is_large t) (tys_behind c.as_slice-2.result.now)) old
      ∙ ap (λ ts. list_any (is_large types) ts) (ap (λ ts. tys_behind ts) c.as_slice-2.ensures.value ∙ within)))))));
}
