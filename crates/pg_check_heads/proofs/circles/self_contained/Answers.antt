use Rattle.std.proofs.Common.{◌≡◌, map, Some, None, true, is_some, sym, ap, subst, ◌∙◌}
use Rattle.pg_read_ast.specs.Views.{type_item_of}
use Rattle.pg_check_types.specs.NameIndex.{known_place}
use Rattle.pg_check_types.specs.NumberedTypes.{items_of}
use Rattle.pg_check_types.specs.Resolved.{resolved}
use Rattle.pg_check_types.proofs.Resolutions.{if_ok}
use Rattle.pg_check_rules.specs.declared.fault.CheckKind.TheVariants.{WrongType}
use Rattle.pg_check_rules.specs.Conditions.{self_contained}
use Rattle.pg_check_rules.specs.Earliest.{only, joined, IsFirstIn}
use Rattle.pg_check_heads.specs.Circles.{place_of}
use Rattle.pg_check_heads.proofs.NextPlaces.{self_contained_is, has_place, first_of_name}
use Rattle.pg_check_heads.proofs.NoCircles.{no_circle}
use Rattle.pg_check_heads.proofs.KnownPlaces.{no_more}
use Rattle.pg_check_heads.proofs.circles.self_contained.Goals as goal

pub returns-then-target-place : goal.returns-then-target-place
returns-then-target-place c = record {
  first = λ p k.
      let types = map type_item_of c.args.ranked.now.items.now in
      let item = type_item_of c.args.item.now in
      let text = c.args.item.now.name.text in
      let place : place_of types text ≡ Some c.args.place =
      sym (c.args.ranked.now.known text) ∙ ap (λ t. known_place c.args.ranked.now.places.now t) (sym c.as_slice.ensures) ∙ sym c.place_of_name.ensures ∙ c.in-Some.is
      ∙ ap (λ p. Some p) c.if-target-place.true in
      let whole : is_some (resolved types item.ty) ≡ true =
      ap (λ xs. is_some (resolved (items_of xs) item.ty)) (sym c.requires.items) ∙ sym c.in_ok-whole-in-Some.ensures.same ∙ c.if-whole.true in
      no_more p WrongType (self_contained types item) c.args.known (no_circle types item (first_of_name types c.args.place item c.requires.at place) whole) k;
}

pub returns-else-whole : goal.returns-else-whole
returns-else-whole c = record {
  first = λ p k.
      let types = map type_item_of c.args.ranked.now.items.now in
      let item = type_item_of c.args.item.now in
      let text = c.args.item.now.name.text in
      let place : place_of types text ≡ Some c.in-Some.target =
      sym (c.args.ranked.now.known text) ∙ ap (λ t. known_place c.args.ranked.now.places.now t) (sym c.as_slice.ensures) ∙ sym c.place_of_name.ensures ∙ c.in-Some.is in
      if_ok c.circles_in.result (λ o h. subst (λ ss. IsFirstIn (joined p (only WrongType ss)) o) (sym (self_contained_is types item)) h) (c.circles_in.ensures p text k place);
}

pub returns-in-None : goal.returns-in-None
returns-in-None c = record {
  first = λ p k.
      let types = map type_item_of c.args.ranked.now.items.now in
      let item = type_item_of c.args.item.now in
      let text = c.args.item.now.name.text in
      let none : place_of types text ≡ None =
      sym (c.args.ranked.now.known text) ∙ ap (λ t. known_place c.args.ranked.now.places.now t) (sym c.as_slice.ensures) ∙ sym c.place_of_name.ensures ∙ c.in-None.is in
      absurd (has_place types c.args.place item c.requires.at none);
}
