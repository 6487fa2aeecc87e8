use Rattle.std.proofs.Common.{◌≡◌, ◌<◌, length, map, Some, None, sym, ap, subst, ◌∙◌}
use Rattle.pg_read_ast.specs.Views.{type_item_of}
use Rattle.pg_check_types.specs.NameIndex.{known_place}
use Rattle.pg_check_types.proofs.Resolutions.{if_ok}
use Rattle.pg_check_heads.specs.Circles.{arrives, place_of, next_places}
use Rattle.pg_check_heads.specs.Ranks.{rank_of}
use Rattle.pg_check_heads.proofs.Ranked.{not_up}
use Rattle.pg_check_heads.proofs.NextPlaces.{place_within, item_count, meets_is, arrives_at}
use Rattle.pg_check_heads.proofs.circles.leads_back.Goals as goal

pub reaches-requires : goal.reaches-requires
reaches-requires c =
    let types = map type_item_of c.args.ranked.now.items.now in
    let name = c.args.name.now.text in
    let place : place_of types name ≡ Some c.in-Some.start = sym (c.args.ranked.now.known name) ∙ ap (λ t. known_place c.args.ranked.now.places.now t) (sym c.as_slice.ensures)
    ∙ sym c.place_of_name.ensures
    ∙ c.in-Some.is in
    subst (λ n. c.in-Some.start < n) (item_count type_item_of c.args.ranked.now.items.now) (place_within types name c.in-Some.start place)

-- an item of a lower rank doesn't lead back
pub returns-then-rank_of : goal.returns-then-rank_of
returns-then-rank_of c = λ text t.
    let types = map type_item_of c.args.ranked.now.items.now in
    let name = c.args.name.now.text in
    let place : place_of types name ≡ Some c.in-Some.start = sym (c.args.ranked.now.known name) ∙ ap (λ t. known_place c.args.ranked.now.places.now t) (sym c.as_slice.ensures)
    ∙ sym c.place_of_name.ensures
    ∙ c.in-Some.is in
    let less : rank_of c.args.ranked.now.ranks.now c.in-Some.start < rank_of c.args.ranked.now.ranks.now c.args.target =
    subst (λ n. n < rank_of c.args.ranked.now.ranks.now c.args.target) c.rank_of.ensures (subst (λ n. c.rank_of.result < n) c.rank_of-in-Some.ensures c.if-rank_of.true) in
    not_up (next_places types) c.args.ranked.now.ranks.now c.args.target c.args.ranked.now.fall (length types) c.in-Some.start less
    ∙ sym (meets_is types text c.args.target t (length types) name ∙ ap (λ o. arrives_at (length types) types c.args.target o) place)

pub returns-else-rank_of : goal.returns-else-rank_of
returns-else-rank_of c = λ text t.
    let types = map type_item_of c.args.ranked.now.items.now in
    let name = c.args.name.now.text in
    let place : place_of types name ≡ Some c.in-Some.start = sym (c.args.ranked.now.known name) ∙ ap (λ t. known_place c.args.ranked.now.places.now t) (sym c.as_slice.ensures)
    ∙ sym c.place_of_name.ensures
    ∙ c.in-Some.is in
    if_ok c.reaches.result
    (λ b h. h
    ∙ ap (λ n. arrives n (next_places types) c.args.target c.in-Some.start) (sym (item_count type_item_of c.args.ranked.now.items.now))
    ∙ sym (meets_is types text c.args.target t (length types) name ∙ ap (λ o. arrives_at (length types) types c.args.target o) place))
    (c.reaches.ensures c.args.ranked.now.known)

pub returns-in-None : goal.returns-in-None
returns-in-None c = λ text t.
    let types = map type_item_of c.args.ranked.now.items.now in
    let name = c.args.name.now.text in
    let place : place_of types name ≡ None = sym (c.args.ranked.now.known name) ∙ ap (λ t. known_place c.args.ranked.now.places.now t) (sym c.as_slice.ensures)
    ∙ sym c.place_of_name.ensures ∙ c.in-None.is in
    sym (meets_is types text c.args.target t (length types) name ∙ ap (λ o. arrives_at (length types) types c.args.target o) place)
