use Rattle.std.proofs.Common.{◌≡◌, ◌∙◌, [], ◌∷◌, true, false, sym, ap, subst, map, length}
use Rattle.std.specs.List.{flat_map}
use Rattle.std.specs.Prelude.{◌==◌}
use Rattle.std.proofs.lemmas.Bool.Decides.{nat_tests}
use Rattle.std.proofs.Common.{arith}
use Rattle.pg_read_ast.specs.Views.{type_item_of}
use Rattle.pg_check_heads.specs.Circles.{has, next_places, Noted}
use Rattle.pg_check_heads.proofs.NextPlaces.{bounded, item_count, no_elements}
use Rattle.pg_check_heads.proofs.Searching.{Searching, Bounded, first_round, next_round, nothing_left, all_done, is_found, at_once}
use Rattle.pg_check_heads.proofs.circles.reaches.Goals as goal

pub returns-then-start-target : goal.returns-then-start-target
returns-then-start-target c = λ h.
    let e : (c.args.start == c.args.target) ≡ true = let s : c.args.start ≡ c.args.target = c.if-start-target.true in grind (arith, nat_tests) in
    at_once (next_places (map type_item_of c.args.items.now)) c.args.target c.args.start (length c.args.items.now) e

pub loop-round-init : goal.loop-round-init
loop-round-init c = λ h.
    let edges = next_places (map type_item_of c.args.items.now) in
    let n = length c.args.items.now in
    let d : (c.args.start == c.args.target) ≡ false = let s = c.if-start-target.false in grind (arith, nat_tests) in
    let noted = subst (λ xs. Noted (c.args.start ∷ []) xs c.note_all.new.seen.items c.in_ok-front.front.items) c.in_ok-seen.ensures c.in_ok-front.ensures in
    first_round edges c.args.target c.args.start n c.note_all.new.seen.items c.in_ok-front.front.items c.requires d noted

pub returns-then-is_empty : goal.returns-then-is_empty
returns-then-is_empty c = λ h.
    let front = c.loop-round.front.items in
    let none : length front ≡ 0 = let o = c.loop-round.front.ok.0 in let e = c.if-is_empty.ensures in grind (arith, nat_tests) in
    let edges = next_places (map type_item_of c.args.items.now) in
    nothing_left edges c.args.target c.args.start (length c.args.items.now) c.loop-round.round c.loop-round.seen.items
    (subst (λ xs. Searching edges c.args.target c.args.start (length c.args.items.now) c.loop-round.round c.loop-round.seen.items xs) (no_elements front none) (c.loop-round.invariant h))

pub returns-then-has : goal.returns-then-has
returns-then-has c = λ h.
    let edges = next_places (map type_item_of c.args.items.now) in
    let front = c.loop-round.front.items in
    let flat : c.as_slice-in-loop-round.result.now ≡ flat_map edges front =
    c.as_slice-in-loop-round.ensures.value ∙ c.in_ok-all.ensures h ∙ ap (λ xs. flat_map edges xs) c.as_slice.ensures.value in
    let found : has (flat_map edges front) c.args.target ≡ true = ap (λ xs. has xs c.args.target) (sym flat) ∙ sym c.if-has.ensures in
    is_found edges c.args.target c.args.start (length c.args.items.now) c.loop-round.round c.loop-round.seen.items front c.loop-round-test.true (c.loop-round.invariant h) found

pub loop-round-preserved : goal.loop-round-preserved
loop-round-preserved c = λ h.
    let types = map type_item_of c.args.items.now in
    let edges = next_places types in
    let n = length c.args.items.now in
    let front = c.loop-round.front.items in
    let all : c.in_ok-all.all.items ≡ flat_map edges front = c.in_ok-all.ensures h ∙ ap (λ xs. flat_map edges xs) c.as_slice.ensures.value in
    let away : has (flat_map edges front) c.args.target ≡ false = ap (λ xs. has xs c.args.target) (sym (c.as_slice-in-loop-round.ensures.value ∙ all)) ∙ sym c.if-has.ensures in
    let noted = subst (λ xs. Noted xs c.loop-round.seen.items c.note_all-in-loop-round.new.seen.items c.in_ok-front-2.front.items)
    (c.as_slice-in-loop-round-2.ensures.value ∙ all) c.in_ok-front-2.ensures in
    let within : Bounded edges n = subst (λ k. Bounded edges k) (item_count type_item_of c.args.items.now) (bounded types) in
    next_round edges c.args.target c.args.start n c.loop-round.round c.loop-round.seen.items c.note_all-in-loop-round.new.seen.items front c.in_ok-front-2.front.items
    c.loop-round-test.true within away noted (c.loop-round.invariant h)

pub returns : goal.returns
returns c = λ h.
    all_done (next_places (map type_item_of c.args.items.now)) c.args.target c.args.start (length c.args.items.now) c.loop-round.round c.loop-round.seen.items c.loop-round.front.items
    c.loop-round-test.false (c.loop-round.invariant h)
