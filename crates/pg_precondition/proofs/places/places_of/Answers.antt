use Rattle.std.proofs.Common.{◌≡◌, ℕ, ◌+◌, ◌<◌, arith, ap, ◌∙◌, subst, length, sym}
use Rattle.std.specs.Prelude.{slice_index}
use Rattle.std.proofs.lemmas.List.{length_push}
use Rattle.pg_precondition.specs.Marks.{place}
use Rattle.pg_precondition.proofs.MarkPlaces.{count_next, place_le, place_zero, places_next}
use Rattle.pg_precondition.proofs.places.places_of.Goals as goal

pub counted-place-requires : goal.counted-place-requires
counted-place-requires c = let p = place_le c.args.marks.now c.loop-i.i in let e = c.loop-i.invariant.counted in omega (arith, p, e)

pub loop-i-init : goal.loop-i-init
loop-i-init c = record { as_many = ap length c.in_ok-places.ensures.items; each = λ j l. absurd (omega (arith, l)); counted = sym (place_zero c.args.marks.now) }

pub loop-i-preserved : goal.loop-i-preserved
loop-i-preserved c =
    let inv = c.loop-i.invariant in
    let items = c.in_ok-push.ensures.items in
    let n = length_push c.loop-i.places.items c.loop-i.place in
    let l = inv.as_many in
    record {
      as_many = ap length items ∙ n ∙ ap (λ k. k + 1) l;
      each = subst (λ xs. (j : ℕ) → j < c.loop-i.i + 1 → slice_index xs j ≡ place c.args.marks.now j) (sym items)
          (places_next c.args.marks.now c.loop-i.places.items c.loop-i.i c.loop-i.place l inv.counted inv.each);
      counted = count_next c.args.marks.now c.loop-i.i c.loop-i.place c.counted-place.result c.is_set.result inv.counted c.is_set.ensures c.counted-place.ensures;
    }
