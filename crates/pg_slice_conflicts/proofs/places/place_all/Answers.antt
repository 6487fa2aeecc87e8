use Rattle.std.proofs.Common.{[], ◌∷◌, ◌++◌, sym, ap, ◌∙◌, map, take, subst, All}
use Rattle.std.proofs.lemmas.List.{map_push}
use Rattle.std.proofs.lemmas.List.Elements.{All-push}
use Rattle.pg_slice_conflicts.specs.Places.{IsPlaced, footprint_of, start_of}
use Rattle.pg_slice_conflicts.proofs.ListWalks.{contains_at, map_get}
use Rattle.pg_law_threads.proofs.ListPlaces.{take_get}
use Rattle.pg_slice_conflicts.proofs.places.place_all.Goals as goal

pub placed_at-requires-clause-start : goal.placed_at-requires-clause-start
placed_at-requires-clause-start c =
    c.requires.all c.footprint_at.result.start
    (contains_at (map start_of c.args.footprints.now) c.loop-i.i c.footprint_at.result.start (map_get start_of c.args.footprints.now c.loop-i.i c.footprint_at.result c.footprint_at.ensures))

pub loop-i-preserved : goal.loop-i-preserved
loop-i-preserved c = (
  subst (λ l. All (IsPlaced c.args.bytes.now) l) (sym c.in_ok-push.ensures.items)
      (All-push (IsPlaced c.args.bytes.now) c.loop-i.placed.items c.placed_at.result c.loop-i.invariant.0 c.placed_at.ensures.placed),
  ap (map footprint_of) c.in_ok-push.ensures.items ∙ map_push footprint_of c.loop-i.placed.items c.placed_at.result ∙ ap (λ l. l ++ footprint_of c.placed_at.result ∷ []) c.loop-i.invariant.1
      ∙ ap (λ z. take c.loop-i.i c.args.footprints.now ++ z ∷ []) c.placed_at.ensures.footprint ∙ sym (take_get c.args.footprints.now c.loop-i.i c.footprint_at.result c.footprint_at.ensures),
)
