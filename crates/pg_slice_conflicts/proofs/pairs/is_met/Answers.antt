use Rattle.std.proofs.Common.{sym, ◌∙◌}
use Rattle.std.proofs.lemmas.Map.Keys.{any_passes_from_place}
use Rattle.pg_slice_conflicts.specs.Meets.{meets}
use Rattle.pg_slice_conflicts.proofs.ListWalks.{any_more}
use Rattle.pg_slice_conflicts.proofs.pairs.is_met.Goals as goal

pub returns-then-meets : goal.returns-then-meets
returns-then-meets c = sym (any_passes_from_place (meets c.args.x.now) c.args.footprints.now c.loop-j.j c.footprint_at.result c.footprint_at.ensures (sym c.meets.ensures ∙ c.if-meets.true))

pub loop-j-preserved : goal.loop-j-preserved
loop-j-preserved c = any_more (meets c.args.x.now) c.args.footprints.now c.loop-j.j c.footprint_at.result c.footprint_at.ensures c.loop-j.invariant (sym c.meets.ensures ∙ c.if-meets.false)
