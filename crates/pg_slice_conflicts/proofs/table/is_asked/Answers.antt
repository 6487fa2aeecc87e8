use Rattle.std.proofs.Common.{sym}
use Rattle.std.proofs.lemmas.Map.Keys.{any_passes_from_place}
use Rattle.pg_slice_conflicts.specs.declared.pass.Touch.{Touch}
use Rattle.pg_slice_conflicts.proofs.ListWalks.{any_more}
use Rattle.pg_slice_conflicts.proofs.table.is_asked.Goals as goal

pub returns-then-touch_at : goal.returns-then-touch_at
returns-then-touch_at c = sym (any_passes_from_place (λ (t : Touch). t.asks) c.args.touches.now c.loop-i.i c.touch_at.result c.touch_at.ensures c.if-touch_at.true)

pub loop-i-preserved : goal.loop-i-preserved
loop-i-preserved c = any_more (λ (t : Touch). t.asks) c.args.touches.now c.loop-i.i c.touch_at.result c.touch_at.ensures c.loop-i.invariant c.if-touch_at.false
