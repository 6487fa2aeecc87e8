use Rattle.std.proofs.Common.{◌≡◌, length, map, take}
use Rattle.pg_schedule.specs.Touching.{beside, touch_for}
use Rattle.pg_schedule.proofs.touching.touches.Given as goal

abbrev pub invariant-loop-i : goal.invariant-loop-i
invariant-loop-i l = l.touches.items ≡ map (touch_for l.pass (length l.intervals)) (take l.i (beside l.t.steps l.intervals))
