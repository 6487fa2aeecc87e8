use Rattle.std.proofs.Common.{◌≡◌, map, take}
use Rattle.pg_slice_conflicts.specs.Passes.{touch_of}
use Rattle.pg_slice_conflicts.proofs.pass.Pass.touches.Given as goal

abbrev pub invariant-loop-one : goal.invariant-loop-one
invariant-loop-one l = l.touches.items ≡ map (touch_of l.fn.self) (take l.one-index l.placed)
