use Rattle.std.proofs.Common.{◌≡◌, arith, subst, take}
use Rattle.pg_precondition.specs.Marks.{Marked}
use Rattle.pg_precondition.proofs.NeededMarks.{marked_none, parts_next}
use Rattle.pg_precondition.proofs.marks.mark_parts.Goals as goal

pub loop-i-init : goal.loop-i-init
loop-i-init c = marked_none c.args.marks.now

pub loop-i-preserved : goal.loop-i-preserved
loop-i-preserved c = parts_next c.args.marks.now c.loop-i.marks c.mark.new.marks c.args.parts.now c.loop-i.i (omega arith) c.loop-i.invariant c.mark.ensures

pub returns : goal.returns
returns c = let e : c.loop-i.i ≡ c.args.count = omega arith in subst (λ n. Marked c.args.marks.now c.loop-i.marks (take n c.args.parts.now)) e c.loop-i.invariant
