use Rattle.std.proofs.Common.{arith}
use Rattle.pg_precondition.proofs.NeededMarks.{checks_next, checks_whole, marked_none}
use Rattle.pg_precondition.proofs.marks.mark_checks.Goals as goal

pub loop-i-init : goal.loop-i-init
loop-i-init c = marked_none c.args.marks.now

pub loop-i-preserved : goal.loop-i-preserved
loop-i-preserved c = checks_next c.args.marks.now c.loop-i.marks c.mark.new.marks c.args.checks.now c.loop-i.i c.check_at.result c.check_at.ensures c.loop-i.invariant c.mark.ensures

pub returns : goal.returns
returns c = checks_whole c.args.marks.now c.loop-i.marks c.args.checks.now c.loop-i.i (omega arith) c.loop-i.invariant
