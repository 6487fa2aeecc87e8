use Rattle.std.proofs.Common.{true, arith}
use Rattle.pg_slice_rules.specs.Rules.{checked_of}
use Rattle.pg_law_demands.specs.Cells.{IsMet}
use Rattle.pg_law_demands.specs.Demands.{operand_demands}
use Rattle.pg_slice_back.proofs.EventOperands.{number_in, operand_there}
use Rattle.pg_slice_back.proofs.NeedsBackOverSteps.{each_of}
use Rattle.pg_slice_back.proofs.arguments.put_checked.Goals as goal

pub loop-i-preserved : goal.loop-i-preserved
loop-i-preserved c = λ s y th dp h m.
    let x = c.args.instr.now in
    let i = c.loop-i.i in
    let n = c.checked_of-i-end.result in
    c.in_ok-put_argument.ensures s
    (operand_there s y x c.args.at.thread.0 c.args.at.depth true i th dp
    (each_of (operand_demands y x true) (IsMet s) (checked_of x.op) i i (number_in (checked_of x.op) n i c.checked_of-i-end.ensures (omega (arith, c.loop-i.auto.i-end, c.loop-i-test.true))) h))
    (c.loop-i.invariant s y th dp h m)
