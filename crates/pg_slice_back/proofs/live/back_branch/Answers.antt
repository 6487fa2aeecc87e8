use Rattle.pg_slice_back.proofs.Dispatch.{branch_op, due_back}
use Rattle.pg_slice_back.proofs.live.back_branch.Goals as goal

pub returns-clause-back : goal.returns-clause-back
returns-clause-back c = λ R e step m st call branch met. (
  c.in_ok-back_op.ensures R e step m st call (branch_op R e c.args.s.now.program.now c.args.s.now.reference.now c.args.s.now.instr.now step c.args.s.now.counts c.args.s.now.number m st c.args.at call branch) met,
  due_back R e c.args.s.now.program.now c.args.s.now.reference.now c.args.s.now.instr.now step c.args.s.now.counts c.args.s.now.number m st c.args.at call branch c.args.demanded.now met c.pin_due-due.result
      c.pin_due-due.ensures.due,
)
