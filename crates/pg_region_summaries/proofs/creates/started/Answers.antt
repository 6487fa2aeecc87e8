use Rattle.std.proofs.Common.{arith, ◌∙◌}
use Rattle.pg_region_accesses.specs.Tables.{in_table}
use Rattle.pg_region_summaries.proofs.ThreadFunctions.{started_more, started_all}
use Rattle.pg_region_summaries.proofs.creates.started.Goals as goal

pub loop-i-preserved : goal.loop-i-preserved
loop-i-preserved c = record {
  size = c.add.ensures.size ∙ c.loop-i.invariant.size;
  started = λ f lt.
      started_more c.args.p.now.instrs c.loop-i.i f c.instr.result.now (in_table c.loop-i.started.items f) (in_table c.add.new.set.items f) c.instr.ensures.at (c.loop-i.invariant.started f lt)
      (rw c.started_by.ensures at (c.add.ensures.sets f (omega (arith, lt, c.loop-i.invariant.size))));
}

pub returns-clause-started : goal.returns-clause-started
returns-clause-started c = λ f lt. started_all c.args.p.now c.loop-i.i f (in_table c.loop-i.started.items f) (omega (arith, c.loop-i-test.false, c.instr_count-i-end.ensures.count))
    (c.loop-i.invariant.started f lt)
