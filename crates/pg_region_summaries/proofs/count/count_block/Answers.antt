use Rattle.std.proofs.Common.{◌≡◌, ◌+◌, drop, Some, None, arith, rules, sym, ap, ◌∙◌}
use Rattle.std.specs.Prelude.{slice_get}
use Rattle.pg_ir.specs.Edges.{instrs_of}
use Rattle.pg_region_accesses.specs.Accesses.{summary_of}
use Rattle.pg_region_accesses.proofs.BlockInstructions.{instr_at, instrs_end}
use Rattle.pg_region_summaries.specs.Counts.{instrs_count, block_count, within_limit}
use Rattle.pg_region_summaries.proofs.AccessCounts.{instr_more, some_within, none_within, within_none, count_is, limit_at}
use Rattle.pg_region_summaries.proofs.count.count_block.Goals as goal

pub returns-in_err-count : goal.returns-in_err-count
returns-in_err-count c =
    let at : slice_get (instrs_of c.args.p.now c.args.b.0) c.loop-k.k ≡ Some c.instr-instr.result.now =
    instr_at c.args.p.now c.args.b.0 c.loop-k.k c.block-block.result.now c.instr-instr.result.now c.block-block.ensures.at c.loop-k-test.true c.instr-instr.ensures.at in
    let more = instr_more (summary_of c.args.sums.now) (instrs_of c.args.p.now c.args.b.0) c.loop-k.k c.instr-instr.result.now at in
    let total = count_is c.args.p.now (summary_of c.args.sums.now) c.args.b.0 in
    let none : within_limit (c.loop-k.count + c.op_count.result) ≡ None = search rules in
    let r : c.from_residual.result ≡ None = search rules in
    let many = none_within (c.loop-k.count + c.op_count.result) none in
    r ∙ sym (within_none (c.args.before + block_count c.args.p.now (summary_of c.args.sums.now) c.args.b.0) (omega (arith, many, more, total, c.op_count.ensures, c.loop-k.invariant.count)))

pub loop-k-preserved : goal.loop-k-preserved
loop-k-preserved c =
    let at : slice_get (instrs_of c.args.p.now c.args.b.0) c.loop-k.k ≡ Some c.instr-instr.result.now =
    instr_at c.args.p.now c.args.b.0 c.loop-k.k c.block-block.result.now c.instr-instr.result.now c.block-block.ensures.at c.loop-k-test.true c.instr-instr.ensures.at in
    let more = instr_more (summary_of c.args.sums.now) (instrs_of c.args.p.now c.args.b.0) c.loop-k.k c.instr-instr.result.now at in
    let some : within_limit (c.loop-k.count + c.op_count.result) ≡ Some c.in_ok-count.count = search rules in
    let s = some_within (c.loop-k.count + c.op_count.result) c.in_ok-count.count some in
    record { few = omega (arith, s.0, s.1); count = omega (arith, s.0, more, c.op_count.ensures, c.loop-k.invariant.count) }

pub returns : goal.returns
returns c =
    let total = count_is c.args.p.now (summary_of c.args.sums.now) c.args.b.0 in
    let rest : instrs_count (summary_of c.args.sums.now) (drop c.loop-k.k (instrs_of c.args.p.now c.args.b.0)) ≡ 0 =
    ap (instrs_count (summary_of c.args.sums.now)) (instrs_end c.args.p.now c.args.b.0 c.block-block.result.now c.loop-k.k c.block-block.ensures.at (omega (arith, c.loop-k-test.false))) in
    limit_at (c.args.before + block_count c.args.p.now (summary_of c.args.sums.now) c.args.b.0) c.loop-k.count (omega (arith, total, rest, c.loop-k.invariant.count)) c.loop-k.invariant.few
