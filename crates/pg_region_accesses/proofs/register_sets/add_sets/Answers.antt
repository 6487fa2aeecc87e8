use Rattle.std.proofs.Common.{◌+◌, ◌||◌, length, ap, ◌∙◌, arith}
use Rattle.pg_region_paths.specs.pg_ir.Edges.{instrs_of}
use Rattle.pg_region_accesses.specs.Tables.{in_table}
use Rattle.pg_region_accesses.proofs.BlockInstructions.{instr_at, result_small}
use Rattle.pg_region_accesses.proofs.SetTables.{set_more, sets_all}
use Rattle.pg_region_accesses.proofs.register_sets.add_sets.Goals as goal

pub overflow_add-block : goal.overflow_add-block
overflow_add-block c = omega (arith, c.block-block.ensures.fits.within, c.loop-k-test.true, c.facts.ensures.holds.few_instrs)

pub add_set-requires : goal.add_set-requires
add_set-requires c =
    result_small c.args.p.now c.args.b.0 (c.block-block.result.now.first.0 + c.loop-k.k) (length c.loop-k.set.items) c.block-block.result.now c.function-function.result.now c.instr-instr.result.now
    c.block-block.ensures.at c.function-function.ensures.at (omega (arith, c.function-function.ensures.fits.few, c.loop-k.invariant.size, c.requires.size)) c.block-block.ensures.fits
    (omega arith) (omega (arith, c.loop-k-test.true))
    c.instr-instr.ensures.at c.instr-instr.ensures.fits

pub loop-k-preserved : goal.loop-k-preserved
loop-k-preserved c = record {
  size = c.add_set.ensures.size ∙ c.loop-k.invariant.size;
  sets = λ r. set_more (instrs_of c.args.p.now c.args.b.0) c.loop-k.k c.instr-instr.result.now r (in_table c.loop-k.set.items r) (in_table c.add_set.new.set.items r) (in_table c.args.set.now.items r)
      (instr_at c.args.p.now c.args.b.0 c.loop-k.k c.block-block.result.now c.instr-instr.result.now c.block-block.ensures.at (omega (arith, c.loop-k-test.true)) c.instr-instr.ensures.at)
      (c.add_set.ensures.sets r) (c.loop-k.invariant.sets r);
}

pub returns-clause-sets : goal.returns-clause-sets
returns-clause-sets c = λ r.
    c.loop-k.invariant.sets r ∙ ap (λ b. b || in_table c.args.set.now.items r)
    (sets_all c.args.p.now c.args.b.0 c.block-block.result.now c.loop-k.k r c.block-block.ensures.at (omega (arith, c.loop-k-test.false)))
