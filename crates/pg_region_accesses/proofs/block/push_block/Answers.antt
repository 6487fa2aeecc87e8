use Rattle.std.proofs.Common.{◌≡◌, ◌+◌, ℕ, Bool, true, false, List, cond, sym, ◌∙◌, subst, arith}
use Rattle.pg_region_paths.specs.pg_ir.declared.value.Scalar.{Scalar}
use Rattle.pg_region_paths.specs.pg_ir.Program.{types_of, function_of}
use Rattle.pg_region_paths.specs.pg_ir.Edges.{instrs_of}
use Rattle.pg_region_paths.specs.RootPaths.{path_in, set_in, count_in, is_in}
use Rattle.pg_region_paths.specs.Registers.{is_register, has_pointer, path_by}
use Rattle.pg_region_accesses.specs.Accesses.{block_accesses, summary_of}
use Rattle.pg_region_accesses.specs.Appends.{Appends}
use Rattle.pg_region_accesses.specs.Tables.{in_table}
use Rattle.pg_region_accesses.proofs.BlockInstructions.{instr_at, result_small, gep_fits, types_are, paths_more, block_more, block_none, block_all}
use Rattle.pg_region_accesses.proofs.block.push_block.Goals as goal

pub overflow_add-id : goal.overflow_add-id
overflow_add-id c = omega (arith, c.block-block.ensures.fits.within, c.loop-k-test.true, c.facts.ensures.holds.few_instrs)

pub push_instr-requires-clause-result : goal.push_instr-requires-clause-result
push_instr-requires-clause-result c =
    result_small c.args.p.now c.args.b.0 (c.block-block.result.now.first.0 + c.loop-k.k) (count_in c.loop-k.known) c.block-block.result.now c.function-function.result.now c.instr-instr.result.now
    c.block-block.ensures.at c.function-function.ensures.at (omega (arith, c.function-function.ensures.fits.few, c.loop-k.invariant.count, c.enter.ensures.count, c.requires.registers))
    c.block-block.ensures.fits (omega arith) (omega (arith, c.loop-k-test.true))
    c.instr-instr.ensures.at c.instr-instr.ensures.fits

pub push_instr-requires-clause-fits : goal.push_instr-requires-clause-fits
push_instr-requires-clause-fits c = gep_fits _ _ _ _ c.instr-instr.result.now.op c.instr-instr.ensures.fits.op

pub returns-then-not-is_quiet-clause-accesses : goal.returns-then-not-is_quiet-clause-accesses
returns-then-not-is_quiet-clause-accesses c =
    subst (λ (s : List Bool). Appends (block_accesses c.args.may_return c.args.p.now (in_table c.args.gated.now) (summary_of c.args.sums.now) (λ r. is_in s r) c.args.b.0)
    c.args.accesses.now.items false c.push_instr.new.accesses.items) c.enter.ensures.is_set
    (block_none c.args.may_return c.args.p.now (in_table c.args.gated.now) (summary_of c.args.sums.now)
    (set_in c.enter.new.self) c.args.b.0 c.block-block.result.now c.block-block.ensures.at c.loop-k.k c.instr-instr.result.now (omega (arith, c.loop-k-test.true)) c.instr-instr.ensures.at
    (path_in c.loop-k.known) c.loop-k.invariant.paths c.args.accesses.now.items c.loop-k.accesses.items c.push_instr.new.accesses.items c.loop-k.invariant.accesses c.in_ok-is_quiet.is_quiet
    c.if-not-is_quiet.true c.in_ok-is_quiet.ensures.accesses)

pub loop-k-preserved : goal.loop-k-preserved
loop-k-preserved c = record {
  is_set = c.push_instr.ensures.is_set ∙ c.loop-k.invariant.is_set;
  count = c.push_instr.ensures.count ∙ c.loop-k.invariant.count;
  paths = paths_more (set_in c.enter.new.self) (types_of c.args.p.now (function_of c.args.p.now c.args.b.0)) (instrs_of c.args.p.now c.args.b.0) c.loop-k.k c.instr-instr.result.now
      (path_in c.loop-k.known) (path_in c.push_instr.new.known)
      (instr_at c.args.p.now c.args.b.0 c.loop-k.k c.block-block.result.now c.instr-instr.result.now c.block-block.ensures.at (omega (arith, c.loop-k-test.true)) c.instr-instr.ensures.at)
      c.loop-k.invariant.paths
      (subst (λ (ts : List Scalar). (s : ℕ) → path_in c.push_instr.new.known s
      ≡ cond (is_register c.instr-instr.result.now.result s) (path_by (path_in c.loop-k.known) (has_pointer ts c.instr-instr.result.now.result) c.instr-instr.result.now.op)
      (path_in c.loop-k.known s))
      (c.as_slice-types.ensures.items ∙ sym (types_are c.args.p.now c.args.b.0 c.block-block.result.now c.function-function.result.now c.block-block.ensures.at c.function-function.ensures.at))
      c.in_ok-is_quiet.ensures.paths);
  accesses = c.loop-k.invariant.accesses ∙ block_more c.args.may_return c.args.p.now (in_table c.args.gated.now) (summary_of c.args.sums.now)
      (set_in c.enter.new.self) c.args.b.0 c.block-block.result.now c.block-block.ensures.at c.loop-k.k c.instr-instr.result.now (omega (arith, c.loop-k-test.true)) c.instr-instr.ensures.at
      (path_in c.loop-k.known) c.loop-k.invariant.paths c.loop-k.accesses.items c.push_instr.new.accesses.items (rw c.if-not-is_quiet.false at c.in_ok-is_quiet.ensures.accesses);
}

pub returns-clause-accesses : goal.returns-clause-accesses
returns-clause-accesses c =
    subst (λ (s : List Bool). Appends (block_accesses c.args.may_return c.args.p.now (in_table c.args.gated.now) (summary_of c.args.sums.now) (λ r. is_in s r) c.args.b.0)
    c.args.accesses.now.items true c.loop-k.accesses.items) c.enter.ensures.is_set
    (block_all c.args.may_return c.args.p.now (in_table c.args.gated.now) (summary_of c.args.sums.now)
    (set_in c.enter.new.self) c.args.b.0 c.block-block.result.now c.block-block.ensures.at c.loop-k.k
    (omega (arith, c.loop-k-test.false)) c.args.accesses.now.items c.loop-k.accesses.items c.loop-k.invariant.accesses)
