use Rattle.std.proofs.Common.{◌∙◌}
use Rattle.pg_region_paths.specs.pg_num.declared.limits.TheConstants.{FUNCTION_REGISTER_LIMIT}
use Rattle.pg_region_accesses.specs.Accesses.{summary_of}
use Rattle.pg_region_accesses.specs.Tables.{in_table}
use Rattle.pg_region_accesses.proofs.LoudBlocks.{size_more, loud_more, quiet_more}
use Rattle.pg_region_accesses.proofs.block.loud_blocks.Goals as goal

pub loop-b-preserved : goal.loop-b-preserved
loop-b-preserved c = record {
  is_set = c.push_block.ensures.is_set ∙ c.loop-b.invariant.is_set;
  count = c.push_block.ensures.count ∙ c.loop-b.invariant.count;
  size = size_more c.loop-b.loud.items c.push.new.self.items _ c.loop-b.b c.in_ok-push.ensures.items c.loop-b.invariant.size;
  loud = loud_more c.args.p.now (in_table c.args.gated.now) (summary_of c.args.sums.now) c.loop-b.loud.items c.push.new.self.items c.in_ok-is_quiet.is_quiet c.loop-b.b c.in_ok-push.ensures.items
      c.loop-b.invariant.size c.loop-b.invariant.loud
      c.loop-b.known.is_set FUNCTION_REGISTER_LIMIT (c.loop-b.invariant.is_set ∙ c.in_ok-known.ensures.known.0 ∙ c.in_ok-unset.ensures) c.loop-b.accesses.items c.push_block.new.accesses.items
      c.in_ok-is_quiet.ensures.accesses;
  quiet = quiet_more c.args.p.now (in_table c.args.gated.now) (summary_of c.args.sums.now) c.loop-b.loud.items c.push.new.self.items c.in_ok-is_quiet.is_quiet c.loop-b.b
      c.in_ok-push.ensures.items c.loop-b.invariant.size c.loop-b.invariant.quiet
      c.loop-b.known.is_set FUNCTION_REGISTER_LIMIT (c.loop-b.invariant.is_set ∙ c.in_ok-known.ensures.known.0 ∙ c.in_ok-unset.ensures) c.loop-b.accesses.items c.push_block.new.accesses.items
      c.in_ok-is_quiet.ensures.accesses;
}
