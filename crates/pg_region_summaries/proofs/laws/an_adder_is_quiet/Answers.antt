use Rattle.std.proofs.Common.{refl}
use Rattle.pg_ir.specs.Program.{types_of, function_of, parameter_count, first_of, end_of}
use Rattle.pg_ir.specs.Edges.{instrs_of}
use Rattle.pg_region_accesses.specs.Accesses.{block_accesses, block_sets}
use Rattle.pg_region_summaries.specs.Blocks.{blocks_of}
use Rattle.pg_region_summaries.proofs.laws.an_adder_is_quiet.Goals as goal

pub returns : goal.returns
unfolding types_of function_of parameter_count first_of end_of instrs_of block_accesses block_sets blocks_of
returns c = record { summary = refl; called = refl; unknown = refl; gated = refl }
