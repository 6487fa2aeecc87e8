use Rattle.std.proofs.Common.{refl}
use Rattle.pg_ir.specs.Edges.{instrs_of, phis_of}
use Rattle.pg_ir.specs.Program.{end_of, first_of, parameter_count, types_of}
use Rattle.pg_run_memory.specs.Bytes.{number_of}
use Rattle.pg_slice_rules.specs.Closed.{admits, conditions}
use Rattle.pg_slice_rules.specs.Known.{seen_from}
use Rattle.pg_law_own_input.proofs.examples.a_count_is_its_own.Goals as goal

pub returns : goal.returns
unfolding admits conditions seen_from instrs_of phis_of end_of first_of parameter_count types_of number_of
returns c = record { slice = refl; all = refl; other = refl }
