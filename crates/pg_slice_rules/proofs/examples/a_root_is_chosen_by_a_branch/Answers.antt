use Rattle.std.proofs.Common.{refl}
use Rattle.pg_region_paths.specs.pg_ir.Edges.{instrs_of, phis_of}
use Rattle.pg_region_paths.specs.pg_ir.Program.{end_of, first_of, parameter_count, types_of}
use Rattle.pg_run.specs.pg_run_memory.Bytes.{number_of}
use Rattle.pg_slice_rules.specs.Closed.{admits, asks, conditions}
use Rattle.pg_slice_rules.specs.Known.{seen_from}
use Rattle.pg_slice_rules.proofs.examples.a_root_is_chosen_by_a_branch.Goals as goal

pub returns : goal.returns
unfolding asks seen_from instrs_of phis_of end_of first_of parameter_count types_of number_of admits conditions
returns c = record { none = refl; own = refl; closed = refl; same = refl; other = refl }
