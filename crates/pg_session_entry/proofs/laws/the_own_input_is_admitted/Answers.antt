use Rattle.std.proofs.Common.{◌∙◌}
use Rattle.pg_region_accesses.specs.Accesses.{is_gated}
use Rattle.pg_session_entry.proofs.laws.the_own_input_is_admitted.Goals as goal

pub returns : goal.returns
returns c p input turns gated steps printed value can e d cond s =
    let some = c.regions_exist.ensures p (is_gated gated) s.sums can.program s.summaries in
    s.admits some.0 some.1 input
    ∙ c.a_reference_run_admits_its_own_input.ensures p input turns gated s.sums some.0 steps (record {
      program = can.program;
      bytes = can.bytes;
      small = can.small;
      summaries = s.summaries;
      regions_are = some.1;
      printed = printed;
      value = value;
      exits = e;
    }) d
