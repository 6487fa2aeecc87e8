use Rattle.std.proofs.Common.{◌∙◌, ap, sym, length}
use Rattle.std.proofs.lemmas.List.{length-map}
use Rattle.pg_ir.proofs.GrowingTables.{values_count}
use Rattle.pg_run_thread.proofs.EdgeValues.{along_reads}
use Rattle.pg_run_thread.proofs.edges.take_edge.Goals as goal

pub gather-given-requires-clause-fits : goal.gather-given-requires-clause-fits
gather-given-requires-clause-fits c = rw c.values_along.ensures.values (along_reads c.args.p.now _ c.args.from.0 c.args.edge.to.0 c.requires.enters)

pub assign-requires-clause-each : goal.assign-requires-clause-each
assign-requires-clause-each c =
    ap length c.as_slice.ensures.value
    ∙ ap length c.gather-given.ensures.values
    ∙ length-map c.values_along.result.now _
    ∙ ap length c.values_along.ensures.values
    ∙ values_count c.args.p.now c.args.from.0 c.args.edge.to.0
    ∙ sym (ap length c.phis.ensures.phis)
