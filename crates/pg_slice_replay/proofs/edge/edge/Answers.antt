use Rattle.pg_run_thread.proofs.EdgeValues.{ends_block}
use Rattle.pg_slice_replay.proofs.edge.edge.Goals as goal

pub edge_by-requires : goal.edge_by-requires
edge_by-requires c = ends_block c.args.p.now c.args.step.now.instr.0 c.instr.result.now c.instr.ensures.fits c.instr.ensures.at
