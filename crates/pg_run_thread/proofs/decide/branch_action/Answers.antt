use Rattle.pg_run_thread.proofs.EdgeValues.{along_reads}
use Rattle.pg_run_thread.proofs.BranchTargets.{taken_enters}
use Rattle.pg_run_thread.proofs.decide.branch_action.Goals as goal

pub have_values-requires : goal.have_values-requires
have_values-requires c =
    rw (c.values_along.ensures.values, c.edge_of-edge.ensures.to)
    (along_reads c.args.p.now _ c.args.instr.now.block.0 _ (taken_enters c.args.p.now _ c.args.n c.args.instr.now.op c.requires.branch c.requires.edges))
