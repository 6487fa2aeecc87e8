use Rattle.std.proofs.Common.{◌∙◌}
use Rattle.std.proofs.lemmas.Result.{on_ok_weaker}
use Rattle.pg_slice_registers.specs.Threads.{threads_by}
use Rattle.pg_slice_registers.proofs.ThreadsMade.{create_is}
use Rattle.pg_slice_registers.proofs.threads.after_create.Goals as goal

pub returns-clause-value : goal.returns-clause-value
returns-clause-value c extents h =
    on_ok_weaker c.push_thread.result (λ e. e ∙ create_is c.args.p.now c.args.e c.args.e.kind (threads_by c.args.nodes.now c.args.threads.now.items extents) c.requires.kind)
    (c.push_thread.ensures.value extents h)
