use Rattle.std.proofs.Common.{length, ◌∙◌}
use Rattle.std.proofs.lemmas.Result.{on_ok_weaker}
use Rattle.pg_slice_values.specs.SymbolicNodes.{symbolic_by}
use Rattle.pg_slice_registers.specs.SymbolicRegisterNodes.{calls_by}
use Rattle.pg_slice_registers.proofs.DefinedEvents.{print_is}
use Rattle.pg_slice_registers.proofs.thread.SymbolicRegisters.after_event.Goals as goal

pub returns-in-Putchar-clause-value : goal.returns-in-Putchar-clause-value
returns-in-Putchar-clause-value c m h =
    let old = c.args.nodes.now in
    on_ok_weaker c.print.result (λ e. e ∙ print_is c.args.p.now m c.args.e (symbolic_by old c.args.argument) c.args.x.now (calls_by old c.args.self.now) c.args.e.kind c.in-Putchar.is)
    c.print.ensures.value

pub returns-in-Start-clause-is : goal.returns-in-Start-clause-is
returns-in-Start-clause-is c = c.begin.ensures.is (length c.args.nodes.now) c.requires.symbolic_nodes c.requires.argument
