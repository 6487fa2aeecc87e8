use Rattle.std.proofs.Common.{ap, ◌∙◌, subst, sym}
use Rattle.pg_slice_rules.specs.Known.{set_symbolic, with_top}
use Rattle.pg_slice_values.specs.SymbolicNodes.{symbolic_by}
use Rattle.pg_slice_registers.specs.SymbolicRegisterNodes.{AreCalls, CallList, calls_by}
use Rattle.pg_slice_registers.proofs.ThreadCalls.{with_top_are, with_top_by}
use Rattle.pg_slice_registers.proofs.thread.SymbolicRegisters.set.Goals as goal

pub returns-clause-value : goal.returns-clause-value
returns-clause-value c ns =
    let s = c.self.inside in
    with_top_by ns (set_symbolic c.args.target (symbolic_by ns c.args.s)) s.present c.set.new.self s.callers.items s.ended (c.set.ensures.value ns)
    ∙ ap (λ (calls : CallList). with_top (set_symbolic c.args.target (symbolic_by ns c.args.s)) (calls_by ns calls)) c.self.view_is

pub returns-clause-is : goal.returns-clause-is
returns-clause-is c n a h =
    let s = c.self.inside in
    with_top_are n s.present c.set.new.self s.callers.items s.ended (λ b. c.set.ensures.is n b h) (subst (λ (calls : CallList). AreCalls n calls) (sym c.self.view_is) a)
