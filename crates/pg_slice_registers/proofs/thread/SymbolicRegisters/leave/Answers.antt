use Rattle.std.proofs.Common.{ap, ◌∙◌, subst, sym}
use Rattle.pg_slice_rules.specs.Known.{set_symbolic, with_top}
use Rattle.pg_slice_values.specs.SymbolicNodes.{symbolic_by}
use Rattle.pg_slice_registers.specs.SymbolicRegisterNodes.{AreCalls, CallList, calls_by}
use Rattle.pg_slice_registers.proofs.ThreadCalls.{under_are, under_by}
use Rattle.pg_slice_registers.proofs.thread.SymbolicRegisters.leave.Goals as goal

pub returns-clause-value : goal.returns-clause-value
returns-clause-value c ns =
    let f = set_symbolic c.args.target (symbolic_by ns c.args.s) in
    c.set.ensures.value ns ∙ ap (λ (calls : CallList). with_top f (calls_by ns calls)) c.pop.ensures ∙ ap (with_top f) (under_by ns c.args.self.now)

pub returns-clause-is : goal.returns-clause-is
returns-clause-is c n a h = c.set.ensures.is n (subst (λ (calls : CallList). AreCalls n calls) (sym c.pop.ensures) (under_are n c.args.self.now a)) h
