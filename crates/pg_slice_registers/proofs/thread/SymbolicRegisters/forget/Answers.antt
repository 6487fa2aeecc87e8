use Rattle.std.proofs.Common.{ap, ◌∙◌, subst, sym}
use Rattle.pg_slice_rules.specs.Known.{forgotten_from, with_top}
use Rattle.pg_slice_registers.specs.SymbolicRegisterNodes.{AreCalls, CallList, calls_by, marked}
use Rattle.pg_slice_registers.proofs.ThreadCalls.{with_top_are, with_top_by}
use Rattle.pg_slice_registers.proofs.thread.SymbolicRegisters.forget.Goals as goal

pub returns-clause-value : goal.returns-clause-value
returns-clause-value c ns =
    let s = c.self.inside in
    let f = forgotten_from 0 (marked c.args.sets.now) c.args.by in
    with_top_by ns f s.present c.forget.new.self s.callers.items s.ended (c.forget.ensures.value ns) ∙ ap (λ (calls : CallList). with_top f (calls_by ns calls)) c.self.view_is

pub returns-clause-is : goal.returns-clause-is
returns-clause-is c n a =
    let s = c.self.inside in
    with_top_are n s.present c.forget.new.self s.callers.items s.ended (c.forget.ensures.is n) (subst (λ (calls : CallList). AreCalls n calls) (sym c.self.view_is) a)
