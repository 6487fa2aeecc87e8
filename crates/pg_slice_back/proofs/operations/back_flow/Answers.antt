use Rattle.std.proofs.Common.{List, sym, ap, ◌∙◌}
use Rattle.std.specs.Prelude.{slice_get}
use Rattle.pg_ir.specs.declared.value.Value.{Value}
use Rattle.std.proofs.lemmas.Result.{on_ok_weaker}
use Rattle.pg_slice_back.proofs.Dispatch.{call_back, edge_back, return_back, thread_back}
use Rattle.pg_slice_back.proofs.operations.back_flow.Goals as goal

pub returns-then-takes_edge : goal.returns-then-takes_edge
returns-then-takes_edge c = λ R e step m st call kind met.
    edge_back R e c.args.s.now.program.now c.args.s.now.reference.now c.args.s.now.instr.now step c.args.s.now.counts c.args.s.now.number m st c.args.at call kind c.args.demanded.now c.back_edge.new.demanded
    (sym c.takes_edge.ensures
    ∙ c.if-takes_edge.true) c.edge_of.result c.edge_of.ensures.is
    c.in_ok-back_edge.ensures met

pub returns-in-Call : goal.returns-in-Call
returns-in-Call c = on_ok_weaker c.back_call.result (λ h R e step m st call kind met.
    call_back R e c.args.s.now.program.now c.args.s.now.reference.now c.args.s.now.instr.now step c.args.s.now.counts c.args.s.now.number m st c.args.at call kind c.args.demanded.now c.back_call.new.demanded _ _ c.in-Call.is
    (λ after before l f. h after before l (λ i z b q. f i z b (ap (λ (xs : List Value). slice_get xs i) (sym c.as_slice.ensures.items) ∙ q))) met) c.back_call.ensures

pub returns-in-Ret : goal.returns-in-Ret
returns-in-Ret c = on_ok_weaker c.back_returned.result (λ h R e step m st call kind met.
    return_back R e c.args.s.now.program.now c.args.s.now.reference.now c.args.s.now.instr.now step c.args.s.now.counts c.args.s.now.number m st c.args.at call kind c.args.demanded.now c.back_returned.new.demanded _
    c.in-Ret.is c.target.result c.held.result c.target.ensures.target c.held.ensures h met) c.back_returned.ensures

pub returns-in_default : goal.returns-in_default
returns-in_default c = λ R e step m st call kind met.
    thread_back R e c.args.s.now.program.now c.args.s.now.reference.now c.args.s.now.instr.now step c.args.s.now.counts c.args.s.now.number m st c.args.at call kind c.args.demanded.now c.leave_thread.new.demanded
    c.leave_thread.ensures met
