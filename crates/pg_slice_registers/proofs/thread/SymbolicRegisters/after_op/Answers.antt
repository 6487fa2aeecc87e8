use Rattle.std.proofs.Common.{List, ap, ◌∙◌, sym}
use Rattle.std.proofs.lemmas.Result.{on_ok_weaker}
use Rattle.pg_ir.specs.declared.value.Value.{Value}
use Rattle.pg_ir.specs.declared.instr.Op.TheVariants as op
use Rattle.pg_slice_registers.specs.SymbolicRegisterNodes.{calls_by}
use Rattle.pg_slice_registers.proofs.DefinedSteps.{br_is, call_is, cond_is, ret_is, switch_is}
use Rattle.pg_slice_registers.proofs.thread.SymbolicRegisters.after_op.Goals as goal

pub returns-in-Br-clause-value : goal.returns-in-Br-clause-value
returns-in-Br-clause-value c m region h =
    on_ok_weaker c.along_edge.result (λ e. e ∙ br_is c.args.p.now c.args.x.now c.args.step c.args.sets.now m region h (calls_by c.args.nodes.now c.args.self.now) c.in-Br.to c.in-Br.is)
    c.along_edge.ensures.value

pub returns-in-Call-clause-value : goal.returns-in-Call-clause-value
returns-in-Call-clause-value c m region h =
    on_ok_weaker c.enter.result (λ e. e
    ∙ call_is c.args.p.now c.args.x.now c.args.step c.args.sets.now m region h (calls_by c.args.nodes.now c.args.self.now) c.in-Call.function c.as_slice.result.now
    (c.in-Call.is ∙ ap (λ (l : List Value). op.Call c.in-Call.function l) (sym c.as_slice.ensures.items))) c.enter.ensures.value

pub returns-in-Ret-clause-value : goal.returns-in-Ret-clause-value
returns-in-Ret-clause-value c m region h =
    on_ok_weaker c.give_back.result (λ e. e ∙ ret_is c.args.p.now c.args.x.now c.args.step c.args.sets.now m region h (calls_by c.args.nodes.now c.args.self.now) c.in-Ret.value c.in-Ret.is)
    c.give_back.ensures.value

pub returns-in-CondBr-clause-value : goal.returns-in-CondBr-clause-value
returns-in-CondBr-clause-value c m region h =
    on_ok_weaker c.branch-self.result (λ e. e
    ∙ cond_is c.args.p.now c.args.x.now c.args.step c.args.sets.now m region h
    (calls_by c.args.nodes.now c.args.self.now) c.in-CondBr.cond c.in-CondBr.yes c.in-CondBr.no c.in-CondBr.is) c.branch-self.ensures.value

pub returns-in-Switch-clause-value : goal.returns-in-Switch-clause-value
returns-in-Switch-clause-value c m region h =
    on_ok_weaker c.branch-self-in-Switch.result (λ e. e
    ∙ switch_is c.args.p.now c.args.x.now c.args.step c.args.sets.now m region h
    (calls_by c.args.nodes.now c.args.self.now) c.in-Switch.width c.in-Switch.on c.in-Switch.other c.in-Switch.cases c.in-Switch.is) c.branch-self-in-Switch.ensures.value
