use Rattle.std.proofs.Common.{◌∷◌, List, map, length, ap, ◌∙◌, subst, sym}
use Rattle.std.proofs.lemmas.Result.{on_ok_weaker}
use Rattle.pg_slice_rules.specs.SymbolicValues.{Symbolic, symbolic_of}
use Rattle.pg_slice_rules.specs.Known.{entered, top_of}
use Rattle.pg_slice_registers.specs.SymbolicRegisterNodes.{AreCalls, CallList, calls_by, registers_by}
use Rattle.pg_slice_registers.proofs.ThreadCalls.{calls_kept, calls_stay, top_by}
use Rattle.pg_slice_registers.proofs.thread.SymbolicRegisters.enter.Goals as goal

pub returns-clause-is : goal.returns-clause-is
returns-clause-is c =
    let new = c.entered.new.nodes in
    on_ok_weaker c.push.result (λ e. subst (λ (calls : CallList). AreCalls (length new) calls) (sym e)
    (c.in_ok-registers.ensures.is, calls_stay c.args.nodes.now new c.args.self.now c.entered.ensures.grew c.requires.symbolic_nodes)) c.push.ensures.pushed

pub returns-clause-value : goal.returns-clause-value
returns-clause-value c =
    let old = c.args.nodes.now in
    let new = c.entered.new.nodes in
    let calls = c.args.self.now in
    let f = λ (rs : List Symbolic). entered c.args.p.now c.args.g (map (symbolic_of c.args.p.now rs) c.args.args.now) in
    on_ok_weaker c.push.result (λ e.
    ap (calls_by new) e
    ∙ ap (λ (x : List Symbolic). x ∷ calls_by new calls) (c.in_ok-registers.ensures.value ∙ ap f (ap (registers_by old) c.registers.ensures ∙ top_by old calls))
    ∙ ap (λ (cs : List (List Symbolic)). f (top_of (calls_by old calls)) ∷ cs) (calls_kept old new calls c.entered.ensures.grew c.requires.symbolic_nodes)) c.push.ensures.pushed
