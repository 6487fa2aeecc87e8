use Rattle.std.proofs.Common.{length, ap, ◌∙◌, subst, sym}
use Rattle.std.proofs.lemmas.Result.{on_ok_weaker}
use Rattle.pg_slice_rules.specs.Known.{along_edge, with_top}
use Rattle.pg_slice_registers.specs.SymbolicRegisterNodes.{AreCalls, CallList, calls_by}
use Rattle.pg_slice_registers.proofs.ThreadCalls.{across, across_are}
use Rattle.pg_slice_registers.proofs.thread.SymbolicRegisters.along_edge.Goals as goal

pub returns-else-self-clause-is : goal.returns-else-self-clause-is
returns-else-self-clause-is c =
    let s = c.self.inside in
    let old = c.args.nodes.now in
    let new = c.along_edge.new.nodes in
    let symbolic_nodes = subst (λ (calls : CallList). AreCalls (length old) calls) (sym c.self.view_is) c.requires.symbolic_nodes in
    on_ok_weaker c.along_edge.result (λ h. across_are old new s.present c.along_edge.new.self s.callers.items s.ended c.along_edge.ensures.grew symbolic_nodes h) c.along_edge.ensures.is

pub returns-else-self-clause-value : goal.returns-else-self-clause-value
returns-else-self-clause-value c =
    let s = c.self.inside in
    let old = c.args.nodes.now in
    let new = c.along_edge.new.nodes in
    let f = along_edge c.args.p.now c.args.from.0 c.args.edge in
    let symbolic_nodes = subst (λ (calls : CallList). AreCalls (length old) calls) (sym c.self.view_is) c.requires.symbolic_nodes in
    on_ok_weaker c.along_edge.result (λ e. across old new f s.present c.along_edge.new.self s.callers.items s.ended c.along_edge.ensures.grew symbolic_nodes e
    ∙ ap (λ (calls : CallList). with_top f (calls_by old calls)) c.self.view_is) c.along_edge.ensures.value
