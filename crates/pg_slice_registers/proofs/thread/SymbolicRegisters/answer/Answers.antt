use Rattle.std.proofs.Common.{length, ap, ◌∙◌}
use Rattle.pg_slice_rules.specs.SymbolicValues.{Symbolic}
use Rattle.pg_slice_rules.specs.Known.{set_symbolic, with_top}
use Rattle.pg_slice_values.specs.SymbolicNodes.{symbolic_by}
use Rattle.pg_slice_registers.specs.SymbolicRegisterNodes.{calls_by}
use Rattle.pg_slice_registers.proofs.ThreadCalls.{calls_kept, calls_stay}
use Rattle.pg_slice_registers.proofs.thread.SymbolicRegisters.answer.Goals as goal

pub returns-clause-is : goal.returns-clause-is
returns-clause-is c =
    let new = c.constant.new.nodes in
    c.set.ensures.is (length new) (calls_stay c.args.nodes.now new c.args.self.now c.constant.ensures.grew c.requires.symbolic_nodes) c.in_ok-s.ensures.is

pub returns-clause-value : goal.returns-clause-value
returns-clause-value c =
    let old = c.args.nodes.now in
    let new = c.constant.new.nodes in
    let calls = c.args.self.now in
    c.set.ensures.value new
    ∙ ap (with_top (set_symbolic c.args.target (symbolic_by new c.in_ok-s.s))) (calls_kept old new calls c.constant.ensures.grew c.requires.symbolic_nodes)
    ∙ ap (λ (x : Symbolic). with_top (set_symbolic c.args.target x) (calls_by old calls)) c.in_ok-s.ensures.value
