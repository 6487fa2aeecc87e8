use Rattle.std.proofs.Common.{◌≡◌, ◌++◌, List, length, take, drop, ◌∙◌, arith, subst, sym}
use Rattle.pg_slice_values.specs.declared.symbolic_node.SymbolicNode.{SymbolicNode}
use Rattle.pg_slice_registers.specs.SymbolicRegisterNodes.{AreSymbolicNodes}
use Rattle.pg_slice_registers.proofs.SetRegisters.{lent}
use Rattle.pg_slice_registers.proofs.call.Registers.set.Goals as goal

pub returns-clause-is : goal.returns-clause-is
returns-clause-is c n a h =
    let items = c.self.inside.items in
    let new = c.set.new.registers in
    let e : take items.len (new ++ drop (length new) items.items) ≡ new = lent _ _ _ (omega (arith, c.deref_mut.ensures.len, c.set.auto.registers)) in
    subst (λ (l : List SymbolicNode). AreSymbolicNodes n l) (sym e) (c.set.ensures.is n (subst (λ (l : List SymbolicNode). AreSymbolicNodes n l) (sym (c.deref_mut.ensures.value ∙ c.self.view_is)) a) h)
