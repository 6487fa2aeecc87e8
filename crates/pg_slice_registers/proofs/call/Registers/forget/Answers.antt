use Rattle.std.proofs.Common.{◌≡◌, ◌++◌, List, length, take, drop, ap, ◌∙◌, arith, subst, sym}
use Rattle.pg_slice_rules.specs.Known.{forgotten_from}
use Rattle.pg_slice_values.specs.declared.symbolic_node.SymbolicNode.{SymbolicNode}
use Rattle.pg_slice_registers.specs.SymbolicRegisterNodes.{AreSymbolicNodes, marked, registers_by}
use Rattle.pg_slice_registers.proofs.SetRegisters.{lent}
use Rattle.pg_slice_registers.proofs.call.Registers.forget.Goals as goal

pub returns-clause-value : goal.returns-clause-value
returns-clause-value c ns =
    let items = c.self.inside.items in
    let new = c.forget.new.registers in
    let e : take items.len (new ++ drop (length new) items.items) ≡ new = lent _ _ _ (omega (arith, c.deref_mut.ensures.len, c.forget.auto.registers)) in
    ap (registers_by ns) e ∙ c.forget.ensures.value ns ∙ ap (λ (l : List SymbolicNode). forgotten_from 0 (marked c.args.sets.now) c.args.by (registers_by ns l))
    (c.deref_mut.ensures.value ∙ c.self.view_is)

pub returns-clause-is : goal.returns-clause-is
returns-clause-is c n a =
    let items = c.self.inside.items in
    let new = c.forget.new.registers in
    let e : take items.len (new ++ drop (length new) items.items) ≡ new = lent _ _ _ (omega (arith, c.deref_mut.ensures.len, c.forget.auto.registers)) in
    subst (λ (l : List SymbolicNode). AreSymbolicNodes n l) (sym e) (c.forget.ensures.is n (subst (λ (l : List SymbolicNode). AreSymbolicNodes n l) (sym (c.deref_mut.ensures.value ∙ c.self.view_is)) a))
