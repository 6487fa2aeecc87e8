use Rattle.std.proofs.Common.{◌∷◌, [], ◌++◌, List, ap, ◌∙◌}
use Rattle.pg_slice_rules.specs.SymbolicValues.{Symbolic}
use Rattle.pg_slice_values.specs.SymbolicNodes.{symbolic_by}
use Rattle.pg_slice_registers.specs.SymbolicRegisterNodes.{registers_by}
use Rattle.pg_slice_registers.proofs.KeptValues.{registers_kept, registers_push}
use Rattle.pg_slice_registers.proofs.operands.push_optional.Goals as goal

pub returns-clause-value : goal.returns-clause-value
returns-clause-value c =
    let old = c.args.nodes.now in
    let new = c.optional.new.nodes in
    let items = c.args.symbolic_nodes.now.items in
    ap (registers_by new) c.in_ok-push.ensures.items
    ∙ registers_push new items c.in_ok-s.s
    ∙ ap (λ (xs : List Symbolic). xs ++ symbolic_by new c.in_ok-s.s ∷ []) (registers_kept old new items c.optional.ensures.grew c.requires.symbolic_nodes)
    ∙ ap (λ (x : Symbolic). registers_by old items ++ x ∷ []) c.in_ok-s.ensures.value
