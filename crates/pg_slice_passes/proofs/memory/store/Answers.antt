use Rattle.std.proofs.Common.{ℕ, Bool, length, ap, sym, ◌∙◌}
use Rattle.std.proofs.lemmas.Result.{on_ok_weaker}
use Rattle.pg_ir.specs.declared.instr.Op.TheVariants as op
use Rattle.pg_slice_rules.specs.Known.{bytes_stored}
use Rattle.pg_slice_rules.specs.SymbolicValues.{symbolic_of}
use Rattle.pg_slice_rules.specs.declared.decision.Decision.TheVariants.{Exact}
use Rattle.pg_slice_values.proofs.GrowingNodes.{grew_length}
use Rattle.pg_slice_checks.specs.pg_slice_memory.Changes.{symbolics_of}
use Rattle.pg_slice_checks.proofs.of_pg_slice_memory.ByteNodes.{names_more}
use Rattle.pg_slice_registers.specs.SymbolicRegisterNodes.{registers_by}
use Rattle.pg_slice_passes.proofs.StoredBytes.{bounds_spoiled, number_stored}
use Rattle.pg_slice_passes.proofs.memory.store.Goals as goal

pub returns-in_ok-s-clause-is : goal.returns-in_ok-s-clause-is
returns-in_ok-s-clause-is c =
    let old = c.args.nodes.now in
    let new = c.value.new.nodes in
    on_ok_weaker c.store.result (λ f. f (length new) (names_more (length old) (length new) c.args.memory.now (grew_length old new c.value.ensures.grew) c.requires.names)
    (c.held.ensures.is (length new) c.in_ok-s.ensures.is)) c.store.ensures.names

pub returns-in_ok-s-clause-value : goal.returns-in_ok-s-clause-value
returns-in_ok-s-clause-value c w at b =
    let old = c.args.nodes.now in
    let new = c.value.new.nodes in
    let p = c.args.p.now in
    let a = c.args.at.access in
    let rs = registers_by old c.args.registers.now in
    let before = symbolics_of p old c.args.memory.now in
    on_ok_weaker c.store.result (λ f.
    number_stored p old new c.args.memory.now c.store.new.self c.place_of.result _ a.bytes c.held.result c.in_ok-s.s (symbolic_of p rs c.args.v) b c.value.ensures.grew c.requires.names
    (f p new) c.place_of.ensures.place (c.held.ensures.bytes new) c.in_ok-s.ensures.value
    ∙ sym (ap (λ (k : Bool). bytes_stored p k c.args.at.number a rs (op.Store w c.args.v at) before b) (sym c.is_passed_on.ensures ∙ c.if-is_passed_on.true))) c.store.ensures.symbolic

pub returns-else-is_passed_on-clause-is : goal.returns-else-is_passed_on-clause-is
returns-else-is_passed_on-clause-is c = on_ok_weaker c.spoil.result (λ f. f (length c.args.nodes.now) c.requires.names) c.spoil.ensures.names

pub returns-else-is_passed_on-clause-value : goal.returns-else-is_passed_on-clause-value
returns-else-is_passed_on-clause-value c w at b =
    let old = c.args.nodes.now in
    let p = c.args.p.now in
    let a = c.args.at.access in
    let rs = registers_by old c.args.registers.now in
    on_ok_weaker c.spoil.result (λ f.
    ap (λ (g : ℕ → _). g b) (bounds_spoiled p old c.args.memory.now c.spoil.new.self c.bounds-f.result.start c.bounds-f.result.bytes a.pointer (Exact c.args.at.number)
    (f p old) c.bounds-f.ensures.start c.bounds-f.ensures.bytes)
    ∙ sym (ap (λ (k : Bool). bytes_stored p k c.args.at.number a rs (op.Store w c.args.v at) (symbolics_of p old c.args.memory.now) b) (sym c.is_passed_on.ensures ∙ c.if-is_passed_on.false))) c.spoil.ensures.symbolic
