use Rattle.std.proofs.Common.{Option, length, ap, sym, ◌∙◌}
use Rattle.std.proofs.lemmas.Result.{on_ok_weaker}
use Rattle.pg_slice_rules.specs.Known.{bytes_by, written_symbolic}
use Rattle.pg_slice_values.proofs.GrowingNodes.{grew_length}
use Rattle.pg_slice_checks.specs.pg_slice_memory.Changes.{symbolics_of}
use Rattle.pg_slice_checks.proofs.of_pg_slice_memory.ByteNodes.{names_more}
use Rattle.pg_slice_registers.specs.SymbolicRegisterNodes.{registers_by}
use Rattle.pg_slice_passes.proofs.StoredBytes.{number_stored}
use Rattle.pg_run_trace.specs.declared.step.Write.{Write}
use Rattle.pg_slice_passes.proofs.memory.write.Goals as goal

pub returns-in_ok-s-in-Some-clause-is : goal.returns-in_ok-s-in-Some-clause-is
returns-in_ok-s-in-Some-clause-is c =
    let old = c.args.nodes.now in
    let new = c.written.new.nodes in
    on_ok_weaker c.store.result (λ f. f (length new) (names_more (length old) (length new) c.args.memory.now (grew_length old new c.written.ensures.grew) c.requires.names)
    (c.held.ensures.is (length new) c.in_ok-s-in-Some.ensures.is)) c.store.ensures.names

pub returns-in_ok-s-in-Some-clause-value : goal.returns-in_ok-s-in-Some-clause-value
returns-in_ok-s-in-Some-clause-value c p b =
    let old = c.args.nodes.now in
    let new = c.written.new.nodes in
    let e = c.args.e.now in
    on_ok_weaker c.store.result (λ f.
    number_stored p old new c.args.memory.now c.store.new.self c.place_of.result _ 8 c.held.result c.in_ok-s-in-Some.s
    (written_symbolic e c.in-Some.w e.kind (registers_by old c.args.words.now)) b c.written.ensures.grew c.requires.names (f p new) c.place_of.ensures.place
    (c.held.ensures.bytes new) c.in_ok-s-in-Some.ensures.value
    ∙ sym (ap (λ (o : Option Write). bytes_by e o (registers_by old c.args.words.now) (symbolics_of p old c.args.memory.now) b) c.in-Some.is)) c.store.ensures.symbolic
