use Rattle.std.proofs.Common.{◌≡◌, [], ◌<◌, length, slice_index_or, ap, ◌∙◌, arith}
use Rattle.std.proofs.lemmas.Result.{on_ok_weaker}
use Rattle.pg_slice_rules.specs.Known.{on_thread, with_top}
use Rattle.pg_slice_rules.specs.Known as along
use Rattle.pg_slice_values.specs.SymbolicNodes.{symbolic_by}
use Rattle.pg_slice_registers.specs.SymbolicRegisterNodes.{CallList, calls_by}
use Rattle.pg_slice_registers.proofs.ThreadsMade.{threads_stay}
use Rattle.pg_slice_passes.proofs.ThreadLists.{at_any, one_changes, set_threads}
use Rattle.pg_slice_passes.proofs.threads.after_event.Goals as goal

pub returns-then-t-len-clause-is : goal.returns-then-t-len-clause-is
returns-then-t-len-clause-is c =
    let old = c.args.nodes.now in
    let new = c.after_event.new.nodes in
    let calls = c.args.threads.now.items in
    on_ok_weaker c.after_event.result (λ h. set_threads (length new) calls c.args.t c.after_event.new.self (threads_stay old new calls c.after_event.ensures.grew c.requires.symbolic_nodes) h)
    c.after_event.ensures.is

pub returns-then-t-len-clause-value : goal.returns-then-t-len-clause-value
returns-then-t-len-clause-value c m pinned opens ks f k =
    let old = c.args.nodes.now in
    let new = c.after_event.new.nodes in
    let calls = c.args.threads.now.items in
    let t = c.args.t in
    let e = c.args.at.event in
    let change = along.after_event c.args.s.now.p.now m e e.kind (symbolic_by old c.args.at.argument) c.args.s.now.x.now in
    let lt : t < length calls = omega (arith, c.if-t-len.true, c.len.ensures) in
    let found : c.index_mut-thread.result.now ≡ slice_index_or calls t [] = c.index_mut-thread.ensures.value ∙ at_any calls t _ [] lt in
    on_ok_weaker c.after_event.result (λ q.
    one_changes old new pinned change t calls c.after_event.new.self opens ks c.after_event.ensures.grew c.requires.symbolic_nodes lt
    (q ∙ ap (λ (cs : CallList). change (calls_by old cs)) found) k) (c.after_event.ensures.value m f)
