use Rattle.std.proofs.Common.{◌≡◌, [], ◌<◌, length, slice_index_or, ap, ◌∙◌, arith}
use Rattle.std.proofs.lemmas.Result.{on_ok_weaker}
use Rattle.pg_slice_rules.specs.Known.{on_thread, with_top}
use Rattle.pg_slice_rules.specs.Known as along
use Rattle.pg_slice_registers.specs.SymbolicRegisterNodes.{CallList, calls_by}
use Rattle.pg_slice_registers.proofs.ThreadsMade.{threads_stay}
use Rattle.pg_slice_passes.proofs.ThreadLists.{at_any, one_changes, set_threads}
use Rattle.pg_slice_passes.proofs.threads.after_op.Goals as goal

pub returns-then-t-len-clause-is : goal.returns-then-t-len-clause-is
returns-then-t-len-clause-is c =
    let old = c.args.nodes.now in
    let new = c.after_op.new.nodes in
    let calls = c.args.threads.now.items in
    on_ok_weaker c.after_op.result (λ h. set_threads (length new) calls c.args.t c.after_op.new.self (threads_stay old new calls c.after_op.ensures.grew c.requires.symbolic_nodes) h) c.after_op.ensures.is

pub returns-then-t-len-clause-value : goal.returns-then-t-len-clause-value
returns-then-t-len-clause-value c m region pinned opens ks at k =
    let old = c.args.nodes.now in
    let new = c.after_op.new.nodes in
    let calls = c.args.threads.now.items in
    let t = c.args.t in
    let x = c.args.s.now.x.now in
    let s = c.args.step in
    let change = along.after_op c.args.s.now.p.now s.pinned s.number m region s.word x x.op in
    let lt : t < length calls = omega (arith, c.if-t-len.true, c.len.ensures) in
    let found : c.index_mut-thread.result.now ≡ slice_index_or calls t [] = c.index_mut-thread.ensures.value ∙ at_any calls t _ [] lt in
    on_ok_weaker c.after_op.result (λ q.
    one_changes old new pinned change t calls c.after_op.new.self opens ks c.after_op.ensures.grew c.requires.symbolic_nodes lt
    (q ∙ ap (λ (cs : CallList). change (calls_by old cs)) found) k) (c.after_op.ensures.value m region at)
