use Rattle.std.proofs.Common.{length, refl}
use Rattle.std.proofs.lemmas.Result.{on_ok_weaker}
use Rattle.pg_slice_rules.specs.Known.{after_event, on_thread, threads_after}
use Rattle.pg_slice_checks.proofs.of_pg_slice_memory.ByteNodes.{names_more}
use Rattle.pg_slice_values.specs.SymbolicNodes.{symbolic_by}
use Rattle.pg_slice_values.proofs.GrowingNodes.{grew_length, grew_then}
use Rattle.pg_slice_registers.proofs.KeptValues.{symbolic_nodes_kept}
use Rattle.pg_slice_passes.proofs.KeptKnowledge.{threads_in, threads_known}
use Rattle.pg_slice_passes.proofs.state.SymbolicRun.event_threads.Goals as goal

pub returns-clause-grew : goal.returns-clause-grew
returns-clause-grew c = grew_then c.args.nodes.now c.after_event.new.nodes c.with_created.new.nodes c.after_event.ensures.grew c.with_created.ensures.grew

pub returns-clause-is : goal.returns-clause-is
returns-clause-is c =
    let old = c.args.nodes.now in
    let new = c.with_created.new.nodes in
    let s = c.args.self.now in
    let g = returns-clause-grew c in
    on_ok_weaker c.with_created.result (λ a. record {
      threads = a;
      bytes = names_more (length old) (length new) s.memory (grew_length old new g) c.requires.symbolic_nodes.bytes;
      words = symbolic_nodes_kept old new s.words.items g c.requires.symbolic_nodes.words;
    }) c.with_created.ensures.is

pub returns-clause-value : goal.returns-clause-value
returns-clause-value c m pinned k f h =
    let old = c.args.nodes.now in
    let new = c.with_created.new.nodes in
    let s = c.args.self.now in
    let p = c.args.s.now.p.now in
    let e = c.args.at.event in
    let ks = on_thread (after_event p m e e.kind (symbolic_by old c.args.at.argument) c.args.s.now.x.now) c.args.t k.threads in
    on_ok_weaker c.with_created.result (λ t.
    threads_known p old new pinned s _ k (threads_after p e e.kind ks) (returns-clause-grew c) c.requires.symbolic_nodes h refl refl t)
    (c.with_created.ensures.value pinned ks (c.in_ok-after_event.ensures.value m pinned s.extents.items k.threads f (threads_in p old pinned s k h)))
