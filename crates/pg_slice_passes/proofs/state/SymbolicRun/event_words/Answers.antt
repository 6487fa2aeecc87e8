use Rattle.std.proofs.Common.{◌≡◌, [], List, length, slice_index_or, refl, ap, sym, ◌∙◌, subst}
use Rattle.std.proofs.lemmas.Result.{on_ok_weaker}
use Rattle.pg_slice_rules.specs.Known as along
use Rattle.pg_slice_rules.specs.SymbolicValues.{Symbolic}
use Rattle.pg_slice_checks.proofs.of_pg_slice_memory.ByteNodes.{names_more}
use Rattle.pg_slice_values.specs.declared.symbolic_node.SymbolicNode.{SymbolicNode}
use Rattle.pg_slice_values.proofs.GrowingNodes.{grew_length}
use Rattle.pg_slice_registers.specs.SymbolicRegisterNodes.{AreSymbolicNodes, CallList, registers_by, top_symbolic_nodes}
use Rattle.pg_slice_registers.proofs.ThreadsMade.{threads_stay}
use Rattle.pg_slice_passes.specs.State.{symbolic_nodes_in}
use Rattle.pg_slice_passes.proofs.KeptKnowledge.{registers_in, words_known}
use Rattle.pg_slice_passes.proofs.ThreadLists.{registers_are}
use Rattle.pg_slice_passes.proofs.state.SymbolicRun.event_words.Goals as goal

pub words_after-requires-clause-registers : goal.words_after-requires-clause-registers
words_after-requires-clause-registers c =
    let old = c.args.nodes.now in
    let s = c.args.self.now in
    let registers : c.thread_registers.result.now ≡ symbolic_nodes_in s c.args.t =
    c.thread_registers.ensures ∙ ap (λ (cs : List CallList). top_symbolic_nodes (slice_index_or cs c.args.t [])) c.as_slice.ensures.value in
    subst (λ (rs : List SymbolicNode). AreSymbolicNodes (length old) rs) (sym registers) (registers_are (length old) s.threads.items c.args.t c.requires.symbolic_nodes.threads)

pub returns-clause-is : goal.returns-clause-is
returns-clause-is c =
    let old = c.args.nodes.now in
    let new = c.words_after.new.nodes in
    let s = c.args.self.now in
    let g = c.words_after.ensures.grew in
    on_ok_weaker c.words_after.result (λ a. record {
      threads = threads_stay old new s.threads.items g c.requires.symbolic_nodes.threads;
      bytes = names_more (length old) (length new) s.memory (grew_length old new g) c.requires.symbolic_nodes.bytes;
      words = a;
    }) c.words_after.ensures.is

pub returns-clause-value : goal.returns-clause-value
returns-clause-value c pinned k h =
    let old = c.args.nodes.now in
    let new = c.words_after.new.nodes in
    let s = c.args.self.now in
    let p = c.args.p.now in
    let o = c.args.x.now.op in
    let registers : c.thread_registers.result.now ≡ symbolic_nodes_in s c.args.t =
    c.thread_registers.ensures ∙ ap (λ (cs : List CallList). top_symbolic_nodes (slice_index_or cs c.args.t [])) c.as_slice.ensures.value in
    on_ok_weaker c.words_after.result (λ e.
    words_known p old new pinned s _ k (along.words_after p c.args.t c.args.kind (along.registers_of k c.args.t) o k.words) c.words_after.ensures.grew c.requires.symbolic_nodes h refl refl refl
    (ap (λ (ws : List Symbolic). along.words_after p c.args.t c.args.kind (along.registers_of k c.args.t) o ws) h.words
    ∙ ap (λ (rs : List Symbolic). along.words_after p c.args.t c.args.kind rs o (registers_by old s.words.items))
    (sym (registers_in p old pinned s k c.args.t h) ∙ ap (registers_by old) (sym registers))
    ∙ sym e)) c.words_after.ensures.value
