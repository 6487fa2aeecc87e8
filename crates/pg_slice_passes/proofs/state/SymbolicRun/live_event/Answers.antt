use Rattle.std.proofs.Common.{◌≡◌, List, length, slice_index_or, ap, sym, ◌∙◌, subst}
use Rattle.std.proofs.lemmas.Result.{on_ok_weaker}
use Rattle.pg_slice_rules.specs.Known.{SymbolicState, bytes_by, registers_of, words_after}
use Rattle.pg_slice_rules.specs.SymbolicValues.{Symbolic, unset}
use Rattle.pg_slice_values.specs.declared.symbolic_node.SymbolicNode.{SymbolicNode}
use Rattle.pg_slice_values.specs.SymbolicNodes.{symbolic_by}
use Rattle.pg_slice_registers.specs.SymbolicRegisterNodes.{registers_by}
use Rattle.pg_slice_values.proofs.GrowingNodes.{grew_length, grew_then, symbolic_kept, symbolic_node_more}
use Rattle.pg_slice_passes.specs.State.{Knows}
use Rattle.pg_slice_passes.proofs.KeptKnowledge.{kept_more, knows_more}
use Rattle.pg_slice_passes.proofs.LiveSteps.{event_is, has_operands}
use Rattle.pg_slice_passes.proofs.state.SymbolicRun.live_event.Goals as goal

pub event_bytes-requires : goal.event_bytes-requires
event_bytes-requires c = record { symbolic_nodes = kept_more c.args.nodes.now c.word_of.new.nodes c.args.self.now c.word_of.ensures.grew c.requires.symbolic_nodes }

pub event_words-requires-clause-call : goal.event_words-requires-clause-call
event_words-requires-clause-call c = has_operands c.args.e.now c.args.s.now.x.now.op c.requires.call

pub event_threads-requires-clause-call : goal.event_threads-requires-clause-call
event_threads-requires-clause-call c = has_operands c.args.e.now c.args.s.now.x.now.op c.requires.call

pub event_threads-requires-clause-argument : goal.event_threads-requires-clause-argument
event_threads-requires-clause-argument c =
    let n1 = c.word_of.new.nodes in
    let n2 = c.event_bytes.new.nodes in
    let n3 = c.event_words.new.nodes in
    let g = grew_then n1 n2 n3 c.event_bytes.ensures.grew c.event_words.ensures.grew in
    symbolic_node_more (length n1) (length n3) c.in_ok-argument.argument (grew_length n1 n3 g) c.in_ok-argument.ensures.is

pub returns-clause-grew : goal.returns-clause-grew
returns-clause-grew c =
    let n0 = c.args.nodes.now in
    let n1 = c.word_of.new.nodes in
    let n2 = c.event_bytes.new.nodes in
    let n3 = c.event_words.new.nodes in
    let n4 = c.event_threads.new.nodes in
    grew_then n0 n1 n4 c.word_of.ensures.grew (grew_then n1 n2 n4 c.event_bytes.ensures.grew (grew_then n2 n3 n4 c.event_words.ensures.grew c.event_threads.ensures.grew))

pub returns-clause-value : goal.returns-clause-value
returns-clause-value c d n m region k f t h =
    let p = c.args.s.now.p.now in
    let x = c.args.s.now.x.now in
    let e = c.args.e.now in
    let s = c.args.self.now in
    let u = c.args.t in
    let n0 = c.args.nodes.now in
    let n1 = c.word_of.new.nodes in
    let n2 = c.event_bytes.new.nodes in
    let n3 = c.event_words.new.nodes in
    let n4 = c.event_threads.new.nodes in
    let symbolic_node = c.in_ok-argument.argument in
    let first = knows_more p n0 n1 d.pinned s k c.word_of.ensures.grew c.requires.symbolic_nodes h in
    let k1 : SymbolicState = record k { bytes = bytes_by e e.write k.words k.bytes } in
    let k2 : SymbolicState = record k1 { words = words_after p u e.kind (registers_of k u) x.op k.words } in
    let g = grew_then n1 n2 n3 c.event_bytes.ensures.grew c.event_words.ensures.grew in
    let argument : symbolic_by n3 symbolic_node ≡ slice_index_or k.words u unset =
    symbolic_kept n1 n3 symbolic_node g c.in_ok-argument.ensures.is ∙ c.in_ok-argument.ensures.value ∙ ap (λ (rs : List SymbolicNode). slice_index_or (registers_by n0 rs) u unset) c.as_slice.ensures.value
    ∙ ap (λ (ws : List Symbolic). slice_index_or ws u unset) (sym h.words) in
    on_ok_weaker c.event_threads.result (λ q. subst (λ (z : SymbolicState). Knows p n4 d.pinned c.event_threads.new.self z) (event_is p d n m region x e k u (symbolic_by n3 symbolic_node) t argument) q)
    (c.event_threads.ensures.value m d.pinned k2 f (c.in_ok-event_words.ensures.value d.pinned k1 (c.in_ok-event_bytes.ensures.value p d.pinned k first)))
