use Rattle.std.proofs.Common.{◌≡◌, ℕ, ◌||◌, [], Bool, List, length, slice_index_or, refl, ap, sym, ◌∙◌, subst}
use Rattle.std.proofs.lemmas.Result.{on_ok_weaker}
use Rattle.pg_ir.specs.declared.instr.Op.TheVariants as op
use Rattle.pg_ir.specs.declared.value.Value.{Value}
use Rattle.pg_num.specs.declared.width.Width.{Width}
use Rattle.pg_slice_rules.specs.Known.{after_access, bytes_stored, load_of, on_thread, with_top}
use Rattle.pg_slice_rules.specs.SymbolicValues.{Symbolic}
use Rattle.pg_slice_checks.specs.pg_slice_memory.Changes.{symbolics_of}
use Rattle.pg_slice_checks.proofs.of_pg_slice_memory.ByteNodes.{names_more}
use Rattle.pg_slice_values.specs.declared.symbolic_node.SymbolicNode.{SymbolicNode}
use Rattle.pg_slice_values.specs.SymbolicNodes.{symbolic_by}
use Rattle.pg_slice_values.proofs.GrowingNodes.{grew_length}
use Rattle.pg_slice_registers.specs.SymbolicRegisterNodes.{AreSymbolicNodes, CallList, registers_by, top_symbolic_nodes}
use Rattle.pg_slice_registers.proofs.KeptValues.{symbolic_nodes_kept}
use Rattle.pg_slice_registers.proofs.ThreadsMade.{threads_stay}
use Rattle.pg_slice_rules.specs.Moments.{thread_in}
use Rattle.pg_slice_passes.specs.State.{KnowsThreads, symbolic_nodes_in}
use Rattle.pg_slice_passes.proofs.KeptKnowledge.{bytes_in, knows_more, on_ok_each, threads_in}
use Rattle.pg_slice_passes.proofs.LiveSteps.{load_known, store_known}
use Rattle.pg_slice_passes.proofs.ThreadLists.{registers_are}
use Rattle.pg_slice_passes.proofs.state.SymbolicRun.live_access.Goals as goal

-- ---- a load

pub returns-in_ok-loaded-in-Load-clause-is : goal.returns-in_ok-loaded-in-Load-clause-is
returns-in_ok-loaded-in-Load-clause-is c =
    let old = c.args.nodes.now in
    let new = c.load.new.nodes in
    let s = c.args.self.now in
    let g = c.load.ensures.grew in
    record {
      threads = c.after_access.ensures.is (length new) (threads_stay old new s.threads.items g c.requires.symbolic_nodes.threads) c.in_ok-loaded-in-Load.ensures.is;
      bytes = names_more (length old) (length new) s.memory (grew_length old new g) c.requires.symbolic_nodes.bytes;
      words = symbolic_nodes_kept old new s.words.items g c.requires.symbolic_nodes.words;
    }

pub returns-in_ok-loaded-in-Load-clause-value : goal.returns-in_ok-loaded-in-Load-clause-value
returns-in_ok-loaded-in-Load-clause-value c d m region k e t h =
    let old = c.args.nodes.now in
    let new = c.load.new.nodes in
    let s = c.args.self.now in
    let p = c.args.s.now.p.now in
    let x = c.args.s.now.x.now in
    let a = c.args.at.access in
    let n = c.args.at.number in
    let g = c.load.ensures.grew in
    let more = knows_more p old new d.pinned s k g c.requires.symbolic_nodes h in
    let loaded : (w : Width) (from : Value) → x.op ≡ op.Load w from → symbolic_by new c.in_ok-loaded-in-Load.loaded ≡ load_of (d.exact n) n w a k.bytes = λ w from i.
    let q : c.in-Load.width ≡ w = cc in
    c.in_ok-loaded-in-Load.ensures.value
    ∙ ap (λ (v : Width). load_of c.args.at.exact n v a (symbolics_of p old s.memory)) q
    ∙ ap (λ (b : Bool). load_of b n w a (symbolics_of p old s.memory)) (sym e)
    ∙ ap (λ (f : ℕ → Symbolic). load_of (d.exact n) n w a f) (sym (bytes_in p old d.pinned s k h)) in
    let threads = c.after_access.ensures.value new p (d.exact n) n a k.bytes d.pinned s.extents.items k.threads loaded (threads_stay old new s.threads.items g c.requires.symbolic_nodes.threads)
    (threads_in p new d.pinned s k more) in
    load_known p new s _ d n m region x a k c.in-Load.width _ c.in-Load.is more
    (subst (λ (u : ℕ). KnowsThreads new d.pinned c.after_access.new.threads.items s.extents.items (on_thread (with_top (after_access p (d.exact n) n a k.bytes x x.op)) u k.threads))
    (sym t) threads) refl refl

-- ---- a store

pub store-requires-clause-registers : goal.store-requires-clause-registers
store-requires-clause-registers c =
    let old = c.args.nodes.now in
    let s = c.args.self.now in
    let registers : c.thread_registers.result.now ≡ symbolic_nodes_in s c.args.t =
    c.thread_registers.ensures ∙ ap (λ (cs : List CallList). top_symbolic_nodes (slice_index_or cs c.args.t [])) c.as_slice.ensures.value in
    subst (λ (rs : List SymbolicNode). AreSymbolicNodes (length old) rs) (sym registers) (registers_are (length old) s.threads.items c.args.t c.requires.symbolic_nodes.threads)

pub returns-in-Store-clause-is : goal.returns-in-Store-clause-is
returns-in-Store-clause-is c =
    let old = c.args.nodes.now in
    let new = c.store.new.nodes in
    let s = c.args.self.now in
    let g = c.store.ensures.grew in
    on_ok_weaker c.store.result (λ a. record {
      threads = threads_stay old new s.threads.items g c.requires.symbolic_nodes.threads;
      bytes = a;
      words = symbolic_nodes_kept old new s.words.items g c.requires.symbolic_nodes.words;
    }) c.store.ensures.is

pub returns-in-Store-clause-value : goal.returns-in-Store-clause-value
returns-in-Store-clause-value c d m region k e t h =
    let old = c.args.nodes.now in
    let new = c.store.new.nodes in
    let s = c.args.self.now in
    let p = c.args.s.now.p.now in
    let x = c.args.s.now.x.now in
    let a = c.args.at.access in
    let n = c.args.at.number in
    let known = c.args.at.exact || a.event in
    let before = symbolics_of p old s.memory in
    let o = op.Store c.in-Store.width c.in-Store.value c.in-Store.at in
    let registers : c.thread_registers.result.now ≡ symbolic_nodes_in s (thread_in m) =
    c.thread_registers.ensures ∙ ap (λ (cs : List CallList). top_symbolic_nodes (slice_index_or cs c.args.t [])) c.as_slice.ensures.value ∙ ap (λ (u : ℕ). symbolic_nodes_in s u) (sym t) in
    let same : known ≡ (d.exact n || a.event) = ap (λ (b : Bool). b || a.event) (sym e) in
    on_ok_weaker c.store.result (λ f.
    store_known p old new s _ d n m region x a k c.in-Store.width c.in-Store.value c.in-Store.at c.in-Store.is c.store.ensures.grew c.requires.symbolic_nodes h refl refl refl
    (λ b.
    f b
    ∙ ap (λ (y : Bool). bytes_stored p y n a (registers_by old c.thread_registers.result.now) o before b) same
    ∙ ap (λ (rs : List SymbolicNode). bytes_stored p (d.exact n || a.event) n a (registers_by old rs) o before b) registers))
    (on_ok_each c.store.result (λ b. symbolics_of p new c.store.new.memory b ≡ bytes_stored p known n a (registers_by old c.thread_registers.result.now) o before b)
    (c.store.ensures.value c.in-Store.width c.in-Store.at))
