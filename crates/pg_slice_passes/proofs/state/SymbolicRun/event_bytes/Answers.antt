use Rattle.std.proofs.Common.{◌≡◌, ℕ, List, refl, ap, sym, ◌∙◌}
use Rattle.std.proofs.lemmas.Result.{on_ok_weaker}
use Rattle.pg_slice_rules.specs.Known.{bytes_by}
use Rattle.pg_slice_rules.specs.SymbolicValues.{Symbolic}
use Rattle.pg_slice_checks.specs.pg_slice_memory.Changes.{symbolics_of}
use Rattle.pg_slice_registers.specs.SymbolicRegisterNodes.{registers_by}
use Rattle.pg_slice_registers.proofs.KeptValues.{symbolic_nodes_kept}
use Rattle.pg_slice_registers.proofs.ThreadsMade.{threads_stay}
use Rattle.pg_slice_passes.proofs.KeptKnowledge.{bytes_in, bytes_known, on_ok_each}
use Rattle.pg_slice_passes.proofs.state.SymbolicRun.event_bytes.Goals as goal

pub returns-clause-is : goal.returns-clause-is
returns-clause-is c =
    let old = c.args.nodes.now in
    let new = c.write.new.nodes in
    let s = c.args.self.now in
    on_ok_weaker c.write.result (λ a. record {
      threads = threads_stay old new s.threads.items c.write.ensures.grew c.requires.symbolic_nodes.threads;
      bytes = a;
      words = symbolic_nodes_kept old new s.words.items c.write.ensures.grew c.requires.symbolic_nodes.words;
    }) c.write.ensures.is

pub returns-clause-value : goal.returns-clause-value
returns-clause-value c p pinned k h =
    let old = c.args.nodes.now in
    let new = c.write.new.nodes in
    let s = c.args.self.now in
    let e = c.args.e.now in
    let words = c.as_slice.result.now in
    let items : words ≡ s.words.items = c.as_slice.ensures.value in
    on_ok_weaker c.write.result (λ f.
    bytes_known p old new pinned s _ k (bytes_by e e.write k.words k.bytes) c.write.ensures.grew c.requires.symbolic_nodes h refl refl refl
    (λ b.
    ap (λ (ws : List Symbolic). bytes_by e e.write ws k.bytes b) (h.words ∙ ap (registers_by old) (sym items))
    ∙ ap (λ (g : ℕ → Symbolic). bytes_by e e.write (registers_by old words) g b) (bytes_in p old pinned s k h)
    ∙ sym (f b))) (on_ok_each c.write.result (λ b. symbolics_of p new c.write.new.memory b ≡ bytes_by e e.write (registers_by old words) (symbolics_of p old s.memory) b) (c.write.ensures.value p))
