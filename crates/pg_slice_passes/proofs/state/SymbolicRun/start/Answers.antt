use Rattle.std.proofs.Common.{ℕ, length, ap, sym, ◌∙◌}
use Rattle.pg_slice_rules.specs.Known.{start_of}
use Rattle.pg_slice_rules.specs.SymbolicValues.{Symbolic}
use Rattle.pg_slice_values.proofs.GrowingNodes.{grew_then}
use Rattle.pg_slice_registers.proofs.KeptValues.{registers_kept, symbolic_nodes_kept}
use Rattle.pg_slice_passes.proofs.KeptKnowledge.{knows_by}
use Rattle.pg_slice_passes.proofs.state.SymbolicRun.start.Goals as goal

pub returns-clause-grew : goal.returns-clause-grew
returns-clause-grew c = grew_then c.args.nodes.now c.first_words.new.nodes c.first_threads.new.nodes c.first_words.ensures.grew c.first_threads.ensures.grew

pub returns-clause-is : goal.returns-clause-is
returns-clause-is c =
    let n1 = c.first_words.new.nodes in
    let n2 = c.first_threads.new.nodes in
    record {
      threads = c.in_ok-threads.ensures.is;
      bytes = c.new.ensures.names (length n2);
      words = symbolic_nodes_kept n1 n2 c.in_ok-words.words.items c.first_threads.ensures.grew c.in_ok-words.ensures.is;
    }

pub returns-clause-knows : goal.returns-clause-knows
returns-clause-knows c pinned =
    let p = c.args.p.now in
    let n1 = c.first_words.new.nodes in
    let n2 = c.first_threads.new.nodes in
    knows_by p n2 pinned _ (start_of p) (c.in_ok-threads.ensures.knows pinned c.in_ok-extents.extents.items (c.in_ok-extents.ensures pinned))
    (λ b. sym (ap (λ (f : ℕ → Symbolic). f b) (c.new.ensures.symbolic p n2)))
    (sym (registers_kept n1 n2 c.in_ok-words.words.items c.first_threads.ensures.grew c.in_ok-words.ensures.is ∙ c.in_ok-words.ensures.value))
