use Rattle.std.proofs.Common.{◌≡◌, ℕ, Option, Some, OnOk, length, ap, sym, ◌∙◌}
use Rattle.std.proofs.lemmas.Result.{on_ok_weaker}
use Rattle.pg_ir.specs.declared.instr.Instr.{Instr}
use Rattle.pg_slice_rules.specs.Known.{bytes_freed, region_of}
use Rattle.pg_slice_rules.specs.Moments.{instr_in}
use Rattle.pg_slice_rules.specs.SymbolicValues.{Symbolic}
use Rattle.pg_slice_decisions.specs.Steps.{taken_by}
use Rattle.pg_slice_checks.specs.pg_slice_memory.Changes.{symbolics_of}
use Rattle.pg_slice_checks.proofs.of_pg_slice_memory.ByteNodes.{names_more}
use Rattle.pg_slice_values.proofs.GrowingNodes.{grew_length}
use Rattle.pg_slice_registers.proofs.KeptValues.{symbolic_nodes_kept}
use Rattle.pg_slice_passes.proofs.KeptKnowledge.{bytes_in, knows_more, on_ok_each, threads_in}
use Rattle.pg_slice_passes.proofs.LiveSteps.{edge_stands, op_known, step_at}
use Rattle.pg_slice_passes.proofs.state.SymbolicRun.live_op.Goals as goal

pub after_op-requires-clause-block : goal.after_op-requires-clause-block
after_op-requires-clause-block c = edge_stands c.args.s.now.r.now c.args.s.now.n
    (length c.args.s.now.p.now.blocks) c.op_step-step.result c.requires.number c.op_step-step.ensures.landmark c.requires.block

pub returns-clause-is : goal.returns-clause-is
returns-clause-is c =
    let old = c.args.nodes.now in
    let new = c.after_op.new.nodes in
    let s = c.args.self.now in
    let g = c.after_op.ensures.grew in
    on_ok_weaker c.forget_instance.result (λ f. record {
      threads = c.in_ok-after_op.ensures.is;
      bytes = f (length new) (names_more (length old) (length new) s.memory (grew_length old new g) c.requires.symbolic_nodes.bytes);
      words = symbolic_nodes_kept old new s.words.items g c.requires.symbolic_nodes.words;
    }) c.forget_instance.ensures.is

pub returns-clause-value : goal.returns-clause-value
returns-clause-value c m regions kind k land is word did t i h =
    let old = c.args.nodes.now in
    let new = c.after_op.new.nodes in
    let s = c.args.self.now in
    let p = c.args.s.now.p.now in
    let x = c.args.s.now.x.now in
    let n = c.args.s.now.n in
    let d = taken_by c.args.s.now.d.now in
    let step = c.op_step-step.result in
    let region = region_of p regions m (Some x) in
    let here = region_of p regions m (instr_in p m) in
    let g = c.after_op.ensures.grew in
    let more = knows_more p old new d.pinned s k g c.requires.symbolic_nodes h in
    let same = rw land at c.op_step-step.ensures.landmark in
    let at = step_at p regions m x step c.marks.result.now kind is did i same (rw land at c.marks.ensures.marks) in
    let threads = c.in_ok-after_op.ensures.value m region d.pinned s.extents.items k.threads at (threads_in p old d.pinned s k h) in
    let freed : (b : ℕ) → OnOk c.forget_instance.result (symbolics_of p new c.forget_instance.new.memory b ≡ bytes_freed step.pinned n here (symbolics_of p new s.memory) b) =
    λ b. (rw land at (c.forget_instance.ensures.value p new b)) same.0 in
    on_ok_weaker c.forget_instance.result (λ f.
    op_known p new _ d n m region x kind k step c.args.t is c.op_step-step.ensures.number c.op_step-step.ensures.pinned (c.op_step-step.ensures.word ∙ sym word) t threads
    (λ b.
    ap (λ (y : ℕ → Symbolic). bytes_freed step.pinned n region y b) (bytes_in p new d.pinned s k more)
    ∙ ap (λ (o : Option Instr). bytes_freed step.pinned n (region_of p regions m o) (symbolics_of p new s.memory) b) (sym i)
    ∙ sym (f b)) more.words) (on_ok_each c.forget_instance.result (λ b. symbolics_of p new c.forget_instance.new.memory b ≡ bytes_freed step.pinned n here (symbolics_of p new s.memory) b) freed)
