use Rattle.std.proofs.Common.{◌≡◌, ◌++◌, ◌∷◌, [], List, length, arith, sym, ap, refl, subst, ◌∙◌, Option, if◌then◌else◌}
use Rattle.std.specs.Prelude.{◌&&◌, not, is_some}
use Rattle.pg_slice_rules.specs.declared.decision.Decision.TheVariants.{Pinned}
use Rattle.pg_slice_rules.specs.Freeable.{FreeRegion}
use Rattle.pg_slice_rules.specs.Known.{Reference, Seen, is_branch, region_of}
use Rattle.pg_slice_rules.specs.Moments.{instr_in}
use Rattle.pg_slice_decisions.specs.Steps.{taken_by}
use Rattle.pg_slice_checks.specs.Asks.{Adds, AreNamed}
use Rattle.pg_slice_checks.specs.declared.asked.Asked.{Asked}
use Rattle.pg_precondition.specs.Nodes.{NodeList}
use Rattle.pg_slice_replay.specs.Kept.{landmark_at}
use Rattle.pg_slice_replay.specs.Landmarks.{Landmark, landmark_of}
use Rattle.pg_slice_checks.specs.pg_slice_memory.Changes as bytes
use Rattle.pg_slice_checks.proofs.of_pg_slice_memory.ByteNodes.{names_more}
use Rattle.pg_slice_registers.specs.SymbolicRegisterNodes.{AreSymbolicNodes, registers_by}
use Rattle.pg_slice_registers.proofs.KeptValues.{symbolic_nodes_kept}
use Rattle.pg_slice_values.specs.declared.symbolic_node.SymbolicNode.{SymbolicNode}
use Rattle.pg_slice_values.proofs.GrowingNodes.{grew_length, grew_none, grew_then}
use Rattle.pg_run_trace.specs.declared.step.Step.{Step}
use Rattle.pg_slice_passes.specs.Along.{needs_at, own_asks}
use Rattle.pg_slice_passes.specs.Passes.{IsAt}
use Rattle.pg_slice_passes.specs.State.{symbolic_nodes_in}
use Rattle.pg_slice_passes.proofs.OneStepMore.{named_more}
use Rattle.pg_slice_passes.proofs.RegionFootprints.{is_there, none_added}
use Rattle.pg_slice_passes.proofs.StepReads.{checks_at, checks_dead, live_adds, live_is, named_by, nothing_own, own_live, region_of_it, symbolic_nodes_at, told_at}
use Rattle.pg_slice_passes.proofs.needs.needs.Goals as goal

pub returns-then-not-is_live-clause-missing : goal.returns-then-not-is_live-clause-missing
returns-then-not-is_live-clause-missing c = λ R y at.
    let d = taken_by c.args.at.now.d.now in
    let dead = live_is R d c.args.at.now.p.now c.args.nodes.now c.args.s.now c.args.at.now.r.now c.args.at.now.n c.args.at.now.step.now c.args.at.now.x.now y at c.is_live.result
    (c.is_live.ensures c.args.at.now.p.now c.args.nodes.now d.pinned y.before at.before) ∙ c.if-not-is_live.true in
    none_added c.args.asked.now.missing.items (own_asks R d y) (nothing_own R d y dead)

pub returns-then-not-is_live-clause-checks : goal.returns-then-not-is_live-clause-checks
returns-then-not-is_live-clause-checks c = λ R y ns input g at.
    let d = taken_by c.args.at.now.d.now in
    let dead = live_is R d c.args.at.now.p.now c.args.nodes.now c.args.s.now c.args.at.now.r.now c.args.at.now.n c.args.at.now.step.now c.args.at.now.x.now y at c.is_live.result
    (c.is_live.ensures c.args.at.now.p.now c.args.nodes.now d.pinned y.before at.before) ∙ c.if-not-is_live.true in
    checks_dead R d y ns c.args.asked.now.checks.items input dead

pub operand_needs-requires-clause-symbolic_nodes : goal.operand_needs-requires-clause-symbolic_nodes
operand_needs-requires-clause-symbolic_nodes c =
    subst (λ (l : List SymbolicNode). AreSymbolicNodes (length c.args.nodes.now) l) (sym c.registers-registers.ensures)
    (symbolic_nodes_at (length c.args.nodes.now) c.args.s.now c.args.at.now.step.now.thread.0 c.requires.symbolic_nodes)

pub region_needs-requires-clause-registers : goal.region_needs-requires-clause-registers
region_needs-requires-clause-registers c =
    subst (λ (l : List SymbolicNode). AreSymbolicNodes (length c.operand_needs.new.nodes) l) (sym c.registers-registers.ensures)
    (symbolic_nodes_kept c.args.nodes.now c.operand_needs.new.nodes (symbolic_nodes_in c.args.s.now c.args.at.now.step.now.thread.0) c.operand_needs.ensures.grew
    (symbolic_nodes_at (length c.args.nodes.now) c.args.s.now c.args.at.now.step.now.thread.0 c.requires.symbolic_nodes))

pub region_needs-requires-clause-names : goal.region_needs-requires-clause-names
region_needs-requires-clause-names c =
    names_more (length c.args.nodes.now) (length c.operand_needs.new.nodes) c.args.s.now.memory
    (grew_length c.args.nodes.now c.operand_needs.new.nodes c.operand_needs.ensures.grew) c.requires.symbolic_nodes.bytes

pub returns-clause-missing : goal.returns-clause-missing
returns-clause-missing c = λ R y at.
    let a = c.args in
    let d = taken_by a.at.now.d.now in
    let n1 = c.operand_needs.new.nodes in
    let ns = c.region_needs.new.nodes in
    let g2 = c.region_needs.ensures.grew in
    let g = grew_then a.nodes.now n1 ns c.operand_needs.ensures.grew g2 in
    let alive = live_is R d a.at.now.p.now a.nodes.now a.s.now a.at.now.r.now a.at.now.n a.at.now.step.now a.at.now.x.now y at c.is_live.result (c.is_live.ensures a.at.now.p.now a.nodes.now d.pinned y.before at.before)
    ∙ c.if-not-is_live.false in
    let mid : Asked = record { missing = c.pin_needs.new.missing; checks = a.asked.now.checks } in
    let between = c.operand_needs.new.asked in
    let new = c.region_needs.new.asked in
    let regs = c.registers-registers.result.now in
    let rest = told_at a.at.now.p.now ns ns regs a.s.now.memory between new (landmark_at a.at.now.r.now a.at.now.n) (grew_none ns ns refl) c.in_ok-region_needs.ensures.adds in
    let added = live_adds R d a.at.now.p.now a.nodes.now a.s.now a.at.now.r.now a.at.now.n a.at.now.step.now a.at.now.x.now y at ns g c.requires.symbolic_nodes regs c.registers-registers.ensures c.is_fixed.result c.is_fixed.ensures alive
    mid between new
    (c.in_ok-operand_needs.ensures.adds ns g2) rest in
    let region = region_of a.at.now.p.now R.regions y.moment (instr_in a.at.now.p.now y.moment) in
    let kind = a.at.now.step.now.kind in
    own_live R d y a.asked.now.missing.items mid.missing.items new.missing.items (needs_at R d y) kind a.at.now.n region alive (ap (λ (x : Step). x.kind) at.did) at.number at.region
    (region_of_it (landmark_at a.at.now.r.now a.at.now.n) (landmark_of a.at.now.p.now R.regions y.moment) (λ (l : Landmark). l.region)
    (λ (q : Option FreeRegion). mid.missing.items ≡ a.asked.now.missing.items ++ (if (is_branch kind && not (is_some q)) && not (d.pinned a.at.now.n) then Pinned a.at.now.n ∷ [] else [])) at.landmark
    c.in_ok-pin_needs.ensures)
    added.missing refl

pub returns-clause-checks : goal.returns-clause-checks
returns-clause-checks c = λ R y ns input to at.
    let a = c.args in
    let d = taken_by a.at.now.d.now in
    let regs = c.registers-registers.result.now in
    let mid : Asked = record { missing = c.pin_needs.new.missing; checks = a.asked.now.checks } in
    let n1 = c.operand_needs.new.nodes in
    let n2 = c.region_needs.new.nodes in
    let g2 = grew_then n1 n2 ns c.region_needs.ensures.grew to in
    let g = grew_then a.nodes.now n1 ns c.operand_needs.ensures.grew g2 in
    let alive = live_is R d a.at.now.p.now a.nodes.now a.s.now a.at.now.r.now a.at.now.n a.at.now.step.now a.at.now.x.now y at c.is_live.result (c.is_live.ensures a.at.now.p.now a.nodes.now d.pinned y.before at.before)
    ∙ c.if-not-is_live.false in
    let between = c.operand_needs.new.asked in
    let new = c.region_needs.new.asked in
    let rest = told_at a.at.now.p.now n2 ns regs a.s.now.memory between new (landmark_at a.at.now.r.now a.at.now.n) to c.in_ok-region_needs.ensures.adds in
    let added = live_adds R d a.at.now.p.now a.nodes.now a.s.now a.at.now.r.now a.at.now.n a.at.now.step.now a.at.now.x.now y at ns g c.requires.symbolic_nodes regs c.registers-registers.ensures c.is_fixed.result c.is_fixed.ensures alive
    mid between new
    (c.in_ok-operand_needs.ensures.adds ns g2) rest in
    checks_at R d y ns mid.checks.items new.checks.items input (added.checks input)

pub returns-clause-named : goal.returns-clause-named
returns-clause-named c = λ h.
    let a = c.args in
    let n1 = c.operand_needs.new.nodes in
    let ns = c.region_needs.new.nodes in
    let g2 = c.region_needs.ensures.grew in
    let g = grew_then a.nodes.now n1 ns c.operand_needs.ensures.grew g2 in
    let between = c.operand_needs.new.asked in
    let new = c.region_needs.new.asked in
    let regs = c.registers-registers.result.now in
    let first = c.in_ok-operand_needs.ensures.adds ns g2 in
    let rest = told_at a.at.now.p.now ns ns regs a.s.now.memory between new (landmark_at a.at.now.r.now a.at.now.n) (grew_none ns ns refl) c.in_ok-region_needs.ensures.adds in
    named_by a.at.now.p.now ns a.at.now.step.now (registers_by ns regs) (bytes.symbolics_of a.at.now.p.now ns a.s.now.memory) (landmark_at a.at.now.r.now a.at.now.n) between new (is_there a.at.now.r.now a.at.now.n c.requires.number) rest
    (first.named (named_more (length a.nodes.now) (length ns) a.asked.now.checks.items (grew_length a.nodes.now ns g) h))
