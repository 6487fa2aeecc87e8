-- The flow of control between blocks, by the targets of their last instructions.
use Rattle.std.proofs.Common.{◌≡◌, ℕ, ◌-◌, ◌<◌, ◌≤◌, List, length, Option, Some, None, refl, sym, ap, ◌∙◌, subst, arith, inl, inr, ◌⊎◌}
use Rattle.std.specs.Prelude.{Contains, slice_get}
use Rattle.std.proofs.lemmas.Bool.{cases_lt}
use Rattle.pg_cfg.specs.Graphs.{Edge, Walk, targets_of, targets_in}
use Rattle.pg_cfg.specs.Graphs.Walk.{first, then}
use Rattle.pg_ir.specs.declared.instr.Instr.{Instr}
use Rattle.pg_ir.specs.Program.{NumberedProgram, function_of, first_of, end_of}
use Rattle.pg_ir.specs.Edges as edges
use Rattle.pg_ir.specs.WellFormed.{IsProgram, IsInBlock}
use Rattle.pg_ir.proofs.FunctionPlaces.{block_held, some_in}
use Rattle.pg_region_paths.proofs.Elements.{none_in}
use Rattle.pg_region.specs.Regions.{flow_between, flow_of}
use Rattle.pg_region.proofs.FlowGraphs.{flow_at, got_past, length_flow}
use Rattle.pg_law_instances.proofs.FramesBehindEdges.{target_fits}

-- an edge is one of a block's last instruction
pub edge_of : (p : NumberedProgram) (b c : ℕ) → b < length p.blocks → Contains (edges.successors p b) c → Edge (flow_of p) b c
unfolding flow_of targets_of
edge_of p b c lt h = record { leads = subst (λ (o : Option (List ℕ)). Contains (targets_in o) c) (sym (flow_at p (length p.blocks) b lt)) h }

pub edge_parts : (p : NumberedProgram) (b c : ℕ) → Edge (flow_of p) b c → (b < length p.blocks) × Contains (edges.successors p b) c
unfolding flow_of targets_of
edge_parts p b c e = go (cases_lt b (length p.blocks)) e.leads
  where
    go : (b < length p.blocks) ⊎ (length p.blocks ≤ b) → Contains (targets_in (slice_get (flow_between p (length p.blocks)) b)) c → (b < length p.blocks) × Contains (edges.successors p b) c
    go (inl lt) h = (lt, subst (λ (o : Option (List ℕ)). Contains (targets_in o) c) (flow_at p (length p.blocks) b lt) h)
    go (inr le) h =
        let n : length p.blocks ≡ length (flow_between p (length p.blocks)) = sym (length_flow p (length p.blocks)) in
        absurd (none_in c (subst (λ (o : Option (List ℕ)). Contains (targets_in o) c) (got_past (flow_between p (length p.blocks)) b (omega (arith, n, le))) h))

-- an edge leads to a block of the same function
pub successor_fits : (p : NumberedProgram) (b c : ℕ) → IsProgram p → b < length p.blocks → Contains (edges.successors p b) c → (c < length p.blocks) × (function_of p c ≡ function_of p b)
unfolding edges.successors first_of end_of
successor_fits p b c program lt h =
    let some : first_of p b < end_of p b = some_in p b (slice_get p.blocks b) program refl lt in
    go (slice_get p.instrs (end_of p b - 1)) refl (block_held p b (end_of p b - 1) program (omega (arith, some)) (omega (arith, some))) h
  where
    go : (o : Option Instr) → slice_get p.instrs (end_of p b - 1) ≡ o → IsInBlock b o → Contains (edges.targets_in o) c → (c < length p.blocks) × (function_of p c ≡ function_of p b)
    go None e i d = absurd i
    go (Some x) e i d = let t = target_fits p (end_of p b - 1) x c program e d in (t.0, t.1 ∙ ap (function_of p) i)

pub edge_fits : (p : NumberedProgram) (b c : ℕ) → IsProgram p → Edge (flow_of p) b c → (c < length p.blocks) × (function_of p c ≡ function_of p b)
edge_fits p b c program e = let h = edge_parts p b c e in successor_fits p b c program h.0 h.1

-- a walk stays in a function
pub walk_fits : (p : NumberedProgram) (j a x : ℕ) → IsProgram p → Walk (flow_of p) j a x → (x < length p.blocks) × (function_of p x ≡ function_of p a)
walk_fits p j a x program (first e h) = edge_fits p a x program e
walk_fits p j a x program (then {b = y} w e h) = let r = walk_fits p j a y program w in let s = edge_fits p y x program e in (s.0, s.1 ∙ r.1)
