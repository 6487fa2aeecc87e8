-- The region of a branch that is reached inside lies within the instance.
use Rattle.std.proofs.Common.{◌≡◌, ℕ, ℤ, List, ◌∷◌, Option, Some, sym, ap, ◌∙◌, subst, arith, inl, inr}
use Rattle.std.specs.Prelude.{Contains, slice_get}
use Rattle.pg_run_memory.specs.Memory.{read}
use Rattle.pg_ir.specs.declared.ids.InstrId.{InstrId}
use Rattle.pg_ir.specs.declared.instr.Instr.{Instr}
use Rattle.pg_ir.specs.Program.{NumberedProgram, function_of}
use Rattle.pg_region_paths.specs.FollowedPaths.{PathPointers, followed}
use Rattle.pg_region_accesses.specs.declared.rooted.Rooted.{Rooted}
use Rattle.pg_region_accesses.specs.Accesses.{RootedList}
use Rattle.pg_region_summaries.specs.Blocks.{blocks_of}
use Rattle.pg_region.specs.declared.region.Region.{Region}
use Rattle.pg_region.specs.Regions.{IsRegion}
use Rattle.pg_region.specs.Laws.{AreNested}
use Rattle.pg_region.proofs.NestedRegions.{regions_nest}
use Rattle.pg_run_thread.specs.LocalState.{Frame, LocalState}
use Rattle.pg_run.specs.State.{State}
use Rattle.pg_run.specs.MachineStep.{is_gated}
use Rattle.pg_slice_replay.specs.pg_slice_rules.Freeable.{FreeRegion, bounds_of}
use Rattle.pg_law_instances.specs.Free.{instance_of}
use Rattle.pg_law_instances.specs.Inner.{GoesOnInside, LiesWithin}
use Rattle.pg_law_instances.specs.Inside.{Instance, IsBottom, Stands, region_set, registers_by}
use Rattle.pg_law_instances.specs.Leads.{IsReached as LeadsTo}
use Rattle.pg_law_instances.proofs.FreeRegions.{join_fits}
use Rattle.pg_law_instances.proofs.JoinLeadsOut.{leads_out}
use Rattle.pg_law_instances.proofs.OpenExtentIsInstance.{bottom_of}
use Rattle.pg_law_instances.proofs.FramePlaces.{at_block}
use Rattle.pg_law_instances.proofs.InnerRegionPaths.{inner_reached, region_function}

module _ (p : NumberedProgram) (gated : List InstrId) (sums : ℕ → Option RootedList) (input : List ℤ) (c : ℕ) (outer inner : Region) (q : FreeRegion) (first s : State) (l0 l : LocalState)
    (f0 frame : Frame) (fs0 below : List Frame) (t : ℕ) (x : Instr)
    (is_outer : IsRegion p (λ i. is_gated gated i) sums c outer) (h : GoesOnInside (instance_of p (λ i. is_gated gated i) sums outer q first l0 f0 fs0) gated input s t l)
    (frames : l.frames ≡ frame ∷ below) (at : slice_get p.instrs frame.place ≡ Some x) (is_inner : IsRegion p (λ i. is_gated gated i) sums x.block.0 inner) where
  abbrev I : Instance
  I = instance_of p (λ i. is_gated gated i) sums outer q first l0 f0 fs0

  stands : Stands I (frame ∷ below)
  stands = subst (Stands I) frames h.inside.stands

  nest : IsBottom I frame below → AreNested outer inner
  nest b =
      let v = leads_out I gated input h.steps s h.end t l h.can.branch.program h.can.branch.summaries h.small
      (join_fits p c outer.join h.can.branch.program is_outer.join.reached) h.can h.reached h.run h.together h.next in
      let d : Contains outer.blocks.items x.block.0 = subst (λ (n : ℕ). Contains outer.blocks.items n) (sym (at_block I (region_set I) frame x h.can.branch.program b.stands at).0) b.stands.among in
      regions_nest p (λ i. is_gated gated i) sums c x.block.0 v.block outer inner is_outer is_inner d v.path v.loud

  leads : (a : Rooted) (f : PathPointers) → Contains inner.accesses.items a → followed p (registers_by frame.registers) (read s.memory) a.path ≡ Some f
      → LeadsTo q.accesses a.writes (bounds_of f.last)
  leads a f m e = go stands
    where
      go : Stands I (frame ∷ below) → LeadsTo q.accesses a.writes (bounds_of f.last)
      go (inl b) = inner_reached I (region_set I) frame (read s.memory) inner.blocks.items inner.accesses.items a f h.can.branch.region b.stands h.can.cells is_inner.join.quiet (nest b).blocks m e
      go (inr b) =
          let blk = (at_block I b.0.set frame x h.can.branch.program b.0.stands at).0 in
          let fn : function_of p x.block.0 ≡ frame.function = ap (function_of p) blk ∙ b.0.stands.function in
          inner_reached I b.0.set frame (read s.memory) inner.blocks.items inner.accesses.items a f b.0.quiet b.0.stands h.can.cells is_inner.join.quiet
          (λ n k. subst (λ (ls : List ℕ). Contains ls n) (sym b.0.blocks)
          (subst (λ (g : ℕ). Contains (blocks_of p g) n) fn (region_function p (λ i. is_gated gated i) sums x.block.0 inner h.can.branch.program is_inner.join n k))) m e

  pub lies_within : LiesWithin outer inner I s frame below
  lies_within = record { leads = leads; nested = λ n. nest (bottom_of I frame below stands (omega (arith, n))) }
