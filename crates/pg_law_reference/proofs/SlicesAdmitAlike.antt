-- Slices of one reference run admit the same inputs, by whichever tables of summaries its regions are.
use Rattle.std.proofs.Common.{◌≡◌, ℕ, ℤ, ◌<◌, ◌^◌, Bool, true, false, List, length, Option, refl, sym}
use Rattle.pg_ir.specs.declared.ids.InstrId.{InstrId}
use Rattle.pg_ir.specs.Program.{NumberedProgram}
use Rattle.pg_ir.specs.WellFormed.{IsProgram}
use Rattle.pg_slice_passes.specs.pg_law_effects.Reached.{HoldBytes}
use Rattle.pg_law_instances.proofs.ReferenceExtents.{extents_keep}
use Rattle.pg_law_instances.proofs.of_pg_law_least.SmallerAdmitsMore.{admits_more}
use Rattle.pg_law_reference.specs.Given.{reference_of}
use Rattle.pg_region_accesses.specs.Accesses.{RootedList, is_gated}
use Rattle.pg_region_summaries.specs.Summaries.{AreSummaries}
use Rattle.pg_run.specs.Follow.{Exits, following_of}
use Rattle.pg_run_trace.specs.declared.step.Step.{Step}
use Rattle.pg_run_trace.specs.declared.turn.Turn.{Turn}
use Rattle.pg_slice_passes.specs.pg_slice_replay.OfRegions.{AreRegions}
use Rattle.pg_slice_passes.specs.pg_slice_rules.Closed.{IsSlice, admits}
use Rattle.pg_slice_passes.specs.pg_slice_rules.Freeable.{Regions}
use Rattle.pg_slice_passes.specs.pg_slice_rules.Known.{Taken}
use Rattle.pg_law_reference.proofs.BranchRegions.{regions_are}
use Rattle.pg_law_reference.proofs.SummariesAreOne.{same_regions}

same_truth : (a b : Bool) → (a ≡ true → b ≡ true) → (b ≡ true → a ≡ true) → a ≡ b
same_truth true true f g = refl
same_truth true false f g = sym (f refl)
same_truth false true f g = g refl
same_truth false false f g = refl

module _ (p : NumberedProgram) (program : IsProgram p) (bytes : HoldBytes p.globals) (input : List ℤ) (small : length input < 2 ^ 64) (turns : List Turn) (gated : List InstrId)
    (xs : List Step) (printed : List ℕ) (value : ℤ) (exits : following_of p input turns gated ≡ Exits xs printed value) where
  pub admit_alike : (s t : ℕ → Option RootedList) → AreSummaries p (is_gated gated) s → AreSummaries p (is_gated gated) t → (d e : Taken)
      → ((regions : Regions) → AreRegions p (is_gated gated) s regions → IsSlice (reference_of p regions gated input xs) d)
      → ((regions : Regions) → AreRegions p (is_gated gated) t regions → IsSlice (reference_of p regions gated input xs) e)
      → (regions : Regions) × AreRegions p (is_gated gated) s regions × AreRegions p (is_gated gated) t regions
      × ((other : List ℤ) → admits (reference_of p regions gated input xs) d other ≡ admits (reference_of p regions gated input xs) e other)
  admit_alike s t first second d e slice_d slice_e =
      let some = regions_are p (is_gated gated) s program first in
      let over = same_regions p program (is_gated gated) s t first second some.0 some.1 in
      let keeps = extents_keep p gated s some.0 some.1 program first input small bytes turns xs printed value exits in
      let run = reference_of p some.0 gated input xs in
      let of_d = slice_d some.0 some.1 in
      let of_e = slice_e some.0 over in (
        some.0,
        some.1,
        over,
        λ other. same_truth (admits run d other) (admits run e other)
            (admits_more run keeps e d (of_e.least d of_d.closed) other) (admits_more run keeps d e (of_d.least e of_e.closed) other),
      )
