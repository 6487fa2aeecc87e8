-- The functions of a program have one summary each, and so its branches have the same regions by each table of them.
use Rattle.std.proofs.Common.{◌≡◌, ℕ, zero, suc, ◌<◌, Bool, false, List, length, Option, Some, None, refl, sym, ◌∙◌, arith, inr}
use Rattle.std.proofs.lemmas.Bool.{false_from_ne_true}
use Rattle.pg_ir.specs.Program.{NumberedProgram}
use Rattle.pg_ir.specs.WellFormed.{IsProgram}
use Rattle.pg_region.specs.declared.region.Region.{Region}
use Rattle.pg_region.specs.Regions.{IsJoin, RegionOf}
use Rattle.pg_region_accesses.specs.Accesses.{RootedList}
use Rattle.pg_region_summaries.specs.Calls.{Calls, CanBeQuiet}
use Rattle.pg_region_summaries.specs.Calls.CallsReach.{direct}
use Rattle.pg_region_summaries.specs.Reaches.{reach_at}
use Rattle.pg_region_summaries.specs.Summaries.{AreSummaries}
use Rattle.pg_region_summaries.proofs.CallWalks.{fewer, reaches_itself}
use Rattle.pg_region_summaries.proofs.InstructionPlaces.{callee_small}
use Rattle.pg_region_summaries.proofs.SummariesOfCallees.{blocks_same, summary_same}
use Rattle.pg_slice_passes.specs.pg_slice_replay.OfRegions.{AreRegions}
use Rattle.pg_slice_passes.specs.pg_slice_rules.Freeable.{Regions}
use Rattle.pg_law_reference.proofs.SummariesExist.{are_reaches, reaches}

module _ (p : NumberedProgram) (program : IsProgram p) (gated : ℕ → Bool) (s t : ℕ → Option RootedList) (first : AreSummaries p gated s) (second : AreSummaries p gated t) where
  -- a function calls those alone that reach fewer
  calls_fewer : (f g : ℕ) → f < length p.functions → CanBeQuiet p f → Calls p f g
      → (reach_at (reaches p program gated) g).size < (reach_at (reaches p program gated) f).size
  calls_fewer f g lt can c =
      let small = callee_small p f g program c in
      let once = false_from_ne_true (reach_at (reaches p program gated) g).is_recursive
      (λ e. can.ends g (inr (direct c)) (reaches_itself p (reaches p program gated) g program (are_reaches p program gated) small e)) in
      fewer p (reaches p program gated) f g program (are_reaches p program gated) lt small c once

  one_below : (n f : ℕ) → f < length p.functions → (reach_at (reaches p program gated) f).size < n → s f ≡ t f
  one_below zero f lt less = absurd (omega (arith, less))
  one_below (suc n) f lt less = by_both (λ g small h. one_below n g small h) (s f) (t f) refl refl
    where
      Below : Type 0
      Below = (g : ℕ) → g < length p.functions → (reach_at (reaches p program gated) g).size < n → s g ≡ t g

      quiet : Below → CanBeQuiet p f → s f ≡ t f
      quiet below can = first.quiet f lt can
          ∙ summary_same p gated s t f program (λ g c. let small = callee_small p f g program c in below g small (omega (arith, calls_fewer f g lt can c, less)))
          ∙ sym (second.quiet f lt can)

      by_both : Below → (a b : Option RootedList) → s f ≡ a → t f ≡ b → s f ≡ t f
      by_both below None None e i = e ∙ sym i
      by_both below (Some xs) b e i = quiet below (first.others f xs lt e)
      by_both below None (Some xs) e i = quiet below (second.others f xs lt i)

  -- each function has one summary
  pub one_summary : (f : ℕ) → f < length p.functions → s f ≡ t f
  one_summary f lt = one_below (suc (reach_at (reaches p program gated) f).size) f lt (omega arith)

  join_by_second : (c j : ℕ) (blocks : List ℕ) (accesses : RootedList) → IsJoin p gated s c j blocks accesses → IsJoin p gated t c j blocks accesses
  join_by_second c j blocks accesses h = record { reached = h.reached; before = h.before; quiet = sym (blocks_same false p gated s t blocks program one_summary) ∙ h.quiet }

  join_by_first : (c j : ℕ) (blocks : List ℕ) (accesses : RootedList) → IsJoin p gated t c j blocks accesses → IsJoin p gated s c j blocks accesses
  join_by_first c j blocks accesses h = record { reached = h.reached; before = h.before; quiet = blocks_same false p gated s t blocks program one_summary ∙ h.quiet }

  region_by_second : (c : ℕ) (o : Option Region) → RegionOf p gated s c o → RegionOf p gated t c o
  region_by_second c None h = λ k blocks accesses j. h k blocks accesses (join_by_first c k blocks accesses j)
  region_by_second c (Some r) h = record {
    join = join_by_second c r.join r.blocks.items r.accesses.items h.join;
    fewest = λ k blocks accesses j. h.fewest k blocks accesses (join_by_first c k blocks accesses j);
  }

  -- regions by one table are regions by the other
  pub same_regions : (regions : Regions) → AreRegions p gated s regions → AreRegions p gated t regions
  same_regions regions h = record { found = h.found; right = λ c. region_by_second c (h.found c) (h.right c); given = h.given }
