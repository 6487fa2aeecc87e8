-- Regions that were sought, one branch after another.
use Rattle.std.proofs.Common.{◌≡◌, ℕ, zero, suc, ◌+◌, ◌<◌, ◌≤◌, Bool, true, List, [], ◌∷◌, ◌++◌, length, replicate, Option, Some, None, sym, ap}
use Rattle.std.proofs.Common.{◌∙◌, subst, arith, inl, inr, ◌⊎◌}
use Rattle.std.specs.Prelude.{slice_get, slice_set}
use Rattle.std.proofs.lemmas.Bool.{cases_eq}
use Rattle.std.proofs.lemmas.List.{length-replicate}
use Rattle.std.proofs.lemmas.Option.{slice_get_within}
use Rattle.pg_cfg.specs.Graphs.{EdgeLists, Enters, IsClosed}
use Rattle.pg_cfg.specs.Graphs.Enters.{now, after}
use Rattle.pg_ir.specs.Program.{NumberedProgram}
use Rattle.pg_region_accesses.specs.Accesses.{RootedList}
use Rattle.pg_region.specs.declared.region.Region.{Region}
use Rattle.pg_region.specs.Alike.{HasRegionOf}
use Rattle.pg_region.specs.Finders.{FinderParts, IsFinder}
use Rattle.pg_region.specs.Regions.{RegionOf, flow_of}
use Rattle.pg_region.proofs.FlowGraphs.{flow_size, reach_within}
use Rattle.pg_law_effects.proofs.of_pg_run.Threads.{last_own, set_length, set_other, set_own}
use Rattle.pg_run_trace.specs.declared.step.Step.{Step}
use Rattle.pg_slice_replay.specs.declared.found.FoundRegion.{FoundRegion}
use Rattle.pg_slice_replay.specs.declared.found.Sought.{Sought}
use Rattle.pg_slice_replay.specs.declared.found.Sought.TheVariants as sought
use Rattle.pg_slice_replay.specs.Sought.{AddsRegion, AreFound, IsFoundAs, IsFoundIn, IsKeptIn, IsNowKnown, WasSought, WithinProgram, was_sought}

-- ---- none was sought

none_in : (p : NumberedProgram) (gated : ℕ → Bool) (sums : ℕ → Option RootedList) (regions : List FoundRegion) (c n k : ℕ)
    → IsFoundIn p gated sums regions c (slice_get (replicate n sought.Unsought) k)
none_in p gated sums regions c zero zero = tt
none_in p gated sums regions c zero (suc k) = tt
none_in p gated sums regions c (suc n) zero = tt
none_in p gated sums regions c (suc n) (suc k) = none_in p gated sums regions c n k

pub none_found : (p : NumberedProgram) (gated : ℕ → Bool) (sums : ℕ → Option RootedList) (blocks : List Sought) (regions : List FoundRegion)
    → blocks ≡ replicate (length p.blocks) sought.Unsought → AreFound p gated sums blocks regions
none_found p gated sums blocks regions e = record {
  count = ap length e ∙ length-replicate (length p.blocks) sought.Unsought;
  found = λ c. subst (λ (l : List Sought). IsFoundIn p gated sums regions c (slice_get l c)) (sym e) (none_in p gated sums regions c (length p.blocks) c);
}

-- ---- one more

kept_more : (p : NumberedProgram) (r : Region) (regions : List FoundRegion) (f : FoundRegion) (k : ℕ) → IsKeptIn p r (slice_get regions k) → IsKeptIn p r (slice_get (regions ++ f ∷ []) k)
kept_more p r [] f zero h = absurd h
kept_more p r [] f (suc k) h = absurd h
kept_more p r (g ∷ regions) f zero h = h
kept_more p r (g ∷ regions) f (suc k) h = kept_more p r regions f k h

as_more : (p : NumberedProgram) (gated : ℕ → Bool) (sums : ℕ → Option RootedList) (regions : List FoundRegion) (f : FoundRegion) (c : ℕ) (o : Option Sought)
    → IsFoundIn p gated sums regions c o → IsFoundIn p gated sums (regions ++ f ∷ []) c o
as_more p gated sums regions f c None h = tt
as_more p gated sums regions f c (Some sought.Unsought) h = tt
as_more p gated sums regions f c (Some sought.Nothing) h = h
as_more p gated sums regions f c (Some (sought.At k)) h = (h.0, h.1, kept_more p h.0 regions f k h.2)

-- what is known of other blocks is kept
others_more : (p : NumberedProgram) (gated : ℕ → Bool) (sums : ℕ → Option RootedList) (region : Option Region) (old : List FoundRegion) (s : Sought) (new : List FoundRegion) (c : ℕ)
    (o : Option Sought) → AddsRegion p region old s new → IsFoundIn p gated sums old c o → IsFoundIn p gated sums new c o
others_more p gated sums None old s new c o a h = subst (λ (l : List FoundRegion). IsFoundIn p gated sums l c o) (sym a.1) h
others_more p gated sums (Some r) old s new c o a h = subst (λ (l : List FoundRegion). IsFoundIn p gated sums l c o) (sym a.1.behind) (as_more p gated sums old a.0 c o h)

-- and the region of this block is known
own_found : (p : NumberedProgram) (gated : ℕ → Bool) (sums : ℕ → Option RootedList) (region : Option Region) (old : List FoundRegion) (s : Sought) (new : List FoundRegion) (c : ℕ)
    → AddsRegion p region old s new → RegionOf p gated sums c region → IsFoundAs p gated sums new c s
own_found p gated sums None old s new c a h = subst (IsFoundAs p gated sums new c) (sym a.0) h
own_found p gated sums (Some r) old s new c a h =
    subst (IsFoundAs p gated sums new c) (sym a.1.number)
    (r, h, subst (λ (l : List FoundRegion). IsKeptIn p r (slice_get l (length old))) (sym a.1.behind) (subst (IsKeptIn p r) (sym (last_own old a.0)) a.1.kept))

own_sought : (p : NumberedProgram) (region : Option Region) (old : List FoundRegion) (s : Sought) (new : List FoundRegion) → AddsRegion p region old s new → was_sought (Some s) ≡ true
own_sought p None old s new a = ap (λ (x : Sought). was_sought (Some x)) a.0
own_sought p (Some r) old s new a = ap (λ (x : Sought). was_sought (Some x)) a.1.number

-- a region that was added
pub added_known : (p : NumberedProgram) (gated : ℕ → Bool) (sums : ℕ → Option RootedList) (region : Option Region) (blocks : List Sought) (old : List FoundRegion) (s : Sought)
    (new : List FoundRegion) (c : ℕ) → AreFound p gated sums blocks old → AddsRegion p region old s new → RegionOf p gated sums c region → IsNowKnown p gated sums blocks new c s
added_known p gated sums region blocks old s new c h a r = record {
  others = record { count = h.count; found = λ d. others_more p gated sums region old s new d (slice_get blocks d) a (h.found d) };
  own = own_found p gated sums region old s new c a r;
  sought = own_sought p region old s new a;
}

-- the region of another block's branch, which was sought
pub like_known : (p : NumberedProgram) (gated : ℕ → Bool) (sums : ℕ → Option RootedList) (blocks : List Sought) (regions : List FoundRegion) (s : Sought) (b c : ℕ)
    → AreFound p gated sums blocks regions → slice_get blocks b ≡ Some s → was_sought (Some s) ≡ true → HasRegionOf p gated sums b c → IsNowKnown p gated sums blocks regions c s
like_known p gated sums blocks regions s b c h at known k = record { others = h; own = own s (subst (IsFoundIn p gated sums regions b) at (h.found b)); sought = known }
  where
    own : (s : Sought) → IsFoundAs p gated sums regions b s → IsFoundAs p gated sums regions c s
    own sought.Unsought f = tt
    own sought.Nothing f = k.1 None f
    own (sought.At n) f = (f.0, k.1 (Some f.0) f.1, f.2)

module _ (p : NumberedProgram) (gated : ℕ → Bool) (sums : ℕ → Option RootedList) (blocks : List Sought) (s : Sought) (regions : List FoundRegion) (b : ℕ) (below : b < length p.blocks)
    (h : IsNowKnown p gated sums blocks regions b s) where
  own_block : slice_get (slice_set blocks b s) b ≡ Some s
  own_block = set_own blocks b s (omega (arith, below, h.others.count))

  pub seek_more : AreFound p gated sums (slice_set blocks b s) regions
  seek_more = record { count = set_length blocks b s ∙ h.others.count; found = λ c. go c (cases_eq c b) }
    where
      go : (c : ℕ) → (c ≡ b) ⊎ (c ≡ b → ⊥) → IsFoundIn p gated sums regions c (slice_get (slice_set blocks b s) c)
      go c (inl e) = subst (λ (d : ℕ). IsFoundIn p gated sums regions d (slice_get (slice_set blocks b s) d)) (sym e) (subst (IsFoundIn p gated sums regions b) (sym own_block) h.own)
      go c (inr d) = subst (IsFoundIn p gated sums regions c) (sym (set_other blocks b c s d)) (h.others.found c)

  pub seek_own : was_sought (slice_get (slice_set blocks b s) b) ≡ true
  seek_own = ap was_sought own_block ∙ h.sought

  pub seek_kept : (c : ℕ) → was_sought (slice_get blocks c) ≡ true → was_sought (slice_get (slice_set blocks b s) c) ≡ true
  seek_kept c e = go (cases_eq c b)
    where
      go : (c ≡ b) ⊎ (c ≡ b → ⊥) → was_sought (slice_get (slice_set blocks b s) c) ≡ true
      go (inl q) = subst (λ (d : ℕ). was_sought (slice_get (slice_set blocks b s) d) ≡ true) (sym q) seek_own
      go (inr d) = ap was_sought (set_other blocks b c s d) ∙ e

-- ---- a region lies within its program

enters_within : (g : EdgeLists) (j c : ℕ) → IsClosed g → Enters g j c → j < length g
enters_within g j c closed (now e) = closed.closed c j e.leads
enters_within g j c closed (after {b = b} w e) = closed.closed b j e.leads

pub region_within : (p : NumberedProgram) (gated : ℕ → Bool) (sums : ℕ → Option RootedList) (f : FinderParts) (c : ℕ) (o : Option Region) → IsFinder p sums f
    → RegionOf p gated sums c o → WithinProgram p o
region_within p gated sums f c None h r = tt
region_within p gated sums f c (Some q) h r =
    let closed : IsClosed (flow_of p) = subst IsClosed h.flow h.closed in
    (reach_within p c q.join q.blocks.items closed r.join.before, omega (arith, enters_within (flow_of p) q.join c closed r.join.reached, flow_size p))

-- ---- the steps of a trace

pub not_there : (p : NumberedProgram) (blocks : List Sought) (x : Step) → length p.instrs ≤ x.instr.0 → WasSought p blocks x
not_there p blocks x le i at b = absurd (omega (arith, le, slice_get_within p.instrs x.instr.0 i at))

same_step : (a b : Step) → Some a ≡ Some b → a ≡ b
same_step a b k = cc

-- one step more
pub sought_more : (p : NumberedProgram) (steps : List Step) (old new : List Sought) (i : ℕ) (did : Step) → ((n : ℕ) (x : Step) → n < i → slice_get steps n ≡ Some x → WasSought p old x)
    → ((c : ℕ) → was_sought (slice_get old c) ≡ true → was_sought (slice_get new c) ≡ true) → slice_get steps i ≡ Some did → WasSought p new did →
    (n : ℕ) (x : Step) → n < i + 1 → slice_get steps n ≡ Some x → WasSought p new x
sought_more p steps old new i did before kept at this n x lt e = go (cases_eq n i)
  where
    go : (n ≡ i) ⊎ (n ≡ i → ⊥) → WasSought p new x
    go (inl q) = subst (WasSought p new) (same_step did x (sym at ∙ subst (λ (k : ℕ). slice_get steps k ≡ Some x) q e)) this
    go (inr d) = λ y a b. kept y.block.0 (before n x (omega (arith, lt, d)) e y a b)
