-- A branch in the region of another has its own region in there.
use Rattle.std.proofs.Common.{◌≡◌, ◌≢◌, ℕ, ◌<◌, Bool, true, false, List, length, Option, Some, None, refl, sym, ap, arith, inl, inr, ◌⊎◌}
use Rattle.std.specs.Prelude.{Contains, is_some}
use Rattle.std.proofs.lemmas.Bool.{true≢false}
use Rattle.pg_cfg.specs.Graphs.{Walk, Path, Enters, IsReach}
use Rattle.pg_cfg.specs.Graphs.Walk.{first, then}
use Rattle.pg_cfg.specs.Nested.{HaveRegions}
use Rattle.pg_cfg.specs.Nested.{AreNested as VerticesNest}
use Rattle.pg_cfg.proofs.Nesting as nesting
use Rattle.pg_ir.specs.Program.{NumberedProgram}
use Rattle.pg_region_accesses.specs.Accesses.{RootedList, block_accesses, sets}
use Rattle.pg_region_accesses.proofs.QuietInParts.{gathered_each, quiet_part, block_grows}
use Rattle.pg_region_accesses.proofs.QuietInstructions.{block_quiet}
use Rattle.pg_region.specs.declared.region.Region.{Region}
use Rattle.pg_region.specs.Regions.{flow_of, IsJoin, IsRegion, IsSmaller}
use Rattle.pg_region.specs.Laws.{IsLoudBlock, AreNested}
use Rattle.pg_region_accesses.proofs.AscendingSets.{strictly_shorter}
use Rattle.pg_region.proofs.AscendingParts.{IsPart, has_part}

abbrev nothing : ℕ → Bool
nothing r = false

module _ (p : NumberedProgram) (gated : ℕ → Bool) (sums : ℕ → Option RootedList) where
  abbrev quiet : ℕ → Bool
  quiet x = is_some (block_accesses false p gated sums nothing x)

  quiet_before : (c j : ℕ) (blocks : List ℕ) (listed : RootedList) → IsJoin p gated sums c j blocks listed → (x : ℕ) → Walk (flow_of p) j c x → quiet x ≡ true
  quiet_before c j blocks listed h x w =
      let y = gathered_each (block_accesses false p gated sums (sets p blocks)) blocks listed h.quiet x ((h.before.exact x).1 w) in
      let e : block_accesses false p gated sums nothing x ≡ Some y.0 = block_grows false p gated sums (sets p blocks) nothing (λ r t. absurd (true≢false (sym t))) x y.0 y.1 in
      ap (λ o. is_some o) e

  loud_none : (v : ℕ) → IsLoudBlock p gated sums v → (o : Option RootedList) → block_accesses false p gated sums nothing v ≡ o → is_some o ≡ false
  loud_none v l None e = refl
  loud_none v l (Some listed) e = absurd (l.loud (block_quiet false p gated sums nothing v listed e l.at l.instr l.is))

  not_met : {j c x : ℕ} → Walk (flow_of p) j c x → x ≢ j
  not_met (first e h) = h
  not_met (then w e h) = h

  module _ (d : ℕ) (inner : Region) (k : IsRegion p gated sums d inner) where
    -- no join has a proper part of a region before it
    pub no_fewer : (j : ℕ) → Enters (flow_of p) j d → ((x : ℕ) → Walk (flow_of p) j d x → Walk (flow_of p) inner.join d x) → Walk (flow_of p) inner.join d j → ⊥
    no_fewer j e w a = has_part (λ x. Walk (flow_of p) j d x) inner.blocks.items k.join.before.ascending found
      where
        found : (xs : List ℕ) → IsPart (λ x. Walk (flow_of p) j d x) inner.blocks.items xs → ⊥
        found xs s =
            let part : (x : ℕ) → Contains xs x → Contains inner.blocks.items x = λ x c. ((s.exact x).0 c).0 in
            let reach : IsReach (flow_of p) d j xs = record { ascending = s.ascending; exact = λ x. (λ c. ((s.exact x).0 c).1, λ z. (s.exact x).1 ((k.join.before.exact x).1 (w x z), z)) } in
            let q = quiet_part false p gated sums inner.blocks.items xs inner.accesses.items k.join.quiet part in
            let less : length xs < length inner.blocks.items = strictly_shorter inner.blocks.items xs j s.ascending k.join.before.ascending part ((k.join.before.exact j).1 a)
            (λ c. not_met ((reach.exact j).0 c) refl) in
            against xs less (k.fewest j xs q.0 (record { reached = e; before = reach; quiet = q.1 }))
          where
            against : (xs : List ℕ) → length xs < length inner.blocks.items → IsSmaller inner.blocks.items inner.join xs j → ⊥
            against xs less (inl t) = omega (arith, less, t)
            against xs less (inr t) = omega (arith, less, t.0)

  module _ (c d v : ℕ) (outer inner : Region) (h : IsRegion p gated sums c outer) (k : IsRegion p gated sums d inner) (m : Contains outer.blocks.items d) (path : Path (flow_of p) outer.join v)
      (l : IsLoudBlock p gated sums v) where
    regions : HaveRegions (flow_of p) quiet c outer.join d inner.join v
    regions = record {
      outer = quiet_before c outer.join outer.blocks.items outer.accesses.items h.join;
      inside = (h.join.before.exact d).0 m;
      inner = quiet_before d inner.join inner.blocks.items inner.accesses.items k.join;
      enters = k.join.reached;
      fewest = λ j e q w a. no_fewer d inner k j e w a;
      loud = loud_none v l (block_accesses false p gated sums nothing v) refl;
      path = path;
    }

    pub regions_nest : AreNested outer inner
    regions_nest = lists (nesting.regions_nest (flow_of p) quiet c outer.join d inner.join v regions)
      where
        joined : (inner.join ≡ outer.join) ⊎ Walk (flow_of p) outer.join c inner.join → (inner.join ≡ outer.join) ⊎ Contains outer.blocks.items inner.join
        joined (inl e) = inl e
        joined (inr w) = inr ((h.join.before.exact inner.join).1 w)

        lists : VerticesNest (flow_of p) c outer.join d inner.join → AreNested outer inner
        lists n = record { blocks = λ x i. (h.join.before.exact x).1 (n.region x ((k.join.before.exact x).0 i)); join = joined n.join }
