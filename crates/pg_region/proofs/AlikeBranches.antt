-- Branches with the same nearest join and the same blocks before it have the same region.
use Rattle.std.proofs.Common.{◌≡◌, ℕ, ◌<◌, Bool, true, false, List, length, Option, Some, None, refl, sym, ap, ◌∙◌, subst, arith, inl, inr, ◌⊎◌, get_or-set_other}
use Rattle.std.proofs.Math.ListN.{set}
use Rattle.std.proofs.lemmas.Bool.{cases_eq}
use Rattle.std.specs.Prelude.{Contains}
use Rattle.pg_cfg.specs.Alike.{AreAlike, IsAlike}
use Rattle.pg_cfg.specs.Graphs.{EdgeLists, Edge, IsClosed, IsReach, Walk}
use Rattle.pg_cfg.specs.Separators.{AreRanks, IsNearest, NoneSeparates, rank_in}
use Rattle.pg_cfg.proofs.AlikeVertices.{first_alike, is_alike, leads_on}
use Rattle.pg_cfg.proofs.Nesting.{enters_by}
use Rattle.pg_cfg.proofs.RankLemmas.{edge_from}
use Rattle.pg_ir.specs.Program.{NumberedProgram}
use Rattle.pg_region.specs.declared.region.Region.{Region}
use Rattle.pg_region.specs.Alike.{AreBothLike, HasRegionOf}
use Rattle.pg_region.specs.Finders.{FinderParts, IsFinder}
use Rattle.pg_region.specs.Regions.{flow_of, IsJoin, IsRegion, RegionOf}
use Rattle.pg_region.proofs.AscendingParts.{IsPart, has_part}
use Rattle.pg_region.proofs.FlowGraphs.{flow_size}
use Rattle.pg_region.proofs.Joins.{join_separates, region_is}
use Rattle.pg_region.proofs.NestedRegions.{no_fewer}
use Rattle.pg_region_accesses.proofs.QuietInParts.{quiet_part}
use Rattle.pg_region_accesses.specs.Accesses.{RootedList}
use Rattle.pg_region_accesses.specs.Loud.{AreLoud}
use Rattle.pg_region_accesses.specs.Tables.{in_table}

module _ (p : NumberedProgram) (gated : ℕ → Bool) (sums : ℕ → Option RootedList) (loud : List Bool) (are_loud : AreLoud p gated sums loud) (b c j : ℕ)
    (own : IsAlike (flow_of p) loud b j b) (like : IsAlike (flow_of p) loud b j c) where
  -- what is before the join of one is before that of the other
  reach_too : (blocks : List ℕ) → IsReach (flow_of p) b j blocks → IsReach (flow_of p) c j blocks
  reach_too blocks r = record {
    ascending = r.ascending;
    exact = λ x. (λ m. (like.same x).1 ((own.same x).0 ((r.exact x).0 m)), λ w. (r.exact x).1 ((own.same x).1 ((like.same x).0 w)));
  }

  reach_back : (blocks : List ℕ) → IsReach (flow_of p) c j blocks → IsReach (flow_of p) b j blocks
  reach_back blocks r = record {
    ascending = r.ascending;
    exact = λ x. (λ m. (own.same x).1 ((like.same x).0 ((r.exact x).0 m)), λ w. (r.exact x).1 ((like.same x).1 ((own.same x).0 w)));
  }

  -- the region of the first has the nearest join
  nearest_join : (r : Region) → IsRegion p gated sums b r → r.join ≡ j
  nearest_join r h = go (own.near.least r.join (join_separates p gated sums loud are_loud b r.join r.blocks.items r.accesses.items h.join))
    where
      go : (r.join ≡ j) ⊎ (Walk (flow_of p) r.join b j × ((x : ℕ) → Walk (flow_of p) j b x → Walk (flow_of p) r.join b x)) → r.join ≡ j
      go (inl e) = e
      go (inr w) = absurd (no_fewer p gated sums b r h j (enters_by w.0) w.1 w.0)

  -- where the first has none, neither has the other
  none_too : RegionOf p gated sums b None → (k : ℕ) (blocks : List ℕ) (listed : RootedList) → IsJoin p gated sums c k blocks listed → ⊥
  none_too none k blocks listed h = go (like.near.least k (join_separates p gated sums loud are_loud c k blocks listed h))
    where
      go : (k ≡ j) ⊎ (Walk (flow_of p) k c j × ((x : ℕ) → Walk (flow_of p) j c x → Walk (flow_of p) k c x)) → ⊥
      go (inl e) = none j blocks listed
          (record { reached = own.near.separates.reached; before = reach_back blocks (subst (λ (z : ℕ). IsReach (flow_of p) c z blocks) e h.before); quiet = h.quiet })
      go (inr w) = has_part (λ x. Walk (flow_of p) j c x) blocks h.before.ascending found
        where
          found : (xs : List ℕ) → IsPart (λ x. Walk (flow_of p) j c x) blocks xs → ⊥
          found xs s =
              let reach : IsReach (flow_of p) c j xs = record { ascending = s.ascending; exact = λ x. (λ m. ((s.exact x).0 m).1, λ z. (s.exact x).1 ((h.before.exact x).1 (w.1 x z), z)) } in
              let q = quiet_part false p gated sums blocks xs listed h.quiet (λ x m. ((s.exact x).0 m).0) in
              none j xs q.0 (record { reached = own.near.separates.reached; before = reach_back xs reach; quiet = q.1 })

  pub region_too : (o : Option Region) → RegionOf p gated sums b o → RegionOf p gated sums c o
  region_too None h = none_too h
  region_too (Some r) h =
      let e : r.join ≡ j = nearest_join r h in
      let reach : IsReach (flow_of p) b j r.blocks.items = subst (λ (z : ℕ). IsReach (flow_of p) b z r.blocks.items) e h.join.before in
      region_is p gated sums loud are_loud c j like.near r.blocks.items (reach_too r.blocks.items reach) r.accesses.items h.join.quiet r e refl refl

-- what a finder says of two branches
pub has_region : (p : NumberedProgram) (sums : ℕ → Option RootedList) (f : FinderParts) → IsFinder p sums f → (b c : ℕ) → AreBothLike f b c → HasRegionOf p (in_table f.gated) sums b c
has_region p sums f h b c both = (within, region_too p (in_table f.gated) sums f.loud h.loud b c both.0 (flows b both.1) (flows c both.2))
  where
    flows : (x : ℕ) → IsAlike f.flow f.loud b both.0 x → IsAlike (flow_of p) f.loud b both.0 x
    flows x k = subst (λ (g : EdgeLists). IsAlike g f.loud b both.0 x) h.flow k

    within : b < length p.blocks
    within = omega (arith, edge_from f.flow b both.1.leads.next both.1.leads.edge, ap (λ (g : EdgeLists). length g) h.flow, flow_size p)

-- a set with one more of some blocks has some of them
pub set_more : (blocks : List ℕ) (marks : List Bool) (b : ℕ) → Contains blocks b → ((x : ℕ) → in_table marks x ≡ true → Contains blocks x) → (x : ℕ)
    → in_table (set marks b true) x ≡ true → Contains blocks x
set_more blocks marks b m h x e = go (cases_eq x b)
  where
    go : (x ≡ b) ⊎ (x ≡ b → ⊥) → Contains blocks x
    go (inl q) = subst (λ (z : ℕ). Contains blocks z) (sym q) m
    go (inr d) = h x (sym (get_or-set_other marks b x true false d) ∙ e)

-- ---- the branches that are kept

-- a branch alone
pub kept_first : (f : FinderParts) → AreRanks f.flow f.loud f.ranks → (b j : ℕ) (blocks : List ℕ) → IsNearest f.flow f.loud b j → IsReach f.flow b j blocks
    → (x : ℕ) × (r : ℕ) × Edge f.flow b x × (rank_in f.ranks x ≡ Some r) → (before : List Bool) → ((x : ℕ) → in_table before x ≡ true → Contains blocks x)
    → AreAlike f.flow f.loud b j before (set f.loud b true)
kept_first f ranks b j blocks near reach ranked before within =
    first_alike f.flow f.loud b j before near (leads_on f.flow f.loud f.ranks ranks b ranked.0 ranked.1 ranked.2 ranked.3) (λ y m. (reach.exact y).0 (within y m))

-- one more
pub both_like : (f : FinderParts) → IsClosed f.flow → AreRanks f.flow f.loud f.ranks → (a c j : ℕ) (before marks : List Bool) → AreAlike f.flow f.loud a j before marks
    → in_table before c ≡ true → NoneSeparates f.flow marks c → (x : ℕ) × (r : ℕ) × Edge f.flow c x × (rank_in f.ranks x ≡ Some r) → IsAlike f.flow f.loud a j c
both_like f closed ranks a c j before marks h m none ranked =
    is_alike f.flow closed f.loud a j before marks h c m none (leads_on f.flow f.loud f.ranks ranks c ranked.0 ranked.1 ranked.2 ranked.3)
