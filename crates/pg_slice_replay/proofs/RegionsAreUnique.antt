-- A branch has one region.
use Rattle.std.proofs.Common.{◌≡◌, ℕ, ◌||◌, Bool, false, List, [], ◌∷◌, map, Option, Some, None, option_map, refl, sym, ap, ◌∙◌, subst, arith, inl, inr, ◌⊎◌}
use mathlib.Core.Path.{fun_ext}
use Rattle.std.specs.Prelude.{Contains, slice_get, true}
use Rattle.std.specs.List.Sorted.{IsStrictlyIncreasing}
use Rattle.pg_cfg.specs.Graphs.{IsReach}
use Rattle.pg_ir.specs.Program.{NumberedProgram}
use Rattle.pg_region_accesses.specs.Accesses.{RootedList, set_accesses, sets}
use Rattle.pg_region_accesses.specs.Tables.{in_table}
use Rattle.pg_region_paths.proofs.Elements.{here, there, cases, none_in}
use Rattle.pg_region.specs.declared.region.Region.{Region}
use Rattle.pg_region.specs.Regions.{flow_of, IsRegion, IsSmaller, RegionOf}
use Rattle.pg_region_accesses.proofs.AscendingSets.{below, tail_of}
use Rattle.pg_slice_rules.specs.Freeable.{BranchRegion}
use Rattle.pg_slice_replay.specs.declared.found.FoundRegion.{FoundRegion}
use Rattle.pg_slice_replay.specs.declared.found.Sought.{Sought}
use Rattle.pg_slice_replay.specs.declared.found.Sought.TheVariants as sought
use Rattle.pg_slice_replay.specs.OfRegions.{branch_region, free_access, may_set, phis_set}
use Rattle.pg_slice_replay.specs.Sought.{IsFoundIn, IsKept, IsKeptIn, found_by, number_by, was_sought}

-- ascending lists with the same members are equal
same_list : (xs ys : List ℕ) → IsStrictlyIncreasing xs → IsStrictlyIncreasing ys → ((z : ℕ) → Contains xs z → Contains ys z) → ((z : ℕ) → Contains ys z → Contains xs z)
    → xs ≡ ys
same_list [] [] a b f g = refl
same_list [] (y ∷ ys) a b f g = absurd (none_in y (g y (here y ys)))
same_list (x ∷ xs) [] a b f g = absurd (none_in x (f x (here x xs)))
same_list (x ∷ xs) (y ∷ ys) a b f g =
    let e : x ≡ y = first (cases y ys x (f x (here x xs))) (cases x xs y (g y (here y ys))) in
    rw e (ap (λ (l : List ℕ). y ∷ l) (same_list xs ys (tail_of x xs a) (tail_of y ys b) (λ z c. past y ys z (λ q. omega (arith, below x xs a z c, e, q)) (f z (there x xs z c)))
    (λ z c. past x xs z (λ q. omega (arith, below y ys b z c, e, q)) (g z (there y ys z c)))))
  where
    past : (w : ℕ) (ws : List ℕ) (z : ℕ) → (w ≡ z → ⊥) → Contains (w ∷ ws) z → Contains ws z
    past w ws z ne c = go (cases w ws z c)
      where
        go : (w ≡ z) ⊎ Contains ws z → Contains ws z
        go (inl q) = absurd (ne q)
        go (inr d) = d

    first : (y ≡ x) ⊎ Contains ys x → (x ≡ y) ⊎ Contains xs y → x ≡ y
    first (inl q) k = sym q
    first (inr c) (inl q) = q
    first (inr c) (inr d) = absurd (omega (arith, below y ys b x c, below x xs a y d))

module _ (p : NumberedProgram) (gated : ℕ → Bool) (sums : ℕ → Option RootedList) (c : ℕ) where
  same_join : (r q : Region) → IsSmaller r.blocks.items r.join q.blocks.items q.join → IsSmaller q.blocks.items q.join r.blocks.items r.join → r.join ≡ q.join
  same_join r q (inl a) (inl b) = absurd (omega (arith, a, b))
  same_join r q (inl a) (inr b) = absurd (omega (arith, a, b.0))
  same_join r q (inr a) (inl b) = absurd (omega (arith, a.0, b))
  same_join r q (inr a) (inr b) = omega (arith, a.1, b.1)

  region_join : (r q : Region) → IsRegion p gated sums c r → IsRegion p gated sums c q → r.join ≡ q.join
  region_join r q h k = same_join r q (h.fewest q.join q.blocks.items q.accesses.items k.join) (k.fewest r.join r.blocks.items r.accesses.items h.join)

  region_blocks : (r q : Region) → IsRegion p gated sums c r → IsRegion p gated sums c q → r.blocks.items ≡ q.blocks.items
  region_blocks r q h k =
      let b : IsReach (flow_of p) c r.join q.blocks.items = subst (λ (j : ℕ). IsReach (flow_of p) c j q.blocks.items) (sym (region_join r q h k)) k.join.before in
      same_list r.blocks.items q.blocks.items h.join.before.ascending b.ascending (λ z m. (b.exact z).1 ((h.join.before.exact z).0 m)) (λ z m. (h.join.before.exact z).1 ((b.exact z).0 m))

  region_accesses : (r q : Region) → IsRegion p gated sums c r → IsRegion p gated sums c q → r.accesses.items ≡ q.accesses.items
  region_accesses r q h k =
      let e : Some r.accesses.items ≡ Some q.accesses.items = sym h.join.quiet ∙ ap (set_accesses false p gated sums) (region_blocks r q h k) ∙ k.join.quiet in
      cc

  -- the region by its parts
  abbrev made : ℕ → List ℕ → RootedList → Option BranchRegion
  made j blocks accesses = Some (record { join = j; sets = λ k. sets p blocks k || phis_set p j k; accesses = map free_access accesses })

  same_made : (r q : Region) → IsRegion p gated sums c r → IsRegion p gated sums c q → made r.join r.blocks.items r.accesses.items ≡ made q.join q.blocks.items q.accesses.items
  same_made r q h k = rw (region_join r q h k, region_blocks r q h k, region_accesses r q h k) refl

  -- two findings give the same
  pub same_region : (o u : Option Region) → RegionOf p gated sums c o → RegionOf p gated sums c u → branch_region p o ≡ branch_region p u
  same_region None None h k = refl
  same_region None (Some q) h k = absurd (h q.join q.blocks.items q.accesses.items k.join)
  same_region (Some r) None h k = absurd (k r.join r.blocks.items r.accesses.items h.join)
  same_region (Some r) (Some q) h k = same_made r q h k

-- what is kept of a region, as closed decisions see it
abbrev pub kept_region : FoundRegion → BranchRegion
kept_region f = record { join = f.join; sets = in_table f.sets.items; accesses = map free_access f.accesses.items }

kept_is : (p : NumberedProgram) (r : Region) (f : FoundRegion) → IsKept p r f → Some (kept_region f) ≡ branch_region p (Some r)
kept_is p r f h =
    let e : in_table f.sets.items ≡ may_set p r = fun_ext h.sets in
    rw (h.join, e, h.accesses) refl

kept_in : (p : NumberedProgram) (r : Region) (o : Option FoundRegion) → IsKeptIn p r o → option_map kept_region o ≡ branch_region p (Some r)
kept_in p r None h = absurd h
kept_in p r (Some f) h = kept_is p r f h

-- the region that was found of a block whose branch was sought
pub found_is : (p : NumberedProgram) (gated : ℕ → Bool) (sums : ℕ → Option RootedList) (c : ℕ) (regions : List FoundRegion) (o : Option Sought) (u : Option Region)
    → IsFoundIn p gated sums regions c o → was_sought o ≡ true → RegionOf p gated sums c u →
    option_map kept_region (found_by regions (number_by o)) ≡ branch_region p u
found_is p gated sums c regions None u h s k = absurd cc
found_is p gated sums c regions (Some sought.Unsought) u h s k = absurd cc
found_is p gated sums c regions (Some sought.Nothing) u h s k = same_region p gated sums c None u h k
found_is p gated sums c regions (Some (sought.At n)) u h s k = kept_in p h.0 (slice_get regions n) h.2 ∙ same_region p gated sums c (Some h.0) u h.1 k
