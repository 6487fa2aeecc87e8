-- Each branch has its region, or has none.
use Rattle.std.proofs.Common.{◌≡◌, ℕ, zero, suc, ◌+◌, ◌*◌, ◌<◌, ◌≤◌, ◌^◌, ◌⊎◌, Bool, false, List, length, get_or, take, Option, Some, None, refl, sym, ap}
use Rattle.std.proofs.Common.{◌∙◌, subst, arith, inl, inr}
use Rattle.std.specs.Prelude.{All}
use Rattle.std.proofs.lemmas.Bool.{cases_lt}
use Rattle.pg_cfg.specs.Graphs.{IsClosed, IsReach}
use Rattle.pg_ir.specs.declared.instr.Instr.{Instr}
use Rattle.pg_ir.specs.Program.{NumberedProgram}
use Rattle.pg_ir.specs.WellFormed.{IsProgram}
use Rattle.pg_region_accesses.specs.Accesses.{RootedList, set_accesses}
use Rattle.pg_region.specs.declared.region.Region.{Region}
use Rattle.pg_region.specs.Finders.{IsBefore}
use Rattle.pg_region.specs.Least.{IsLeastOf, IsSmallerOf}
use Rattle.pg_region.specs.Regions.{RegionOf, flow_of}
use Rattle.pg_region.proofs.FlowGraphs.{flow_closed, flow_size}
use Rattle.pg_region.proofs.LeastRegions.{least_end, least_none, least_step, region_of_least}
use Rattle.pg_law_reference.proofs.AccessCounts.{CallsShort, set_most}
use Rattle.pg_law_reference.proofs.BlockCounts.{few_blocks}
use Rattle.pg_law_reference.proofs.VecLists.{filled}
use Rattle.pg_law_reference.proofs.ReachedVertices.{reach, reach_few}

-- ---- the smaller of two regions

smaller : (a b : Option Region) → (r : Option Region) × IsSmallerOf a b r
smaller None b = (b, refl)
smaller (Some a) None = (Some a, refl)
smaller (Some a) (Some b) = go (cases_lt (length b.blocks.items) (length a.blocks.items))
  where
    go : (length b.blocks.items < length a.blocks.items) ⊎ (length a.blocks.items ≤ length b.blocks.items) → (r : Option Region) × IsSmallerOf (Some a) (Some b) r
    go (inl lt) = (Some b, inl (lt, refl))
    go (inr le) = (Some a, inr (le, refl))

-- ---- one branch

module _ (p : NumberedProgram) (program : IsProgram p) (gated : ℕ → Bool) (sums : ℕ → Option RootedList) (short : All (λ (x : Instr). CallsShort sums x.op) p.instrs) where
  few : length p.instrs ≤ 65536
  few = program.few_instrs

  closed : IsClosed (flow_of p)
  closed = flow_closed p program (let h : length p.blocks ≤ length p.instrs = few_blocks p program in omega (arith, h, few))

  module _ (c : ℕ) where
    region_before : (j : ℕ) (xs : List ℕ) → IsReach (flow_of p) c j xs → (o : Option Region) × IsBefore p gated sums j xs o
    region_before j xs r = go (set_accesses false p gated sums xs) refl
      where
        within : length xs ≤ length p.blocks
        within = let n : length xs ≤ length (flow_of p) = reach_few (flow_of p) closed.closed c j xs r in omega (arith, n, flow_size p)

        blocks_few : length p.blocks ≤ length p.instrs
        blocks_few = few_blocks p program

        go : (o : Option RootedList) → set_accesses false p gated sums xs ≡ o → (b : Option Region) × IsBefore p gated sums j xs b
        go None e = (None, e)
        go (Some ys) e =
            let n : length xs < 2 ^ 63 = omega (arith, within, blocks_few, few) in
            let most : length ys ≤ 67108864 * length xs = set_most false gated sums p few short xs ys e in
            let m : length ys < 2 ^ 63 = omega (arith, most, within, blocks_few, few) in
            let blocks = filled xs n in
            let accesses = filled ys m in
            (Some (record { join = j; blocks = blocks.0; accesses = accesses.0 }), (refl, blocks.1, e ∙ ap (λ (l : RootedList). Some l) (sym accesses.1)))

    -- all joins that can be reached are behind this vertex
    top : ℕ
    top = length (flow_of p)

    joins : List ℕ
    joins = (reach (flow_of p) closed.closed c top).0

    are_joins : IsReach (flow_of p) c top joins
    unfolding joins
    are_joins = (reach (flow_of p) closed.closed c top).1

    least : (i : ℕ) → i ≤ length joins → (r : Option Region) × IsLeastOf p gated sums c (take i joins) r
    least zero le = (None, least_none p gated sums c)
    least (suc i) le =
        let old = least i (omega (arith, le)) in
        let j = get_or joins i 0 in
        let xs = reach (flow_of p) closed.closed c j in
        let b = region_before j xs.0 xs.1 in
        let r = smaller old.0 b.0 in
        let e : i + 1 ≡ suc i = omega arith in
        (r.0, subst (λ (k : ℕ). IsLeastOf p gated sums c (take k joins) r.0) e (least_step p gated sums c joins top are_joins i (omega (arith, le)) xs.0 xs.1 old.0 b.0 r.0 old.1 b.1 r.1))

    pub region_of : (o : Option Region) × RegionOf p gated sums c o
    unfolding top
    region_of =
        let all = least (length joins) (omega arith) in (
          all.0,
          region_of_least p gated sums c (length (flow_of p)) closed (omega arith) joins are_joins all.0
              (least_end p gated sums c joins (length joins) (omega arith) all.0 all.1),
        )
