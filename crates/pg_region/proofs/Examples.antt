-- The worked example: a loop over the elements of a global.
use Rattle.std.proofs.Common.{◌≡◌, ◌≢◌, ℕ, zero, suc, ◌+◌, ◌≤◌, ◌==◌, Bool, true, false, List, [], ◌∷◌, length, Some, None, refl, sym, subst, arith, inl}
use Rattle.std.proofs.Common.{inr, ◌⊎◌}
use Rattle.std.specs.Prelude.{Contains, slice_get}
use Rattle.std.specs.List.Sorted.{IsStrictlyIncreasing}
use Rattle.std.proofs.lemmas.Bool.{cases_eq, true≢false}
use Rattle.pg_cfg.specs.Graphs.{Edge, Walk, IsReach, targets_of}
use Rattle.pg_cfg.specs.Graphs.Walk.{first, then}
use Rattle.pg_cfg.specs.Graphs.Enters.{now}
use Rattle.pg_ir.specs.declared.instr.Instr.{Instr}
use Rattle.pg_ir.specs.declared.instr.Op.TheVariants as op
use Rattle.pg_ir.specs.declared.value.Value.TheVariants as value
use Rattle.pg_num.specs.declared.width.Width.TheVariants.{W64}
use Rattle.pg_ir.specs.Program.{types_of, function_of, first_of, end_of}
use Rattle.pg_ir.specs.Edges as edges
use Rattle.pg_region_accesses.specs.Accesses.{RootedList, block_accesses, block_sets, set_accesses}
use Rattle.pg_region_accesses.proofs.AscendingSets.{shorter}
use Rattle.pg_region_accesses.proofs.of_pg_region_paths.Elements.{here, there, cases, only_here}
use Rattle.pg_region_accesses.proofs.QuietInstructions.{set_quiet}
use Rattle.pg_region.specs.Regions.{flow_of, IsJoin, IsSmaller}
use Rattle.pg_region.specs.Examples.{loop_program, loop_flow, loop_accesses, no_summary, LoopHasRegion, GatedLoopHasNone}

flow_is : flow_of loop_program ≡ loop_flow
unfolding flow_of edges.successors end_of
flow_is = refl

targets_1 : targets_of loop_flow 1 ≡ 2 ∷ 3 ∷ []
unfolding targets_of
targets_1 = refl

targets_2 : targets_of loop_flow 2 ≡ 1 ∷ []
unfolding targets_of
targets_2 = refl

to_2 : Edge loop_flow 1 2
to_2 = record { leads = rw targets_1 (here 2 (3 ∷ [])) }

to_3 : Edge loop_flow 1 3
to_3 = record { leads = rw targets_1 (there 2 (3 ∷ []) 3 (here 3 [])) }

back : Edge loop_flow 2 1
back = record { leads = rw targets_2 (here 1 []) }

from_1 : (x : ℕ) → Edge loop_flow 1 x → (2 ≡ x) ⊎ (3 ≡ x)
from_1 x e = go (cases 2 (3 ∷ []) x (rw targets_1 at e.leads))
  where
    go : (2 ≡ x) ⊎ Contains (3 ∷ []) x → (2 ≡ x) ⊎ (3 ≡ x)
    go (inl q) = inl q
    go (inr c) = inr (only_here 3 x c)

from_2 : (x : ℕ) → Edge loop_flow 2 x → 1 ≡ x
from_2 x e = only_here 1 x (rw targets_2 at e.leads)

-- the walks that don't meet block 3
met : (x : ℕ) → Walk loop_flow 3 1 x → (1 ≡ x) ⊎ (2 ≡ x)
met x (first e h) = go (from_1 x e)
  where
    go : (2 ≡ x) ⊎ (3 ≡ x) → (1 ≡ x) ⊎ (2 ≡ x)
    go (inl q) = inr q
    go (inr q) = absurd (h (sym q))
met x (then {b = y} w e h) = go (met y w)
  where
    further : (2 ≡ x) ⊎ (3 ≡ x) → (1 ≡ x) ⊎ (2 ≡ x)
    further (inl q) = inr q
    further (inr q) = absurd (h (sym q))

    go : (1 ≡ y) ⊎ (2 ≡ y) → (1 ≡ x) ⊎ (2 ≡ x)
    go (inl q) = further (from_1 x (subst (λ (z : ℕ). Edge loop_flow z x) (sym q) e))
    go (inr q) = inl (from_2 x (subst (λ (z : ℕ). Edge loop_flow z x) (sym q) e))

walk_2 : Walk loop_flow 3 1 2
walk_2 = first to_2 (λ q. absurd (omega (arith, q)))

walk_1 : Walk loop_flow 3 1 1
walk_1 = then walk_2 back (λ q. absurd (omega (arith, q)))

ascending : IsStrictlyIncreasing (1 ∷ 2 ∷ [])
ascending zero lt = omega arith
ascending (suc k) lt = absurd (omega (arith, lt))

loop_reach : IsReach loop_flow 1 3 (1 ∷ 2 ∷ [])
loop_reach = record { ascending = ascending; exact = λ x. (λ c. to x (cases 1 (2 ∷ []) x c), λ w. from x (met x w)) }
  where
    to : (x : ℕ) → (1 ≡ x) ⊎ Contains (2 ∷ []) x → Walk loop_flow 3 1 x
    to x (inl q) = subst (λ (z : ℕ). Walk loop_flow 3 1 z) q walk_1
    to x (inr c) = subst (λ (z : ℕ). Walk loop_flow 3 1 z) (only_here 2 x c) walk_2

    from : (x : ℕ) → (1 ≡ x) ⊎ (2 ≡ x) → Contains (1 ∷ 2 ∷ []) x
    from x (inl q) = subst (λ (z : ℕ). Contains (1 ∷ 2 ∷ []) z) q (here 1 (2 ∷ []))
    from x (inr q) = subst (λ (z : ℕ). Contains (1 ∷ 2 ∷ []) z) q (there 1 (2 ∷ []) 2 (here 2 []))

quiet : set_accesses false loop_program (λ i. false) no_summary (1 ∷ 2 ∷ []) ≡ Some loop_accesses
unfolding block_accesses block_sets types_of function_of first_of end_of edges.instrs_of
quiet = refl

loop_join : IsJoin loop_program (λ i. false) no_summary 1 3 (1 ∷ 2 ∷ []) loop_accesses
loop_join = record { reached = rw flow_is (now to_3); before = rw flow_is loop_reach; quiet = quiet }

abbrev ret : Instr
ret = record { op = op.Ret None; block = record { 0 = 3 }; result = None }

abbrev store : Instr
store = record { op = op.Store W64 (value.Register 0) (value.Register 3); block = record { 0 = 2 }; result = None }

ret_at : slice_get (edges.instrs_of loop_program 3) 0 ≡ Some ret
unfolding first_of end_of edges.instrs_of
ret_at = refl

store_at : slice_get (edges.instrs_of loop_program 2) 1 ≡ Some store
unfolding first_of end_of edges.instrs_of
store_at = refl

store_number : first_of loop_program 2 + 1 ≡ 6
unfolding first_of
store_number = refl

-- block 3 is before each other join, and returns
no_other : (gated : ℕ → Bool) (k : ℕ) (blocks : List ℕ) (accesses : RootedList) → k ≢ 3 → IsJoin loop_program gated no_summary 1 k blocks accesses → ⊥
no_other gated k blocks accesses ne h =
    let m : Contains blocks 3 = (h.before.exact 3).1 (rw flow_is (first to_3 (λ q. ne (sym q)))) in
    let q : false ≡ true = set_quiet false loop_program gated no_summary blocks accesses h.quiet 3 0 ret m ret_at in
    true≢false (sym q)

smaller : (k : ℕ) (blocks : List ℕ) (accesses : RootedList) → IsJoin loop_program (λ i. false) no_summary 1 k blocks accesses → IsSmaller (1 ∷ 2 ∷ []) 3 blocks k
smaller k blocks accesses h = go (cases_eq k 3)
  where
    go : (k ≡ 3) ⊎ (k ≡ 3 → ⊥) → IsSmaller (1 ∷ 2 ∷ []) 3 blocks k
    go (inr ne) = absurd (no_other (λ i. false) k blocks accesses ne h)
    go (inl e) =
        let s : IsReach loop_flow 1 3 blocks = rw (← flow_is) (subst (λ (z : ℕ). IsReach (flow_of loop_program) 1 z blocks) e h.before) in
        let a : 2 ≤ length blocks = shorter blocks (1 ∷ 2 ∷ []) ascending s.ascending (λ z m. (s.exact z).1 ((loop_reach.exact z).0 m)) in
        let b : length blocks ≤ 2 = shorter (1 ∷ 2 ∷ []) blocks s.ascending ascending (λ z m. (loop_reach.exact z).1 ((s.exact z).0 m)) in
        inr (omega (arith, a, b), omega (arith, e))

pub loop_has_region : LoopHasRegion
loop_has_region = record {
  flow = flow_is;
  reach = loop_reach;
  region = λ r e f g. record {
    join = rw (e, f, g) loop_join;
    fewest = λ k others listed h. rw (e, f) (smaller k others listed h);
  };
}

pub gated_loop_has_none : GatedLoopHasNone
gated_loop_has_none k blocks accesses h = go (cases_eq k 3)
  where
    go : (k ≡ 3) ⊎ (k ≡ 3 → ⊥) → ⊥
    go (inr ne) = no_other (λ i. i == 6) k blocks accesses ne h
    go (inl e) =
        let s : IsReach (flow_of loop_program) 1 3 blocks = subst (λ (z : ℕ). IsReach (flow_of loop_program) 1 z blocks) e h.before in
        let m : Contains blocks 2 = (s.exact 2).1 (rw flow_is walk_2) in
        let q : (first_of loop_program 2 + 1 == 6) ≡ false = set_quiet false loop_program (λ i. i == 6) no_summary blocks accesses h.quiet 2 1 store m store_at in
        let t : true ≡ false = rw store_number at q in
        true≢false t
