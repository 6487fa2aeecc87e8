-- What a summary says of its function.
use Rattle.std.proofs.Common.{◌≡◌, ℕ, ◌<◌, ◌≤◌, Bool, true, false, cond, [], ◌∷◌, ◌++◌, length, Option, Some, None, refl, sym, ap, ◌∙◌, subst, inl, inr, ◌⊎◌}
use Rattle.std.specs.Prelude.{Contains, nat_le, nat_lt, slice_get}
use Rattle.std.proofs.lemmas.Bool.{leb-true, ltb-true}
use Rattle.std.proofs.lemmas.List.Elements.{Contains-append_cases}
use Rattle.pg_ir.specs.declared.instr.Instr.{Instr}
use Rattle.pg_ir.specs.Program.{NumberedProgram, function_of, parameter_count}
use Rattle.pg_region_paths.specs.declared.path.Root.{Root}
use Rattle.pg_region_paths.specs.declared.path.Root.TheVariants as root
use Rattle.pg_region_accesses.specs.declared.rooted.Rooted.{Rooted}
use Rattle.pg_region_accesses.specs.Accesses.{RootedList, set_accesses, sets}
use Rattle.pg_region_accesses.specs.Laws.{IsQuiet, IsOutside}
use Rattle.pg_region_paths.proofs.Elements.{here, there, only_here, none_in}
use Rattle.pg_region_accesses.proofs.QuietInstructions.{parts, set_quiet, set_outside}
use Rattle.pg_region_summaries.specs.declared.limits.TheConstants.{SUMMARY_LIMIT}
use Rattle.pg_region_summaries.specs.Blocks.{blocks_of}
use Rattle.pg_region_summaries.specs.Calls.{CallsReach}
use Rattle.pg_region_summaries.specs.Calls.CallsReach.{direct, further}
use Rattle.pg_region_summaries.specs.Summaries.{seen_root, with_root, seen, if_few, seen_by_callers, summary_by}
use Rattle.pg_region_summaries.specs.Laws.{HasSummary, IsReachedQuiet, IsSeen}
use Rattle.pg_region_summaries.proofs.InstructionPlaces.{stands, own_block, callee_small}
use Rattle.pg_region_summaries.proofs.SummariesOfCallees.{summary_some, callee_some}

module _ (p : NumberedProgram) (gated : ℕ → Bool) (sums : ℕ → Option RootedList) where
  by_callees : (f : ℕ) (xs : RootedList) → HasSummary p gated sums f xs → summary_by p gated sums f ≡ Some xs
  by_callees f xs h = sym (h.summaries.quiet f h.function (h.summaries.others f xs h.function h.summary)) ∙ h.summary

  pub passes_quiet : (f : ℕ) (xs : RootedList) → HasSummary p gated sums f xs → (i : ℕ) (x : Instr) → slice_get p.instrs i ≡ Some x → function_of p x.block.0 ≡ f
      → IsQuiet true gated sums i x.op
  passes_quiet f xs h i x at own =
      let ys = summary_some (parameter_count p f) (set_accesses true p gated sums (blocks_of p f)) xs (by_callees f xs h) in
      let s = stands p i x h.program at in
      let b : Contains (blocks_of p f) x.block.0 = subst (λ (z : ℕ). Contains (blocks_of p z) x.block.0) own (own_block p i x h.program at) in
      subst (λ (z : ℕ). IsQuiet true gated sums z x.op) s.1 (set_quiet true p gated sums (blocks_of p f) ys.0 ys.1 x.block.0 s.0 x b s.2)

  called_quiet : (f g : ℕ) (xs : RootedList) → HasSummary p gated sums f xs → g < length p.functions → (ys : RootedList) × (sums g ≡ Some ys) → IsReachedQuiet p sums g
  called_quiet f g xs h lt e = record { function = lt; accesses = e.0; summary = e.1; ends = (h.summaries.others g e.0 lt e.1).ends g (inl refl) }

  pub reaches_quiet : (f : ℕ) (xs : RootedList) → HasSummary p gated sums f xs → (g : ℕ) → CallsReach p f g → IsReachedQuiet p sums g
  reaches_quiet f xs h g (direct c) = called_quiet f g xs h (callee_small p f g h.program c) (callee_some p gated sums f g xs h.program (by_callees f xs h) c)
  reaches_quiet f xs h g (further {g = y} r c) =
      let a = reaches_quiet f xs h y r in
      let k : HasSummary p gated sums y a.accesses = record { program = h.program; summaries = h.summaries; function = a.function; summary = a.summary } in
      called_quiet f g xs h (callee_small p y g h.program c) (callee_some p gated sums y g a.accesses h.program (by_callees y a.accesses k) c)

  few_some : (o : Option RootedList) (xs : RootedList) → if_few o ≡ Some xs → (o ≡ Some xs) × (length xs ≤ SUMMARY_LIMIT)
  few_some None xs e = absurd cc
  few_some (Some ys) xs e = go (nat_le (length ys) SUMMARY_LIMIT) refl e
    where
      go : (b : Bool) → nat_le (length ys) SUMMARY_LIMIT ≡ b → cond b (Some ys) None ≡ Some xs → (Some ys ≡ Some xs) × (length xs ≤ SUMMARY_LIMIT)
      go true q k = let t : ys ≡ xs = cc in (k, subst (λ (l : RootedList). length l ≤ SUMMARY_LIMIT) t (leb-true (length ys) SUMMARY_LIMIT q))
      go false q k = absurd cc

  -- the accesses of the blocks, and those that callers see
  sides : (n : ℕ) (o : Option RootedList) (xs : RootedList) → seen_by_callers n o ≡ Some xs → (ys : RootedList) × (o ≡ Some ys) × (seen n ys ≡ Some xs) × (length xs ≤ SUMMARY_LIMIT)
  sides n None xs e = absurd cc
  sides n (Some ys) xs e = let r = few_some (seen n ys) xs e in (ys, refl, r.0, r.1)

  pub is_few : (f : ℕ) (xs : RootedList) → HasSummary p gated sums f xs → length xs ≤ SUMMARY_LIMIT
  is_few f xs h = (sides (parameter_count p f) (set_accesses true p gated sums (blocks_of p f)) xs (by_callees f xs h)).3

  with_seen : (n : ℕ) (b : Rooted) (o : Option Root) (ys : RootedList) → with_root b o ≡ Some ys → (a : Rooted) → Contains ys a → o ≡ Some a.path.root
  with_seen n b None ys e a m = absurd cc
  with_seen n b (Some r) ys e a m =
      let t : record b { path = record { root = r; loads = b.path.loads } } ∷ [] ≡ ys = cc in
      let q : record b { path = record { root = r; loads = b.path.loads } } ≡ a =
      only_here (record b { path = record { root = r; loads = b.path.loads } }) a (subst (λ (z : RootedList). Contains z a) (sym t) m) in
      ap (λ (z : Rooted). Some z.path.root) q

  seen_each : (n : ℕ) (xs ys : RootedList) → seen n xs ≡ Some ys → (a : Rooted) → Contains ys a → (b : Rooted) × Contains xs b × (seen_root n b.path.root ≡ Some a.path.root)
  seen_each n [] ys e a m = let t : [] ≡ ys = cc in absurd (none_in a (subst (λ (z : RootedList). Contains z a) (sym t) m))
  seen_each n (b ∷ xs) ys e a m = go (Contains-append_cases s.0 s.1 a (subst (λ (z : RootedList). Contains z a) s.4 m)) (λ k. seen_each n xs s.1 s.3 a k)
    where
      s : (y : RootedList) × (z : RootedList) × (with_root b (seen_root n b.path.root) ≡ Some y) × (seen n xs ≡ Some z) × (ys ≡ y ++ z)
      s = parts (with_root b (seen_root n b.path.root)) (seen n xs) ys e

      go : Contains s.0 a ⊎ Contains s.1 a → (Contains s.1 a → (c : Rooted) × Contains xs c × (seen_root n c.path.root ≡ Some a.path.root))
          → (c : Rooted) × Contains (b ∷ xs) c × (seen_root n c.path.root ≡ Some a.path.root)
      go (inl k) f = (b, here b xs, with_seen n b (seen_root n b.path.root) s.0 s.2 a k)
      go (inr k) f = let r = f k in (r.0, there b xs r.0 r.1, r.2)

  root_seen : (is_set : ℕ → Bool) (n : ℕ) (r q : Root) → IsOutside is_set r → seen_root n r ≡ Some q → IsSeen n q
  root_seen is_set n (root.Global g) q h e = let t : root.Global g ≡ q = cc in subst (λ (z : Root). IsSeen n z) t tt
  root_seen is_set n (root.Const g) q h e = let t : root.Const g ≡ q = cc in subst (λ (z : Root). IsSeen n z) t tt
  root_seen is_set n (root.Param k) q h e = absurd h
  root_seen is_set n (root.Register r) q h e = go (nat_lt r n) refl e
    where
      go : (b : Bool) → nat_lt r n ≡ b → cond b (Some (root.Param r)) None ≡ Some q → IsSeen n q
      go true k t = let u : root.Param r ≡ q = cc in subst (λ (z : Root). IsSeen n z) u (ltb-true r n k)
      go false k t = absurd cc

  pub all_seen : (f : ℕ) (xs : RootedList) → HasSummary p gated sums f xs → (a : Rooted) → Contains xs a → IsSeen (parameter_count p f) a.path.root
  all_seen f xs h a m =
      let s = sides (parameter_count p f) (set_accesses true p gated sums (blocks_of p f)) xs (by_callees f xs h) in
      let b = seen_each (parameter_count p f) s.0 xs s.2 a m in
      root_seen (sets p (blocks_of p f)) (parameter_count p f) b.0.path.root a.path.root (set_outside true p gated sums (blocks_of p f) s.0 s.1 b.0 b.1) b.2
