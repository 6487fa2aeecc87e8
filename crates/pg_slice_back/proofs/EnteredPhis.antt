-- The phis of a block that is entered, from the last on.
use Rattle.std.proofs.Common.{◌≡◌, ℕ, zero, suc, ◌<◌, ◌==◌, Bool, true, false, List, [], ◌∷◌, drop, Option, Some, None, refl, sym, ap, ◌∙◌, subst, inl, inr, ◌⊎◌}
use Rattle.std.specs.Prelude.{Contains, ◌||◌, slice_get}
use Rattle.std.specs.List.{AllByRecursion}
use Rattle.std.proofs.lemmas.Bool.{true≢false, eqb-true, or_cases}
use Rattle.pg_ir.specs.declared.instr.Instr.{Instr}
use Rattle.pg_ir.specs.Edges.{incoming_from, incoming_of, phis_of}
use Rattle.pg_slice_rules.specs.Known.{SymbolicState}
use Rattle.pg_law_demands.specs.Cells.{IsMet}
use Rattle.pg_ir.specs.Program.{NumberedProgram}
use Rattle.pg_law_least.specs.Keeps.{MaySet}
use Rattle.pg_region_paths.proofs.Elements.{here, there}
use Rattle.pg_law_demands.specs.Back.{back_edge, back_phi, is_target, last_phi, of_optional, this_phi}
use Rattle.pg_slice_demands.specs.declared.demanded.Demanded.{Demanded}
use Rattle.pg_slice_back.specs.Edges.{phis_set}
use Rattle.pg_slice_back.specs.Leaves.{IsAbove, Without}

pub no_phi : (xs : List Instr) (i : ℕ) → phis_set xs i ≡ false → last_phi xs i ≡ None
no_phi [] i f = refl
no_phi (z ∷ xs) i f = go (is_target z.result i) (phis_set xs i) refl f (λ g. no_phi xs i g)
  where
    go : (a b : Bool) → phis_set xs i ≡ b → (a || b) ≡ false → (phis_set xs i ≡ false → last_phi xs i ≡ None) → this_phi a z (last_phi xs i) ≡ None
    go true b q f more = absurd (true≢false f)
    go false true q f more = absurd (true≢false f)
    go false false q f more = ap (this_phi false z) (more q)

-- the last of those behind some is the last of all
last_drop : (n : ℕ) (xs : List Instr) (i : ℕ) (z : Instr) → last_phi (drop n xs) i ≡ Some z → last_phi xs i ≡ Some z
last_drop zero xs i z h = h
last_drop (suc n) [] i z h = h
last_drop (suc n) (x ∷ xs) i z h = ap (this_phi (is_target x.result i) x) (last_drop n xs i z h)

at_drop : (n : ℕ) (xs : List Instr) (x : Instr) → slice_get xs n ≡ Some x → drop n xs ≡ x ∷ drop (suc n) xs
at_drop n [] x h = absurd cc
at_drop zero (y ∷ xs) x h = let z : y ≡ x = cc in ap (λ (y : Instr). y ∷ xs) z
at_drop (suc n) (y ∷ xs) x h = at_drop n xs x h

-- of a phi whose register none behind it sets
pub this_last : (n : ℕ) (xs : List Instr) (x : Instr) (i : ℕ) → slice_get xs n ≡ Some x → is_target x.result i ≡ true
    → phis_set (drop (suc n) xs) i ≡ false → last_phi xs i ≡ Some x
this_last n xs x i h f g =
    last_drop n xs i x (ap (λ (ys : List Instr). last_phi ys i) (at_drop n xs x h)
    ∙ (ap (this_phi (is_target x.result i) x) (no_phi (drop (suc n) xs) i g) ∙ ap (λ (b : Bool). this_phi b x None) f))

pub set_more : (n : ℕ) (xs : List Instr) (x : Instr) (i : ℕ) → slice_get xs n ≡ Some x → phis_set (drop n xs) i ≡ (is_target x.result i || phis_set (drop (suc n) xs) i)
set_more n xs x i h = ap (λ (ys : List Instr). phis_set ys i) (at_drop n xs x h)

-- nothing is asked of what two remove, one after the other
pub without_both : (t k : ℕ) (one two both writes : ℕ → Bool) (old mid new : Demanded) → ((i : ℕ) → both i ≡ (two i || one i))
    → Without t k one writes old mid → Without t k two writes mid new → Without t k both writes old new
without_both t k one two both writes old mid new f a b = record {
  registers = λ u j i w q. let c = b.registers u j i w q in let d = a.registers u j i w c.0 in (d.0, λ z. split u j i z c.1 d.1);
  bytes = λ z q. let c = b.bytes z q in let d = a.bytes z c.0 in (d.0, c.1);
}
  where
    split : (u j i : ℕ) → IsAbove t k both u j i → (IsAbove t k two u j i → ⊥) → (IsAbove t k one u j i → ⊥) → ⊥
    split u j i z c d = go z.1
      where
        go : (k < j) ⊎ ((j ≡ k) × (both i ≡ true)) → ⊥
        go (inl l) = c (z.0, inl l)
        go (inr g) = either (or_cases (two i) (one i) (sym (f i) ∙ g.1))
          where
            either : (two i ≡ true) ⊎ (one i ≡ true) → ⊥
            either (inl h) = c (z.0, inr (g.0, h))
            either (inr h) = d (z.0, inr (g.0, h))

-- what isn't removed
pub not_removed : (t k : ℕ) (sets : ℕ → Bool) (i : ℕ) → (IsAbove t k sets t k i → ⊥) → sets i ≡ false
not_removed t k sets i o = go (sets i) refl
  where
    go : (b : Bool) → sets i ≡ b → sets i ≡ false
    go false q = q
    go true q = absurd (o (refl, inr (refl, q)))

-- registers that phis set are among those that may be set
pub phis_may : (sets : ℕ → Bool) (xs : List Instr) (i : ℕ) → ((z : Instr) → Contains xs z → MaySet sets z.result) → sets i ≡ false → phis_set xs i ≡ false
phis_may sets [] i h f = refl
phis_may sets (x ∷ xs) i h f = rw (differs x.result (h x (here x xs))) (phis_may sets xs i (λ z c. h z (there x xs z c)) f)
  where
    differs : (o : Option ℕ) → MaySet sets o → is_target o i ≡ false
    differs None m = refl
    differs (Some j) m = go (j == i) refl
      where
        go : (b : Bool) → (j == i) ≡ b → (j == i) ≡ false
        go false q = q
        go true q = absurd (true≢false (sym m ∙ (ap sets (eqb-true j i q) ∙ f)))

-- what an edge asks of the registers of the phis that it enters
pub edge_phis : (p : NumberedProgram) (t k from to : ℕ) (s : SymbolicState) (phis : List Instr) → phis ≡ phis_of p to → (i : ℕ) (v : Bool) (x : Instr) → last_phi phis i ≡ Some x →
    AllByRecursion (IsMet s) (back_edge p t k from (Some to) i v) → AllByRecursion (IsMet s) (of_optional t k v (incoming_from (incoming_of x.op) from))
edge_phis p t k from to s phis e i v x q h =
    subst (λ (o : Option Instr). AllByRecursion (IsMet s) (back_phi t k from o i v)) (ap (λ (xs : List Instr). last_phi xs i) (sym e) ∙ q) h
