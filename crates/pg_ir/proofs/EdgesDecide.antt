-- Which blocks a block goes on to, and which a phi lists.
use Rattle.std.proofs.Common.{◌≡◌, ℕ, ◌-◌, ◌<◌, List, [], ◌∷◌, length, Bool, true, zero, suc, arith, refl, subst, ◌||◌, map, inl, inr, ◌⊎◌}
use Rattle.std.specs.Prelude.{slice_get, ◌==◌, Option, Some, None, Contains}
use Rattle.std.specs.List.{list_all, list_any, AllByRecursion, slice_index_or}
use Rattle.std.specs.Bool.{Decides}
use Rattle.std.proofs.lemmas.Bool.{and_parts, and_from}
use Rattle.std.proofs.lemmas.Bool.Decides.{Decides-like, Decides-eqb, Decides-or}
use Rattle.pg_ir.specs.declared.edge.Case.{Case}
use Rattle.pg_ir.specs.declared.edge.Incoming.{Incoming}
use Rattle.pg_ir.specs.declared.instr.Op.{Op}
use Rattle.pg_ir.specs.declared.instr.Op.TheVariants as op
use Rattle.pg_ir.specs.declared.instr.Instr.{Instr}
use Rattle.pg_ir.specs.Program.{NumberedProgram, end_of}
use Rattle.pg_ir.specs.Edges.{targets_of, targets_in, successors, incoming_of, sources_of}
use Rattle.pg_ir.specs.PlaceTests.{has_target, has_case_to, leads_to, goes_to, lists_block}
use Rattle.pg_ir.proofs.DecidedFacts.{decides_no}

-- ---- elements of a list

not_in_none : (t : ℕ) → Contains [] t → ⊥
not_in_none t h = omega (arith, h.1)

in_cons : (x : ℕ) (xs : List ℕ) (t : ℕ) → (x ≡ t) ⊎ Contains xs t → Contains (x ∷ xs) t
in_cons x xs t (inl e) = (0, omega arith, e)
in_cons x xs t (inr h) = (suc h.0, omega (arith, h.1), h.2)

out_at : (x : ℕ) (xs : List ℕ) (t k : ℕ) → k < length (x ∷ xs) → slice_index_or (x ∷ xs) k t ≡ t → (x ≡ t) ⊎ Contains xs t
out_at x xs t zero l e = inl e
out_at x xs t (suc k) l e = inr (k, omega arith, e)

out_cons : (x : ℕ) (xs : List ℕ) (t : ℕ) → Contains (x ∷ xs) t → (x ≡ t) ⊎ Contains xs t
out_cons x xs t h = out_at x xs t h.0 h.1 h.2

decides_cons : (x : ℕ) (xs : List ℕ) (t : ℕ) (b : Bool) → Decides b (Contains xs t) → Decides ((x == t) || b) (Contains (x ∷ xs) t)
decides_cons x xs t b d = Decides-like ((x == t) || b) (in_cons x xs t) (out_cons x xs t) (Decides-or (x == t) b (Decides-eqb x t) d)

pub decides_mapped_in : {X : Type 0} (v : X → ℕ) (xs : List X) (t : ℕ) → Decides (list_any (λ x. v x == t) xs) (Contains (map v xs) t)
decides_mapped_in v [] t = decides_no (not_in_none t)
decides_mapped_in v (x ∷ xs) t = decides_cons (v x) (map v xs) t (list_any (λ y. v y == t) xs) (decides_mapped_in v xs t)

pub told_in : (P : ℕ → Type 0) (xs : List ℕ) (t : ℕ) → AllByRecursion P xs → Contains xs t → P t
told_in P [] t h k = absurd (not_in_none t k)
told_in P (x ∷ xs) t h k = told_one P x xs t h.0 (λ m. told_in P xs t h.1 m) (out_cons x xs t k) where
  told_one : (Q : ℕ → Type 0) (y : ℕ) (ys : List ℕ) (s : ℕ) → Q y → (Contains ys s → Q s) → (y ≡ s) ⊎ Contains ys s → Q s
  told_one Q y ys s a b (inl e) = subst Q e a
  told_one Q y ys s a b (inr m) = b m

pub each_in : (P : ℕ → Type 0) (xs : List ℕ) → ((t : ℕ) → Contains xs t → P t) → AllByRecursion P xs
each_in P [] h = tt
each_in P (x ∷ xs) h = (h x (in_cons x xs x (inl refl)), each_in P xs (λ t m. h t (in_cons x xs t (inr m))))

pub all_in : {X : Type 0} (v : X → ℕ) (f : ℕ → Bool) (xs : List X) → list_all (λ x. f (v x)) xs ≡ true → AllByRecursion (λ t. f t ≡ true) (map v xs)
all_in v f [] e = tt
all_in v f (x ∷ xs) e = let parts = and_parts (f (v x)) (list_all (λ y. f (v y)) xs) e in (parts.0, all_in v f xs parts.1)

pub in_all : {X : Type 0} (v : X → ℕ) (f : ℕ → Bool) (xs : List X) → AllByRecursion (λ t. f t ≡ true) (map v xs) → list_all (λ x. f (v x)) xs ≡ true
in_all v f [] h = refl
in_all v f (x ∷ xs) h = and_from (f (v x)) (list_all (λ y. f (v y)) xs) h.0 (in_all v f xs h.1)

-- ---- edges

only_one : (x t : ℕ) → (x ≡ t) ⊎ Contains [] t → x ≡ t
only_one x t (inl e) = e
only_one x t (inr m) = absurd (not_in_none t m)

decides_one : (x t : ℕ) → Decides (x == t) (Contains (x ∷ []) t)
decides_one x t = Decides-like (x == t) (λ e. in_cons x [] t (inl e)) (λ h. only_one x t (out_cons x [] t h)) (Decides-eqb x t)

decides_target_of : (t : ℕ) (o : Op) → Decides (has_target t o) (Contains (targets_of o) t)
decides_target_of t (op.Br to) = decides_one to.0 t
decides_target_of t (op.CondBr c yes_block no_block) = decides_cons yes_block.0 (no_block.0 ∷ []) t (no_block.0 == t) (decides_one no_block.0 t)
decides_target_of t (op.Switch w on other cases) =
    decides_cons other.0 (map (λ (c : Case). c.to.0) cases) t (has_case_to t cases) (decides_mapped_in (λ (c : Case). c.to.0) cases t)
decides_target_of t _ = decides_no (not_in_none t)

decides_leads : (t : ℕ) (o : Option Instr) → Decides (leads_to t o) (Contains (targets_in o) t)
decides_leads t None = decides_no (not_in_none t)
decides_leads t (Some x) = decides_target_of t x.op

pub decides_goes : (p : NumberedProgram) (b t : ℕ) → Decides (goes_to p b t) (Contains (successors p b) t)
unfolding goes_to successors
decides_goes p b t = decides_leads t (slice_get p.instrs (end_of p b - 1))

pub decides_lists : (b : ℕ) (x : Instr) → Decides (lists_block b x) (Contains (sources_of x.op) b)
decides_lists b x = decides_mapped_in (λ (i : Incoming). i.block.0) (incoming_of x.op) b
