-- What is known of a value under some decisions, and under more of them: what was known stays, and of what wasn't either the
-- blamed decision is among them, or it still isn't.
use Rattle.std.proofs.Common.{◌≡◌, ℕ, ℤ, true, List, [], ◌∷◌, Option, Some, refl, sym, ap, subst, inl, inr, ◌⊎◌}
use Rattle.std.specs.List.{AllZip}
use Rattle.std.specs.Prelude.{slice_index_or}
use Rattle.pg_ir.specs.declared.value.Index.{Index}
use Rattle.pg_ir.specs.declared.value.Value.{Value}
use Rattle.pg_ir.specs.declared.instr.Op.{Op}
use Rattle.pg_ir.specs.declared.instr.Op.TheVariants as op
use Rattle.pg_slice_rules.specs.declared.decision.Decision.{Decision}
use Rattle.pg_slice_rules.specs.SymbolicValues.{OnInput, Symbolic, Known, Bounded, Unknown, applied, cut, from_all, moved, result_of, unset, valued, with_bounds}
use Rattle.pg_slice_rules.specs.Known.{Taken, has}
use Rattle.pg_slice_rules.specs.Rules.{moved_symbolic}
use Rattle.pg_slice_rules.specs.Closed.{AreWithin}
use Rattle.pg_law_least.proofs.KeptLikeness.{IsLink}

-- ---- likeness

-- a pointer of which only the bounds were known is known in those bounds, where the blamed decision is taken; or its bounds still are
abbrev pub StaysBounded : Taken → OnInput → Decision → Symbolic → Type 0
StaysBounded e g x (Known u h) = (h ≡ g) × (has e x ≡ true)
StaysBounded e g x (Bounded h y) = h ≡ g
StaysBounded e g x (Unknown y) = ⊥

-- the second is what is known under e
abbrev pub Likes : Taken → Symbolic → Symbolic → Type 0
Likes e (Known f g) t = t ≡ Known f g
Likes e (Bounded g x) t = StaysBounded e g x t
Likes e (Unknown x) t = (has e x ≡ true) ⊎ ((y : Decision) × (t ≡ Unknown y))

module _ (e : Taken) where
  -- ---- what is made of values

  all_like : (ss ts : List Symbolic) (F : (List ℤ → List (Option ℕ)) → OnInput) → AllZip (Likes e) ss ts → Likes e (from_all ss (λ gs. valued (F gs))) (from_all ts (λ gs. valued (F gs)))
  all_like [] [] F h = refl
  all_like [] (t ∷ ts) F h = absurd h
  all_like (s ∷ ss) [] F h = absurd h
  all_like (Known g k ∷ ss) (t ∷ ts) F h =
      subst (λ (z : Symbolic). Likes e (from_all ss (λ gs. valued (F (λ input. g input ∷ gs input)))) (from_all (z ∷ ts) (λ gs. valued (F gs)))) (sym h.0)
      (all_like ss ts (λ gs. F (λ input. g input ∷ gs input)) h.1)
  all_like (Bounded g x ∷ ss) (Known u w ∷ ts) F h = inl h.0.1
  all_like (Bounded g x ∷ ss) (Bounded u y ∷ ts) F h = inr (y, refl)
  all_like (Bounded g x ∷ ss) (Unknown y ∷ ts) F h = absurd h.0
  all_like (Unknown x ∷ ss) (t ∷ ts) F h = go h.0
    where
      go : (has e x ≡ true) ⊎ ((y : Decision) × (t ≡ Unknown y)) → (has e x ≡ true) ⊎ ((y : Decision) × (from_all (t ∷ ts) (λ gs. valued (F gs)) ≡ Unknown y))
      go (inl q) = inl q
      go (inr q) = inr (q.0, ap (λ (z : Symbolic). from_all (z ∷ ts) (λ gs. valued (F gs))) q.1)

  cut_like : (f : ℕ → ℕ) (s t : Symbolic) → Likes e s t → Likes e (cut f s) (cut f t)
  cut_like f (Known g k) t h = ap (cut f) h
  cut_like f (Bounded g x) (Known u w) h = inl h.1
  cut_like f (Bounded g x) (Bounded u y) h = inr (y, refl)
  cut_like f (Bounded g x) (Unknown y) h = absurd h
  cut_like f (Unknown x) t (inl q) = inl q
  cut_like f (Unknown x) t (inr q) = inr (q.0, ap (cut f) q.1)

  -- ---- pointers that are moved

  -- it is known, or nothing of it
  IsWhole : Symbolic → Type 0
  IsWhole (Known f g) = Unit {0}
  IsWhole (Bounded g x) = ⊥
  IsWhole (Unknown x) = Unit {0}

  all_whole : (ss : List Symbolic) (F : (List ℤ → List (Option ℕ)) → OnInput) → IsWhole (from_all ss (λ gs. valued (F gs)))
  unfolding IsWhole
  all_whole [] F = tt
  all_whole (Known g k ∷ ss) F = all_whole ss (λ gs. F (λ input. g input ∷ gs input))
  all_whole (Bounded g x ∷ ss) F = tt
  all_whole (Unknown x ∷ ss) F = tt

  bounded_like : (f : OnInput) (r t : Symbolic) → IsWhole r → IsWhole t → Likes e r t → Likes e (with_bounds (Some f) r) (with_bounds (Some f) t)
  unfolding IsWhole
  bounded_like f (Known g k) t a b h = ap (with_bounds (Some f)) h
  bounded_like f (Bounded g x) t a b h = absurd a
  bounded_like f (Unknown x) (Known u w) a b (inl q) = (refl, q)
  bounded_like f (Unknown x) (Known u w) a b (inr q) = let z : Known u w ≡ Unknown q.0 = q.1 in absurd (cc)
  bounded_like f (Unknown x) (Bounded u y) a b h = absurd b
  bounded_like f (Unknown x) (Unknown y) a b h = refl

  -- where only the bounds were known
  bounds_like : (g : OnInput) (x : Decision) (t : Symbolic) → has e x ≡ true → IsWhole t → StaysBounded e g x (with_bounds (Some g) t)
  unfolding IsWhole
  bounds_like g x (Known u w) q a = (refl, q)
  bounds_like g x (Bounded u y) q a = absurd a
  bounds_like g x (Unknown y) q a = refl

  gep_like : (base : Value) (indices : List Index) (ss ts : List Symbolic) → AllZip (Likes e) ss ts →
      Likes e (moved (slice_index_or ss 0 unset) (result_of (op.Gep base indices) ss)) (moved (slice_index_or ts 0 unset) (result_of (op.Gep base indices) ts))
  gep_like base indices [] [] h = refl
  gep_like base indices [] (t ∷ ts) h = absurd h
  gep_like base indices (s ∷ ss) [] h = absurd h
  gep_like base indices (Known f g ∷ ss) (t ∷ ts) h =
      subst (λ (z : Symbolic). Likes e (with_bounds (Some g) (from_all ss (λ gs. valued (λ input. applied (op.Gep base indices) (f input ∷ gs input)))))
      (moved z (result_of (op.Gep base indices) (z ∷ ts)))) (sym h.0)
      (bounded_like g (from_all ss (λ gs. valued (λ input. applied (op.Gep base indices) (f input ∷ gs input))))
      (from_all ts (λ gs. valued (λ input. applied (op.Gep base indices) (f input ∷ gs input))))
      (all_whole ss (λ gs input. applied (op.Gep base indices) (f input ∷ gs input)))
      (all_whole ts (λ gs input. applied (op.Gep base indices) (f input ∷ gs input)))
      (all_like ss ts (λ gs input. applied (op.Gep base indices) (f input ∷ gs input)) h.1))
  gep_like base indices (Bounded g x ∷ ss) (Known w k ∷ ts) h =
      subst (λ (z : OnInput). StaysBounded e g x (with_bounds (Some z) (from_all ts (λ gs. valued (λ input. applied (op.Gep base indices) (w input ∷ gs input)))))) (sym h.0.0)
      (bounds_like g x (from_all ts (λ gs. valued (λ input. applied (op.Gep base indices) (w input ∷ gs input)))) h.0.1
      (all_whole ts (λ gs input. applied (op.Gep base indices) (w input ∷ gs input))))
  gep_like base indices (Bounded g x ∷ ss) (Bounded w y ∷ ts) h = h.0
  gep_like base indices (Bounded g x ∷ ss) (Unknown y ∷ ts) h = absurd h.0
  gep_like base indices (Unknown x ∷ ss) (t ∷ ts) h = go h.0
    where
      go : (has e x ≡ true) ⊎ ((y : Decision) × (t ≡ Unknown y)) → (has e x ≡ true) ⊎ ((y : Decision) × (moved t (result_of (op.Gep base indices) (t ∷ ts)) ≡ Unknown y))
      go (inl q) = inl q
      go (inr q) = inr (q.0, ap (λ (z : Symbolic). moved z (result_of (op.Gep base indices) (z ∷ ts))) q.1)

  shift_like : (k : ℕ) (s t : Symbolic) → Likes e s t → Likes e (moved_symbolic k s) (moved_symbolic k t)
  shift_like k (Known f g) t h = ap (moved_symbolic k) h
  shift_like k (Bounded g x) (Known u w) h = h
  shift_like k (Bounded g x) (Bounded u y) h = h
  shift_like k (Bounded g x) (Unknown y) h = absurd h
  shift_like k (Unknown x) t (inl q) = inl q
  shift_like k (Unknown x) t (inr q) = inr (q.0, ap (moved_symbolic k) q.1)

pub likes_link : (d e : Taken) (bound : ℕ) → AreWithin d e → IsLink d e bound (Likes e)
likes_link d e bound w = record {
  within = w;
  known = λ f. refl;
  all = λ ss ts F h. all_like e ss ts F h;
  cuts = λ f s t h. cut_like e f s t h;
  moves = λ o base indices q ss ts h. subst (λ (o : Op). Likes e (moved (slice_index_or ss 0 unset) (result_of o ss)) (moved (slice_index_or ts 0 unset) (result_of o ts))) (sym q)
      (gep_like e base indices ss ts h);
  shifts = λ k s t h. shift_like e k s t h;
  both = λ x l q. inr (x, refl);
  left = λ x q f t. inl f;
}
