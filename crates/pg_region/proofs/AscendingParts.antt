-- Parts of ascending lists.
use Rattle.std.proofs.Common.{◌≡◌, ℕ, zero, suc, ◌+◌, ◌<◌, ◌↔◌, List, [], ◌∷◌, sym, subst, arith, inl, inr, ◌⊎◌}
use Rattle.std.specs.Prelude.{Contains}
use Rattle.std.specs.List.Sorted.{IsStrictlyIncreasing}
use Rattle.pg_region_accesses.proofs.of_pg_region_paths.Elements.{here, there, cases, none_in}
use Rattle.pg_region_accesses.proofs.AscendingSets.{tail_of, below}

cons_ascends : (x : ℕ) (xs : List ℕ) → IsStrictlyIncreasing xs → ((z : ℕ) → Contains xs z → x < z) → IsStrictlyIncreasing (x ∷ xs)
cons_ascends x [] a b k lt = absurd (omega (arith, lt))
cons_ascends x (y ∷ xs) a b zero lt = b y (here y xs)
cons_ascends x (y ∷ xs) a b (suc k) lt = let q : suc k + 1 ≡ suc (k + 1) = omega arith in rw q (a k (omega arith))

-- those of a list for which something holds
pub record IsPart (P : ℕ → Type 0) (ys xs : List ℕ) : Type 0 where
  pub ascending : IsStrictlyIncreasing xs
  pub exact : (x : ℕ) → Contains xs x ↔ (Contains ys x × P x)

-- there is no proof that an ascending list has no such part
pub has_part : (P : ℕ → Type 0) (ys : List ℕ) → IsStrictlyIncreasing ys → ((xs : List ℕ) → IsPart P ys xs → ⊥) → ⊥
has_part P [] a f = f [] (record { ascending = a; exact = λ x. (λ c. absurd (none_in x c), λ d. absurd (none_in x d.0)) })
has_part P (y ∷ ys) a f = has_part P ys (tail_of y ys a) (λ xs s. without xs s (λ q. also xs s q))
  where
    also : (xs : List ℕ) → IsPart P ys xs → P y → ⊥
    also xs s q = f (y ∷ xs) (record
        { ascending = cons_ascends y xs s.ascending (λ z c. below y ys a z ((s.exact z).0 c).0); exact = λ x. (λ c. to x (cases y xs x c), λ d. from x d.1 (cases y ys x d.0)) })
      where
        to : (x : ℕ) → (y ≡ x) ⊎ Contains xs x → Contains (y ∷ ys) x × P x
        to x (inl e) = (subst (λ (z : ℕ). Contains (y ∷ ys) z) e (here y ys), subst (λ (z : ℕ). P z) e q)
        to x (inr c) = (there y ys x ((s.exact x).0 c).0, ((s.exact x).0 c).1)

        from : (x : ℕ) → P x → (y ≡ x) ⊎ Contains ys x → Contains (y ∷ xs) x
        from x p (inl e) = subst (λ (z : ℕ). Contains (y ∷ xs) z) e (here y xs)
        from x p (inr c) = there y xs x ((s.exact x).1 (c, p))

    without : (xs : List ℕ) → IsPart P ys xs → (P y → ⊥) → ⊥
    without xs s none = f xs (record { ascending = s.ascending; exact = λ x. (λ c. (there y ys x ((s.exact x).0 c).0, ((s.exact x).0 c).1), λ d. from x d.1 (cases y ys x d.0)) })
      where
        from : (x : ℕ) → P x → (y ≡ x) ⊎ Contains ys x → Contains xs x
        from x p (inl e) = absurd (none (subst (λ (z : ℕ). P z) (sym e) p))
        from x p (inr c) = (s.exact x).1 (c, p)
