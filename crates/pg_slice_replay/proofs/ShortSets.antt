-- Sets in short tables.
use Rattle.std.proofs.Common.{◌≡◌, ℕ, zero, suc, ◌+◌, ◌<◌, ◌≤◌, Bool, false, List, [], ◌∷◌, length, refl, sym, ◌∙◌, subst, arith, inl, inr, ◌⊎◌}
use Rattle.std.proofs.lemmas.Bool.{cases_eq, cases_lt}
use Rattle.pg_region_accesses.specs.Tables.{in_table}

nothing_in : (r : ℕ) → in_table [] r ≡ false
nothing_in zero = refl
nothing_in (suc r) = refl

past_end : (set : List Bool) (r : ℕ) → length set ≤ r → in_table set r ≡ false
past_end [] r le = nothing_in r
past_end (b ∷ set) zero le = absurd (omega (arith, le))
past_end (b ∷ set) (suc r) le = past_end set r (omega (arith, le))

-- none of the first i numbers from the end on is in the set
abbrev pub NoneFrom : List Bool → ℕ → ℕ → Type 0
NoneFrom set end i = (r : ℕ) → end ≤ r → r < i → in_table set r ≡ false

pub none_in : (set : List Bool) (end i : ℕ) → in_table set i ≡ false → NoneFrom set end i → NoneFrom set end (i + 1)
none_in set end i e h r le lt = go (cases_eq r i)
  where
    go : (r ≡ i) ⊎ (r ≡ i → ⊥) → in_table set r ≡ false
    go (inl q) = subst (λ (k : ℕ). in_table set k ≡ false) (sym q) e
    go (inr d) = h r le (omega (arith, lt, d))

pub none_behind : (set : List Bool) (end i : ℕ) → length set ≤ i → NoneFrom set end i → (r : ℕ) → end ≤ r → in_table set r ≡ false
none_behind set end i le h r lo = go (cases_lt r i)
  where
    go : (r < i) ⊎ (i ≤ r) → in_table set r ≡ false
    go (inl lt) = h r lo lt
    go (inr ge) = past_end set r (omega (arith, le, ge))
