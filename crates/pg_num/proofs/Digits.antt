-- Digits read from the left, with a number that stops growing at a cap.
use Rattle.std.proofs.Common.{◌≡◌, ℕ, ◌+◌, ◌-◌, ◌*◌, ◌<◌, ◌≤◌, List, [], ◌∷◌, length, get_or, drop, min, refl, ap, ◌∙◌, arith, inl, inr, ◌⊎◌}
use Rattle.std.proofs.Common.{add-one, drop-cons}
use Rattle.std.proofs.lemmas.Bool.{cases_lt}
use Rattle.pg_num.specs.Decimal.{digits_after}

-- a number only grows by further digits
digits_after-grows : (n : ℕ) (ds : List ℕ) → n ≤ digits_after n ds
digits_after-grows n [] = omega arith
digits_after-grows n (d ∷ ds) =
    let h : n * 10 + (d - 48) ≤ digits_after (n * 10 + (d - 48)) ds = digits_after-grows (n * 10 + (d - 48)) ds in
    omega arith

-- a number may be capped before further digits
digits_after-capped : (n cap : ℕ) (ds : List ℕ) → min (digits_after (min n cap) ds) cap ≡ min (digits_after n ds) cap
digits_after-capped n cap ds = go (cases_lt n cap)
  where
    go : (n < cap) ⊎ (cap ≤ n) → min (digits_after (min n cap) ds) cap ≡ min (digits_after n ds) cap
    go (inl h) = let e : min n cap ≡ n = omega arith in ap (λ m. min (digits_after m ds) cap) e
    go (inr h) =
        let e : min n cap ≡ cap = omega arith in
        let a : cap ≤ digits_after cap ds = digits_after-grows cap ds in
        let b : n ≤ digits_after n ds = digits_after-grows n ds in
        ap (λ m. min (digits_after m ds) cap) e ∙ omega arith

pub digits_step : (text : List ℕ) (i n d cap : ℕ) → i < length text → d ≡ get_or text i 0
    → min (digits_after (min (n * 10 + (d - 48)) cap) (drop (i + 1) text)) cap ≡ min (digits_after n (drop i text)) cap
digits_step text i n d cap h e =
    digits_after-capped (n * 10 + (d - 48)) cap (drop (i + 1) text)
    ∙ rw (e, add-one, drop-cons text i 0) refl

pub digits_end : (text : List ℕ) (n cap : ℕ) → n ≤ cap → min (digits_after n []) cap ≡ n
digits_end text n cap h = omega arith
