-- What the passes over a list of touches keep.
use Rattle.std.proofs.Common.{◌≡◌, ℕ, ◌+◌, ◌-◌, ◌<◌, Bool, List, [], ◌∷◌, ◌++◌, length, take, drop, Some, refl, sym, ap, ◌∙◌, arith, zero, suc}
use Rattle.std.proofs.Common.{append_assoc, append-nil}
use Rattle.std.specs.Prelude.{reverse, slice_get}
use Rattle.std.specs.List.{list_any}
use Rattle.std.proofs.lemmas.List.{reverse-append, reverse-reverse, drop_all}
use Rattle.pg_schedule.specs.declared.touch.Touch.{Touch}
use Rattle.pg_schedule.specs.Touches.{answers, before_in, behind_in}

take_get : {A : Type 0} (xs : List A) (i : ℕ) (x : A) → slice_get xs i ≡ Some x → take (i + 1) xs ≡ take i xs ++ x ∷ []
take_get [] i x h = absurd (cc)
take_get (y ∷ xs) zero x h = let q : y ≡ x = cc in ap (λ z. z ∷ []) q
take_get (y ∷ xs) (suc i) x h = let ih = take_get xs i x h in let e : suc i + 1 ≡ suc (i + 1) = omega arith in rw e (ap (λ l. y ∷ l) ih)

drop_get : {A : Type 0} (xs : List A) (i : ℕ) (x : A) → slice_get xs i ≡ Some x → drop i xs ≡ x ∷ drop (i + 1) xs
drop_get [] i x h = absurd (cc)
drop_get (y ∷ xs) zero x h = let q : y ≡ x = cc in ap (λ z. z ∷ xs) q
drop_get (y ∷ xs) (suc i) x h = let ih = drop_get xs i x h in let e : suc i + 1 ≡ suc (i + 1) = omega arith in rw e ih

reverse_cons : (b : Bool) (bs : List Bool) → reverse (b ∷ bs) ≡ reverse bs ++ b ∷ []
reverse_cons b bs = reverse-append (b ∷ []) bs

module _ (ts : List Touch) where
  -- forward, the answers so far and those of the rest are all
  pub before_step : (i : ℕ) (y : Touch) (items : List Bool) (b : Bool) → slice_get ts i ≡ Some y → items ++ before_in (take i ts) (drop i ts) ≡ before_in [] ts →
      b ≡ list_any (λ x. answers x y) (take i ts) → (items ++ b ∷ []) ++ before_in (take (i + 1) ts) (drop (i + 1) ts) ≡ before_in [] ts
  before_step i y items b h e q =
      append_assoc items (b ∷ []) (before_in (take (i + 1) ts) (drop (i + 1) ts))
      ∙ ap (λ c. items ++ c ∷ before_in (take (i + 1) ts) (drop (i + 1) ts)) q
      ∙ ap (λ l. items ++ list_any (λ x. answers x y) (take i ts) ∷ before_in l (drop (i + 1) ts)) (take_get ts i y h)
      ∙ sym (ap (λ l. items ++ before_in (take i ts) l) (drop_get ts i y h)) ∙ e

  pub before_end : (items : List Bool) (i : ℕ) → i ≡ length ts → items ++ before_in (take i ts) (drop i ts) ≡ before_in [] ts → items ≡ before_in [] ts
  before_end items i l e = sym (append-nil items) ∙ sym (ap (λ d. items ++ before_in (take i ts) d) (drop_all i ts (omega (arith, l)))) ∙ e

  -- backward, the answers so far are those of the last k, the last first
  pub behind_step : (k : ℕ) (y : Touch) (items : List Bool) (b : Bool) → k < length ts → slice_get ts (length ts - 1 - k) ≡ Some y
      → items ≡ reverse (behind_in (drop (length ts - k) ts)) →
      b ≡ list_any (λ x. answers x y) (drop (length ts - k) ts) → items ++ b ∷ [] ≡ reverse (behind_in (drop (length ts - (k + 1)) ts))
  behind_step k y items b lt h e q =
      let i : length ts - 1 - k ≡ length ts - (k + 1) = omega arith in
      let n : (length ts - (k + 1)) + 1 ≡ length ts - k = omega (arith, lt) in
      let d = drop_get ts (length ts - (k + 1)) y (ap (slice_get ts) (sym i) ∙ h) ∙ ap (λ j. y ∷ drop j ts) n in
      ap (λ l. l ++ b ∷ []) e ∙ ap (λ c. reverse (behind_in (drop (length ts - k) ts)) ++ c ∷ []) q
      ∙ sym (ap (λ l. reverse (behind_in l)) d ∙ reverse_cons (list_any (λ x. answers x y) (drop (length ts - k) ts)) (behind_in (drop (length ts - k) ts)))

  pub behind_last : (k : ℕ) (y : Touch) → k < length ts → slice_get ts (length ts - 1 - k) ≡ Some y → drop (length ts - (k + 1)) ts ≡ y ∷ drop (length ts - k) ts
  behind_last k y lt h =
      let i : length ts - 1 - k ≡ length ts - (k + 1) = omega arith in
      let n : (length ts - (k + 1)) + 1 ≡ length ts - k = omega (arith, lt) in
      drop_get ts (length ts - (k + 1)) y (ap (slice_get ts) (sym i) ∙ h) ∙ ap (λ j. y ∷ drop j ts) n

  pub behind_end : (items : List Bool) (k : ℕ) → k ≡ length ts → items ≡ reverse (behind_in (drop (length ts - k) ts)) → reverse items ≡ behind_in ts
  behind_end items k l e =
      let z : length ts - k ≡ 0 = omega (arith, l) in
      ap reverse e ∙ reverse-reverse (behind_in (drop (length ts - k) ts)) ∙ ap (λ j. behind_in (drop j ts)) z

  pub before_more : (i : ℕ) (y : Touch) → slice_get ts i ≡ Some y → take (i + 1) ts ≡ take i ts ++ y ∷ []
  before_more i y h = take_get ts i y h

-- ---- by number

pub before_get : (xs zs : List Touch) (i : ℕ) (z : Touch) → slice_get zs i ≡ Some z → slice_get (before_in xs zs) i ≡ Some (list_any (λ x. answers x z) (xs ++ take i zs))
before_get xs [] i z h = absurd (cc)
before_get xs (y ∷ zs) zero z h = let q : y ≡ z = cc in ap (λ t. Some (list_any (λ x. answers x t) xs)) q ∙ ap (λ l. Some (list_any (λ x. answers x z) l)) (sym (append-nil xs))
before_get xs (y ∷ zs) (suc i) z h = before_get (xs ++ y ∷ []) zs i z h ∙ ap (λ l. Some (list_any (λ x. answers x z) l)) (append_assoc xs (y ∷ []) (take i zs))

pub behind_get : (zs : List Touch) (i : ℕ) (z : Touch) → slice_get zs i ≡ Some z → slice_get (behind_in zs) i ≡ Some (list_any (λ x. answers x z) (drop (i + 1) zs))
behind_get [] i z h = absurd (cc)
behind_get (y ∷ zs) zero z h = let q : y ≡ z = cc in ap (λ t. Some (list_any (λ x. answers x t) zs)) q
behind_get (y ∷ zs) (suc i) z h = let e : suc i + 1 ≡ suc (i + 1) = omega arith in behind_get zs i z h ∙ ap (λ n. Some (list_any (λ x. answers x z) (drop n (y ∷ zs)))) (sym e)

pub before_length : (xs zs : List Touch) → length (before_in xs zs) ≡ length zs
before_length xs [] = refl
before_length xs (y ∷ zs) = ap suc (before_length (xs ++ y ∷ []) zs)

pub behind_length : (zs : List Touch) → length (behind_in zs) ≡ length zs
behind_length [] = refl
behind_length (y ∷ zs) = ap suc (behind_length zs)
