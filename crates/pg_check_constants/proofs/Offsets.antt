-- Offsets modulo 2 ^ 21.
use Rattle.std.proofs.Common.{◌≡◌, ℕ, zero, suc, ◌+◌, ◌-◌, ◌*◌, ◌%◌, ◌^◌, ◌<◌, ◌≤◌, List, [], ◌∷◌, length, drop, get_or, Option, ℤ, pos, negsuc}
use Rattle.std.proofs.Common.{◌+ℤ◌, unsigned_abs, refl, sym, ap, ◌∙◌, arith}
use Rattle.std.specs.Int.{int_rem_euclid}
use Rattle.std.proofs.lemmas.Int.{int_rem_euclid_is, ints}
use Rattle.std.proofs.Math.IntN.{+ℤ_assoc, +ℤ_comm, +ℤ_idr}
use Rattle.pg_num.specs.Pointers.{offset_of, moved_by, word_of, pointer_of}
use Rattle.pg_ir.specs.declared.value.Scale.{Scale}
use Rattle.pg_check_rules.specs.Constants.{index_move}
use Rattle.pg_check_constants.specs.Indices.{moves_of}

offset_is : (z : ℤ) → pos (offset_of z) ≡ int_rem_euclid z (pos (2 ^ 21))
offset_is (pos n) = refl
offset_is (negsuc n) = refl

offset_from : (z : ℤ) (k m : ℕ) → z +ℤ pos (k * 2 ^ 21) ≡ pos m → offset_of z ≡ m % 2 ^ 21
offset_from z k m e = ap unsigned_abs (offset_is z ∙ int_rem_euclid_is z (pos (2 ^ 21)) (2 ^ 21) k m (omega arith) refl e)

-- a natural that is a multiple of 2 ^ 21 above an integer
above : (z : ℤ) → (k : ℕ) × (m : ℕ) × (z +ℤ pos (k * 2 ^ 21) ≡ pos m)
above (pos n) = (0, n, omega (arith, ints))
above (negsuc n) = (suc n, suc n * 2 ^ 21 - suc n, omega (arith, ints))

sum_again : (m n : ℕ) → (m + n) % 2 ^ 21 ≡ (m + n % 2 ^ 21) % 2 ^ 21
sum_again m n = omega arith

-- what is added counts by its offset
offset_again : (a d : ℤ) → offset_of (a +ℤ d) ≡ offset_of (a +ℤ pos (offset_of d))
offset_again a d = by (above a) (above d)
  where
    by : (k : ℕ) × (m : ℕ) × (a +ℤ pos (k * 2 ^ 21) ≡ pos m) → (k : ℕ) × (m : ℕ) × (d +ℤ pos (k * 2 ^ 21) ≡ pos m)
        → offset_of (a +ℤ d) ≡ offset_of (a +ℤ pos (offset_of d))
    by (j, m, e) (k, n, f) =
        offset_from (a +ℤ d) (j + k) (m + n) (omega (arith, ints, e, f))
        ∙ sum_again m n
        ∙ sym (ap (λ o. (m + o) % 2 ^ 21) (offset_from d k n f))
        ∙ sym (offset_from (a +ℤ pos (offset_of d)) j (m + offset_of d) (omega (arith, ints, e)))

-- of equal offsets
same_offset : (a d e : ℤ) → offset_of d ≡ offset_of e → offset_of (a +ℤ d) ≡ offset_of (a +ℤ e)
same_offset a d e s = offset_again a d ∙ ap (λ o. offset_of (a +ℤ pos o)) s ∙ sym (offset_again a e)

-- a pointer moves alike by what has the same offset
pub same_move : (word : ℕ) (d e : ℤ) → offset_of d ≡ offset_of e → moved_by word d ≡ moved_by word e
same_move word d e s = ap (λ o. word_of (record { start = (pointer_of word).start; length = (pointer_of word).length; offset = o })) (same_offset (pos (pointer_of word).offset) d e s)

-- one index more
pub move_step : (offset next : ℕ) (ss : List Scale) (is : List (Option ℤ)) (k : ℕ) (s c : Scale) (i d : Option ℤ)
    → length ss ≡ length is → k < length ss → s ≡ get_or ss k c → i ≡ get_or is k d → next ≡ offset_of (pos offset +ℤ index_move s i)
    → offset_of (pos next +ℤ moves_of (drop (k + 1) ss) (drop (k + 1) is)) ≡ offset_of (pos offset +ℤ moves_of (drop k ss) (drop k is))
unfolding moves_of
move_step offset next [] is k s c i d w l e f n = absurd (omega (arith, l))
move_step offset next (t ∷ ss) [] k s c i d w l e f n = absurd (omega (arith, w))
move_step offset next (t ∷ ss) (j ∷ is) zero s c i d w l e f n =
    let rest = moves_of ss is in
    ap (λ o. offset_of (pos o +ℤ rest)) n
    ∙ ap offset_of (+ℤ_comm (pos (offset_of (pos offset +ℤ index_move s i))) rest)
    ∙ sym (offset_again rest (pos offset +ℤ index_move s i))
    ∙ ap offset_of (+ℤ_comm rest (pos offset +ℤ index_move s i) ∙ +ℤ_assoc (pos offset) (index_move s i) rest)
    ∙ ap (λ t. offset_of (pos offset +ℤ (index_move t i +ℤ rest))) e
    ∙ ap (λ j. offset_of (pos offset +ℤ (index_move t j +ℤ rest))) f
move_step offset next (t ∷ ss) (j ∷ is) (suc k) s c i d w l e f n =
    let more : suc k + 1 ≡ suc (k + 1) = omega arith in
    ap (λ m. offset_of (pos next +ℤ moves_of (drop m (t ∷ ss)) (drop m (j ∷ is)))) more
    ∙ move_step offset next ss is k s c i d (omega (arith, w)) (omega (arith, l)) e f n

nothing : (ss : List Scale) → moves_of ss [] ≡ pos 0
unfolding moves_of
nothing [] = refl
nothing (s ∷ ss) = refl

-- no index left
pub move_end : (offset : ℕ) (ss : List Scale) (is : List (Option ℤ)) (k : ℕ) → length ss ≤ k → offset_of (pos offset) ≡ offset_of (pos offset +ℤ moves_of (drop k ss) (drop k is))
unfolding moves_of
move_end offset ss is k l = ap offset_of (sym (+ℤ_idr (pos offset))) ∙ ap (λ z. offset_of (pos offset +ℤ z)) (sym (none ss is k l))
  where
    none : (ss : List Scale) (is : List (Option ℤ)) (k : ℕ) → length ss ≤ k → moves_of (drop k ss) (drop k is) ≡ pos 0
    none [] is zero l = refl
    none [] is (suc k) l = refl
    none (s ∷ ss) is zero l = absurd (omega (arith, l))
    none (s ∷ ss) [] (suc k) l = nothing (drop k ss)
    none (s ∷ ss) (i ∷ is) (suc k) l = none ss is k (omega (arith, l))
