-- Words with zeros behind them, and memory in two parts.
use Rattle.std.proofs.Common.{◌≡◌, ℕ, zero, suc, ◌+◌, ◌-◌, ◌<◌, ◌≤◌, ◌^◌, [], ◌∷◌, ◌++◌, length, replicate, refl, sym, ap, ◌∙◌, arith, inl, inr}
use Rattle.std.proofs.Common.{◌⊎◌, slice_index, slice_set, subst}
use Rattle.std.proofs.lemmas.Bool.{cases_eq}
use Rattle.std.proofs.lemmas.List.{get_or_append_left, get_or-append_right, set-append_left, set-append_right, get_or-set_same, get_or-set_other, length-set, length-replicate}
use Rattle.pg_ir.specs.pg_num.declared.layout.TheConstants.{GLOBALS_END, GRANULE_COUNT}
use Rattle.pg_run_memory.specs.Memory.{Words, IsMemory, byte_at}
use Rattle.pg_run_memory.specs.Parts.{padded, AreParts}
use Rattle.pg_run_memory.proofs.InitialBytes.{zero_word, zero_bytes}

-- ---- zeros behind

pub padded_zeros : (n : ℕ) → padded n [] ≡ replicate n 0
unfolding padded
padded_zeros zero = refl
padded_zeros (suc n) = ap (λ ws. 0 ∷ ws) (padded_zeros n)

pub padded_none : (ws : Words) (n : ℕ) → ws ≡ [] → padded n ws ≡ replicate n 0
padded_none ws n e = rw e (padded_zeros n)

-- zeros more
pub padded_more : (n k : ℕ) (ws : Words) → length ws + k ≤ n → padded n (ws ++ replicate k 0) ≡ padded n ws
unfolding padded
padded_more zero zero [] h = refl
padded_more zero (suc k) [] h = absurd (omega arith)
padded_more zero k (w ∷ ws) h = absurd (omega arith)
padded_more (suc n) zero [] h = refl
padded_more (suc n) (suc k) [] h = ap (λ vs. 0 ∷ vs) (padded_more n k [] (omega arith))
padded_more (suc n) k (w ∷ ws) h = ap (λ vs. w ∷ vs) (padded_more n k ws (omega arith))

pub padded_length : (n : ℕ) (ws : Words) → length ws ≤ n → length (padded n ws) ≡ n
unfolding padded
padded_length zero [] h = refl
padded_length zero (w ∷ ws) h = absurd (omega arith)
padded_length (suc n) [] h = ap suc (padded_length n [] (omega arith))
padded_length (suc n) (w ∷ ws) h = ap suc (padded_length n ws (omega arith))

pub padded_get : (n i : ℕ) (ws : Words) → slice_index (padded n ws) i ≡ slice_index ws i
unfolding padded
padded_get zero i ws = refl
padded_get (suc n) zero [] = refl
padded_get (suc n) (suc i) [] = padded_get n i []
padded_get (suc n) zero (w ∷ ws) = refl
padded_get (suc n) (suc i) (w ∷ ws) = padded_get n i ws

pub set_padded : (n i v : ℕ) (ws : Words) → i < length ws → padded n (slice_set ws i v) ≡ slice_set (padded n ws) i v
unfolding padded
set_padded zero i v ws h = refl
set_padded (suc n) i v [] h = absurd (omega arith)
set_padded (suc n) zero v (w ∷ ws) h = refl
set_padded (suc n) (suc i) v (w ∷ ws) h = ap (λ vs. w ∷ vs) (set_padded n i v ws (omega arith))

-- ---- two parts

pub low_word : (a b : Words) (n i : ℕ) → length a ≡ n → i < n → slice_index a i ≡ slice_index (a ++ b) i
low_word a b n i e h = sym (get_or_append_left a b 0 i (omega arith))

pub high_word : (a b : Words) (n i : ℕ) → length a ≡ n → n ≤ i → slice_index b (i - n) ≡ slice_index (a ++ b) i
high_word a b n i e h = sym (get_or-append_right a b n i 0 e h)

pub low_set : (a b : Words) (n i v : ℕ) → length a ≡ n → i < n → slice_set a i v ++ b ≡ slice_set (a ++ b) i v
low_set a b n i v e h = sym (set-append_left a b i v (omega arith))

pub high_set : (a b : Words) (n i v : ℕ) → length a ≡ n → n ≤ i → a ++ slice_set b (i - n) v ≡ slice_set (a ++ b) i v
high_set a b n i v e h = sym (set-append_right a b n i v e h)

-- a memory with another word
set_memory : (m : Words) (g w : ℕ) → IsMemory m → g < GRANULE_COUNT → w < 2 ^ 64 → IsMemory (slice_set m g w)
set_memory m g w h l small = record {
  granules = length-set m g w ∙ h.granules;
  small = λ k. each k (cases_eq g k);
}
  where
    within : g < length m
    within = let e = h.granules in omega (arith, e, l)

    each : (k : ℕ) → (g ≡ k) ⊎ (g ≡ k → ⊥) → slice_index (slice_set m g w) k < 2 ^ 64
    each k (inl e) = subst (λ j. slice_index (slice_set m g w) j < 2 ^ 64) e (rw (get_or-set_same m g w 0 within) small)
    each k (inr e) = rw (get_or-set_other m g k w 0 (λ q. e (sym q))) (h.small k)

pub low_parts : (a b c : Words) (g w : ℕ) → AreParts a b → g < GLOBALS_END → w < 2 ^ 64 → c ≡ slice_set a g w → AreParts c b
low_parts a b c g w h l small e = rw e (record {
  globals_end = length-set a g w ∙ h.globals_end;
  threads_end = h.threads_end;
  memory = rw (low_set a b GLOBALS_END g w h.globals_end l) (set_memory (a ++ b) g w h.memory (omega arith) small);
})

pub high_parts : (a b c : Words) (g w : ℕ) → AreParts a b → GLOBALS_END ≤ g → g < GRANULE_COUNT → w < 2 ^ 64 → c ≡ slice_set b (g - GLOBALS_END) w → AreParts a c
high_parts a b c g w h k l small e = rw e (record {
  globals_end = h.globals_end;
  threads_end = length-set b (g - GLOBALS_END) w ∙ h.threads_end;
  memory = rw (high_set a b GLOBALS_END g w h.globals_end k) (set_memory (a ++ b) g w h.memory l small);
})

replicate_add : (m n : ℕ) → replicate {A = ℕ} m 0 ++ replicate {A = ℕ} n 0 ≡ replicate {A = ℕ} (m + n) 0
replicate_add zero n = let z : 0 + n ≡ n = omega arith in rw z refl
replicate_add (suc m) n = let z : suc m + n ≡ suc (m + n) = omega arith in rw z (ap (λ ws. 0 ∷ ws) (replicate_add m n))

both_zero : (a b : Words) (m n : ℕ) → a ≡ replicate m 0 → b ≡ replicate n 0 → a ++ b ≡ replicate (m + n) 0
both_zero a b m n e f = rw (e, f) (replicate_add m n)

pub zero_parts : (a b : Words) (m n : ℕ) → a ≡ replicate m 0 → b ≡ replicate n 0 → m ≡ GLOBALS_END → n ≡ GRANULE_COUNT - GLOBALS_END → AreParts a b
zero_parts a b m n e f h k = record {
  globals_end = ap length e ∙ length-replicate {A = ℕ} m 0 ∙ h;
  threads_end = ap length f ∙ length-replicate {A = ℕ} n 0 ∙ k;
  memory = record {
    granules = ap length (both_zero a b m n e f) ∙ length-replicate {A = ℕ} (m + n) 0 ∙ (let z : m + n ≡ GRANULE_COUNT = omega (arith, h, k) in z);
    small = λ g. rw (both_zero a b m n e f) (rw (zero_word (m + n) g) (omega arith));
  };
}

pub zero_both : (a b : Words) (m n at : ℕ) → a ≡ replicate m 0 → b ≡ replicate n 0 → byte_at (a ++ b) at ≡ 0
zero_both a b m n at e f = zero_bytes (a ++ b) (m + n) at (both_zero a b m n e f)
