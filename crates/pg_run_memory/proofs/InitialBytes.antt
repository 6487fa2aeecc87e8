-- Memory before the first step.
use Rattle.std.proofs.Common.{◌≡◌, ℕ, suc, ◌+◌, ◌-◌, ◌*◌, ◌/◌, ◌%◌, ◌^◌, ◌<◌, ◌≤◌, ◌&&◌, nat_le, nat_lt, if◌then◌else◌, List, ◌∷◌}
use Rattle.std.proofs.Common.{length, get_or, drop, replicate, Some, sym, ap, ◌∙◌, arith, inl, inr, ◌⊎◌, add-one, drop-cons, slice_get, slice_index}
use Rattle.std.proofs.Math.Nat.{mod-eq_of_lt}
use Rattle.std.proofs.lemmas.Bool.{cases_lt, cases_eq}
use Rattle.std.proofs.lemmas.Bool.Decides.{nat_tests}
use Rattle.std.proofs.lemmas.List.{get_or-replicate, get_or_past, length-replicate}
use Rattle.std.proofs.lemmas.Option.{slice_get_within, get_or_from_slice_get}
use Rattle.pg_ir.specs.declared.function.GlobalInfo.{GlobalInfo}
use Rattle.pg_run_memory.specs.Bytes.{byte_of, with_bytes}
use Rattle.pg_run_memory.specs.Initial.{initial_byte, with_bytes_at}
use Rattle.pg_run_memory.specs.Memory.{byte_at}
use Rattle.pg_run_memory.proofs.Places.{inside, outside}

pub zero_word : (n g : ℕ) → slice_index (replicate n 0) g ≡ 0
zero_word n g = go (cases_lt g n)
  where
    go : (g < n) ⊎ (n ≤ g) → slice_index (replicate n 0) g ≡ 0
    go (inl h) = get_or-replicate n g 0 0 h
    go (inr h) = get_or_past (replicate n 0) g 0 (rw (length-replicate {A = ℕ} n 0) h)

pub byte_at-replicate : (n at : ℕ) → byte_at (replicate n 0) at ≡ 0
unfolding byte_at
byte_at-replicate n at = rw (zero_word n (at / 8)) (zero_part (2 ^ (8 * (at % 8))))
  where
    zero_part : (p : ℕ) → 0 / p % 2 ^ 8 ≡ 0
    zero_part p = omega arith

-- the bytes of f, with the first n of a list from a start on
abbrev pub laid : ℕ → List ℕ → ℕ → (ℕ → ℕ) → ℕ → ℕ
laid start bytes n f at = if nat_le start at && nat_lt at (start + n) then slice_index bytes (at - start) else f at

laid_in : (start : ℕ) (bytes : List ℕ) (n : ℕ) (f : ℕ → ℕ) (at : ℕ) → start ≤ at → at < start + n → laid start bytes n f at ≡ slice_index bytes (at - start)
laid_in start bytes n f at h k = grind (arith, nat_tests)

laid_out : (start : ℕ) (bytes : List ℕ) (n : ℕ) (f : ℕ → ℕ) (at : ℕ) → (at < start) ⊎ (start + n ≤ at) → laid start bytes n f at ≡ f at
laid_out start bytes n f at h = grind (arith, nat_tests)

first_byte : (v : ℕ) → v < 2 ^ 8 → byte_of v 0 ≡ v
first_byte v h = let e : v / 2 ^ (8 * 0) ≡ v = omega arith in rw e (mod-eq_of_lt h)

-- one byte more
pub laid_more : (start : ℕ) (bytes : List ℕ) (n v : ℕ) (f g : ℕ → ℕ) (at : ℕ) → v ≡ get_or bytes n 0 → v < 2 ^ 8 → g at ≡ laid start bytes n f at
    → with_bytes g (record { start = start + n; bytes = 1 }) v at ≡ laid start bytes (n + 1) f at
laid_more start bytes n v f g at e small h = go (cases_eq at (start + n)) (cases_lt at (start + n)) (cases_lt at start)
  where
    here : at ≡ start + n → with_bytes g (record { start = start + n; bytes = 1 }) v at ≡ v
    here q =
        let z : at - (start + n) ≡ 0 = omega arith in
        inside g (record { start = start + n; bytes = 1 }) v at (omega arith) (omega arith) ∙ rw z (first_byte v small)

    elsewhere : (at < start + n) ⊎ (start + n + 1 ≤ at) → with_bytes g (record { start = start + n; bytes = 1 }) v at ≡ laid start bytes n f at
    elsewhere q = outside g (record { start = start + n; bytes = 1 }) v at q ∙ h

    go : (at ≡ start + n) ⊎ (at ≡ start + n → ⊥) → (at < start + n) ⊎ (start + n ≤ at) → (at < start) ⊎ (start ≤ at)
        → with_bytes g (record { start = start + n; bytes = 1 }) v at ≡ laid start bytes (n + 1) f at
    go (inl q) _ _ =
        let z : at - start ≡ n = omega arith in
        here q ∙ e ∙ sym (laid_in start bytes (n + 1) f at (omega arith) (omega arith) ∙ ap (slice_index bytes) z)
    go (inr q) (inl a) (inl b) = elsewhere (inl a) ∙ laid_out start bytes n f at (inl b) ∙ sym (laid_out start bytes (n + 1) f at (inl b))
    go (inr q) (inl a) (inr b) = elsewhere (inl a) ∙ laid_in start bytes n f at b a ∙ sym (laid_in start bytes (n + 1) f at b (omega arith))
    go (inr q) (inr a) _ =
        elsewhere (inr (above q a)) ∙ laid_out start bytes n f at (inr a) ∙ sym (laid_out start bytes (n + 1) f at (inr (let b : start + n + 1 ≤ at = above q a in omega arith)))
      where
        above : (at ≡ start + n → ⊥) → start + n ≤ at → start + n + 1 ≤ at
        above q a = omega arith

-- nothing laid yet
pub laid_none : (start : ℕ) (bytes : List ℕ) (f : ℕ → ℕ) (at : ℕ) → f at ≡ laid start bytes 0 f at
laid_none start bytes f at = sym (laid_out start bytes 0 f at (apart (cases_lt at start)))
  where
    apart : (at < start) ⊎ (start ≤ at) → (at < start) ⊎ (start + 0 ≤ at)
    apart (inl a) = inl a
    apart (inr a) = inr (omega arith)

-- one global more, before the others
pub initial_more : (gs : List GlobalInfo) (k : ℕ) (g : GlobalInfo) (at : ℕ) → slice_get gs k ≡ Some g
    → initial_byte (drop k gs) at ≡ with_bytes_at (g.start * 8) g.bytes (initial_byte (drop (k + 1) gs)) at
initial_more gs k g at e =
    let h : k < length gs = slice_get_within gs k g e in
    let f : get_or gs k g ≡ g = get_or_from_slice_get gs k g g e in
    let d : drop k gs ≡ g ∷ drop (k + 1) gs = rw (add-one k) (drop-cons gs k g h ∙ ap (λ x. x ∷ drop (suc k) gs) f) in
    ap (λ xs. initial_byte xs at) d

pub with_bytes_at_same : (start : ℕ) (bytes : List ℕ) (f g : ℕ → ℕ) (at : ℕ) → f at ≡ g at → with_bytes_at start bytes f at ≡ with_bytes_at start bytes g at
with_bytes_at_same start bytes f g at e =
    ap (λ x. if nat_le start at && nat_lt at (start + length bytes) then slice_index bytes (at - start) else x) e

pub zero_bytes : (m : List ℕ) (n at : ℕ) → m ≡ replicate n 0 → byte_at m at ≡ 0
zero_bytes m n at e = rw e (byte_at-replicate n at)
