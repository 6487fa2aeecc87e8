-- A function on the first numbers as a list.
use Rattle.std.proofs.Common.{◌≡◌, ℕ, zero, suc, ◌+◌, ◌<◌, ◌≤◌, List, [], ◌∷◌, length, refl, ap, ◌∙◌, arith}
use Rattle.std.specs.Prelude.{slice_index_or}

abbrev pub table_from : {A : Type 0} → (ℕ → A) → ℕ → ℕ → List A
table_from f k zero = []
table_from f k (suc n) = f k ∷ table_from f (suc k) n

-- what the function gives for 0, 1, .. below n
abbrev pub table : {A : Type 0} → (ℕ → A) → ℕ → List A
table f n = table_from f 0 n

pub table_length : {A : Type 0} (f : ℕ → A) (k n : ℕ) → length (table_from f k n) ≡ n
table_length f k zero = refl
table_length f k (suc n) = ap suc (table_length f (suc k) n)

table_within : {A : Type 0} (f : ℕ → A) (d : A) (k n x : ℕ) → x < n → slice_index_or (table_from f k n) x d ≡ f (k + x)
table_within f d k zero x lt = absurd (omega arith)
table_within f d k (suc n) zero lt = let e : k ≡ k + 0 = omega arith in ap f e
table_within f d k (suc n) (suc x) lt = let e : suc k + x ≡ k + suc x = omega arith in table_within f d (suc k) n x (omega arith) ∙ ap f e

table_past : {A : Type 0} (f : ℕ → A) (d : A) (k n x : ℕ) → n ≤ x → slice_index_or (table_from f k n) x d ≡ d
table_past f d k zero x le = refl
table_past f d k (suc n) zero le = absurd (omega arith)
table_past f d k (suc n) (suc x) le = table_past f d (suc k) n x (omega arith)

pub table_at : {A : Type 0} (f : ℕ → A) (d : A) (n x : ℕ) → x < n → slice_index_or (table f n) x d ≡ f x
table_at f d n x lt = let e : 0 + x ≡ x = omega arith in table_within f d 0 n x lt ∙ ap f e

pub table_beyond : {A : Type 0} (f : ℕ → A) (d : A) (n x : ℕ) → n ≤ x → slice_index_or (table f n) x d ≡ d
table_beyond f d n x le = table_past f d 0 n x le
