-- What has to be known, from behind a step to before it.
use Rattle.std.proofs.Common.{◌≡◌, ℕ, ◌+◌, ◌<◌, zero, suc, Bool, true, Some, List, [], ◌∷◌, ◌++◌, refl, sym, ◌∙◌, subst, inl, inr, ◌⊎◌, ◌≤◌}
use Rattle.std.proofs.Common.{false, arith, leb-true, ltb-true}
use Rattle.std.specs.Prelude.{nat_le, nat_lt, slice_get}
use Rattle.std.proofs.lemmas.Bool.{and_parts, true≢false, le-leb, lt-ltb}
use Rattle.std.specs.List.{AllByRecursion}
use Rattle.pg_slice_rules.specs.Rules.{all_of}
use Rattle.pg_slice_rules.specs.Known.{SymbolicState}
use Rattle.pg_law_demands.specs.Cells.{IsMet}
use Rattle.pg_law_demands.specs.Back.{byte_demand, of_bytes, register_demand}
use Rattle.pg_slice_demands.specs.declared.demanded.Demanded.{Demanded}
use Rattle.pg_slice_demands.specs.Asked.{asked_of, asks_byte}
use Rattle.pg_slice_back.specs.declared.bytes.Bytes.{Bytes}
use Rattle.pg_slice_back.specs.Bytes.{is_in}
use Rattle.pg_slice_back.specs.Met.{AreMet}
use Rattle.pg_slice_back.specs.Leaves.{IsLess, Leaves, Without, none}

pub without_met : (t k : ℕ) (sets writes : ℕ → Bool) (after before : SymbolicState) (old new : Demanded) → Leaves t k sets writes after before → Without t k sets writes old new →
    AreMet after old → AreMet before new
without_met t k sets writes after before old new l w m = record {
  registers = λ i j r v q. let a = w.registers i j r v q in l.registers i j r v a.1 (m.registers i j r v a.0);
  bytes = λ b q. let a = w.bytes b q in l.bytes b a.1 (m.bytes b a.0);
}

pub less_met : (s : SymbolicState) (old new : Demanded) → IsLess old new → AreMet s old → AreMet s new
less_met s old new w m = record {
  registers = λ i j r v q. m.registers i j r v (w.registers i j r v q);
  bytes = λ b q. m.bytes b (w.bytes b q);
}

-- with one register more
pub register_met : (s : SymbolicState) (old new : Demanded) (t k r : ℕ) (w : Bool) → IsMet s (register_demand t k r w) →
    ((u j i : ℕ) (v : Bool) → asked_of new u j i ≡ Some v → (asked_of old u j i ≡ Some v) ⊎ ((u ≡ t) × (j ≡ k) × (i ≡ r) × (v ≡ w))) →
    ((b : ℕ) → asks_byte new b ≡ true → asks_byte old b ≡ true) → AreMet s old → AreMet s new
register_met s old new t k r w h f g m = record { registers = λ u j i v q. go u j i v (f u j i v q); bytes = λ b q. m.bytes b (g b q) }
  where
    go : (u j i : ℕ) (v : Bool) → (asked_of old u j i ≡ Some v) ⊎ ((u ≡ t) × (j ≡ k) × (i ≡ r) × (v ≡ w)) → IsMet s (register_demand u j i v)
    go u j i v (inl q) = m.registers u j i v q
    go u j i v (inr q) = rw (q.0, q.1, q.2, q.3) h

-- with one byte more
pub byte_met : (s : SymbolicState) (old new : Demanded) (byte : ℕ) → IsMet s (byte_demand byte true)
    → ((u j i : ℕ) (v : Bool) → asked_of new u j i ≡ Some v → asked_of old u j i ≡ Some v) →
    ((b : ℕ) → asks_byte new b ≡ true → (asks_byte old b ≡ true) ⊎ (b ≡ byte)) → AreMet s old → AreMet s new
byte_met s old new byte h f g m = record { registers = λ u j i v q. m.registers u j i v (f u j i v q); bytes = λ b q. go b (g b q) }
  where
    go : (b : ℕ) → (asks_byte old b ≡ true) ⊎ (b ≡ byte) → IsMet s (byte_demand b true)
    go b (inl q) = m.bytes b q
    go b (inr q) = rw q h

pub byte_of : (s : SymbolicState) (at n i : ℕ) → i < n → AllByRecursion (IsMet s) (of_bytes at n) → IsMet s (byte_demand (at + i) true)
byte_of s at zero i l h = absurd (omega (arith, l))
byte_of s at (suc n) zero l h = let z : at + 0 ≡ at = omega arith in rw z h.0
byte_of s at (suc n) (suc i) l h = let z : at + suc i ≡ at + 1 + i = omega arith in rw z (byte_of s (at + 1) n i (omega (arith, l)) h.1)

-- what leaves fewer registers leaves more
pub leaves_more : (t k : ℕ) (sets more writes : ℕ → Bool) (after before : SymbolicState) → ((i : ℕ) → sets i ≡ true → more i ≡ true)
    → Leaves t k sets writes after before → Leaves t k more writes after before
leaves_more t k sets more writes after before f l = record { registers = λ i j r w o. l.registers i j r w (λ a. o (a.0, go j r a.1)); bytes = l.bytes }
  where
    go : (j r : ℕ) → (k < j) ⊎ ((j ≡ k) × (sets r ≡ true)) → (k < j) ⊎ ((j ≡ k) × (more r ≡ true))
    go j r (inl g) = inl g
    go j r (inr g) = inr (g.0, f r g.1)

pub leaves_like : (t k : ℕ) (sets writes same : ℕ → Bool) (after before : SymbolicState) → ((b : ℕ) → same b ≡ writes b)
    → Leaves t k sets writes after before → Leaves t k sets same after before
leaves_like t k sets writes same after before f l = record { registers = l.registers; bytes = λ b q. l.bytes b (sym (f b) ∙ q) }

-- ---- of a list one

pub all_left : {A : Type 0} (P : A → Type 0) (xs ys : List A) → AllByRecursion P (xs ++ ys) → AllByRecursion P xs
all_left P [] ys h = tt
all_left P (x ∷ xs) ys h = (h.0, all_left P xs ys h.1)

pub all_right : {A : Type 0} (P : A → Type 0) (xs ys : List A) → AllByRecursion P (xs ++ ys) → AllByRecursion P ys
all_right P [] ys h = h
all_right P (x ∷ xs) ys h = all_right P xs ys h.1

pub each_of : {A B : Type 0} (f : A → List B) (P : B → Type 0) (xs : List A) (i : ℕ) (x : A) → slice_get xs i ≡ Some x → AllByRecursion P (all_of f xs) → AllByRecursion P (f x)
each_of f P [] i x q h = absurd cc
each_of {A} f P (z ∷ xs) zero x q h = let e : z ≡ x = cc in subst (λ (z : A). AllByRecursion P (f z)) e (all_left P (f z) (all_of f xs) h)
each_of f P (z ∷ xs) (suc i) x q h = each_of f P xs i x q (all_right P (f z) (all_of f xs) h)

pub one_of_all : {A : Type 0} (P : A → Type 0) (xs : List A) (i : ℕ) (x : A) → slice_get xs i ≡ Some x → AllByRecursion P xs → P x
one_of_all P [] i x q h = absurd cc
one_of_all P (z ∷ xs) zero x q h = let e : z ≡ x = cc in subst P e h.0
one_of_all P (z ∷ xs) (suc i) x q h = one_of_all P xs i x q h.1

-- ---- bytes from one on to before another

pub in_is : (r : Bytes) (b : ℕ) → r.from ≤ b → b < r.to → is_in r b ≡ true
in_is r b l g = rw (le-leb r.from b l, lt-ltb b r.to g) refl

pub not_in : (r : Bytes) (b : ℕ) → (r.from ≤ b → b < r.to → ⊥) → is_in r b ≡ false
not_in r b o = go (is_in r b) refl
  where
    go : (c : Bool) → is_in r b ≡ c → is_in r b ≡ false
    go false q = q
    go true q = let p = and_parts (nat_le r.from b) (nat_lt b r.to) q in absurd (o (leb-true r.from b p.0) (ltb-true b r.to p.1))

-- where they are cleared too
pub cleared : (t k : ℕ) (own : Bytes) (old mid new : Demanded) → Without t k none none old mid
    → ((u j i : ℕ) (v : Bool) → asked_of new u j i ≡ Some v → asked_of mid u j i ≡ Some v) →
    ((b : ℕ) → asks_byte new b ≡ true → (asks_byte mid b ≡ true) × (own.from ≤ b → b < own.to → ⊥)) → Without t k none (is_in own) old new
cleared t k own old mid new w f g = record {
  registers = λ u j i v q. w.registers u j i v (f u j i v q);
  bytes = λ b q. let a = g b q in ((w.bytes b a.0).0, not_in own b a.1);
}

pub less_then : (old mid new : Demanded) → IsLess old mid → IsLess mid new → IsLess old new
less_then old mid new a b = record { registers = λ i j r v q. a.registers i j r v (b.registers i j r v q); bytes = λ z q. a.bytes z (b.bytes z q) }

-- and where none of them is asked
pub none_stored : (t k : ℕ) (own : Bytes) (old new : Demanded) → Without t k none none old new
    → ((b : ℕ) → own.from ≤ b → b < own.to → asks_byte new b ≡ false) → Without t k none (is_in own) old new
none_stored t k own old new w f = record {
  registers = w.registers;
  bytes = λ b q. ((w.bytes b q).0, not_in own b (λ l g. true≢false (sym q ∙ f b l g)));
}
