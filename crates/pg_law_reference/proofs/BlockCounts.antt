-- A program has no more basic blocks than instructions.
use Rattle.std.proofs.Common.{◌≡◌, ℕ, zero, suc, ◌+◌, ◌<◌, ◌≤◌, ◌==◌, ◌||◌, ◌⊎◌, Bool, true, false, List, [], ◌∷◌, length, Option, Some, None, refl}
use Rattle.std.proofs.Common.{sym, ap, subst, arith, inl, inr}
use Rattle.std.specs.Prelude.{slice_get}
use Rattle.std.proofs.lemmas.Bool.{cases_eq, ne_eqb}
use Rattle.pg_ir.specs.declared.function.Block.{Block}
use Rattle.pg_ir.specs.declared.instr.Instr.{Instr}
use Rattle.pg_ir.specs.Program.{NumberedProgram}
use Rattle.pg_ir.specs.WellFormed.{IsInBlock, IsProgram}
use Rattle.pg_law_reference.proofs.MissingNumbers.{added, kept, missing, one_if, with_vertex}

-- ---- what a set lacks falls by one at most where a number is added

other_than : (f : ℕ → Bool) (x m : ℕ) → (m ≡ x → ⊥) → with_vertex f x m ≡ f m
other_than f x m ne = let e : (m == x) ≡ false = ne_eqb m x ne in rw e (or_none (f m))
  where
    or_none : (b : Bool) → (b || false) ≡ b
    or_none true = refl
    or_none false = refl

missing_past : (f : ℕ → Bool) (x m : ℕ) → m ≤ x → missing f m ≤ missing (with_vertex f x) m
missing_past f x zero le = omega arith
missing_past f x (suc m) le =
    let e : one_if (with_vertex f x m) ≡ one_if (f m) = ap one_if (other_than f x m (λ q. omega (arith, q, le))) in
    omega (arith, e, missing_past f x m (omega (arith, le)))

one_most : (b : Bool) → one_if b ≤ 1
one_most true = omega arith
one_most false = omega arith

missing_one : (f : ℕ → Bool) (x m : ℕ) → missing f m ≤ missing (with_vertex f x) m + 1
missing_one f x zero = omega arith
missing_one f x (suc m) = go (cases_eq m x) (missing_one f x m)
  where
    go : (m ≡ x) ⊎ (m ≡ x → ⊥) → missing f m ≤ missing (with_vertex f x) m + 1 → missing f m + one_if (f m) ≤ missing (with_vertex f x) m + one_if (with_vertex f x m) + 1
    go (inl e) h = omega (arith, missing_past f x m (omega (arith, e)), one_most (f m))
    go (inr ne) h = let e : one_if (with_vertex f x m) ≡ one_if (f m) = ap one_if (other_than f x m ne) in omega (arith, e, h)

-- ---- the first numbers by a function that gives each of them

abbrev marks : (ℕ → ℕ) → ℕ → ℕ → Bool
marks r zero z = false
marks r (suc m) z = with_vertex (marks r m) (r m) z

missing_none : (f : ℕ → Bool) (n : ℕ) → ((b : ℕ) → b < n → f b ≡ true) → missing f n ≡ 0
missing_none f zero h = refl
missing_none f (suc n) h = let e : one_if (f n) ≡ 0 = ap one_if (h n (omega arith)) in omega (arith, e, missing_none f n (λ b lt. h b (omega (arith, lt))))

missing_every : (n : ℕ) → missing (λ z. false) n ≡ n
missing_every zero = refl
missing_every (suc n) = let h : missing (λ z. false) n ≡ n = missing_every n in omega (arith, h)

marks_few : (r : ℕ → ℕ) (m n : ℕ) → n ≤ missing (marks r m) n + m
marks_few r zero n = let h : missing (λ z. false) n ≡ n = missing_every n in omega (arith, h)
marks_few r (suc m) n =
    let h : missing (marks r m) n ≤ missing (marks r (suc m)) n + 1 = missing_one (marks r m) (r m) n in
    let k : n ≤ missing (marks r m) n + m = marks_few r m n in
    omega (arith, h, k)

marked : (r : ℕ → ℕ) (m k : ℕ) → k < m → marks r m (r k) ≡ true
marked r zero k lt = absurd (omega (arith, lt))
marked r (suc m) k lt = go (cases_eq k m) (λ l. marked r m k l)
  where
    go : (k ≡ m) ⊎ (k ≡ m → ⊥) → (k < m → marks r m (r k) ≡ true) → with_vertex (marks r m) (r m) (r k) ≡ true
    go (inl e) h = subst (λ (z : ℕ). with_vertex (marks r m) (r m) (r z) ≡ true) (sym e) (added (marks r m) (r m))
    go (inr ne) h = kept (marks r m) (r m) (r k) (h (omega (arith, lt, ne)))

-- each number below n is what r gives for one below m
pub no_more : (n m : ℕ) (f r : ℕ → ℕ) → ((b : ℕ) → b < n → (f b < m) × (r (f b) ≡ b)) → n ≤ m
no_more n m f r h =
    let e : missing (marks r m) n ≡ 0 = missing_none (marks r m) n (λ b lt. let k = h b lt in subst (λ (z : ℕ). marks r m z ≡ true) k.1 (marked r m (f b) k.0)) in
    let k : n ≤ missing (marks r m) n + m = marks_few r m n in
    omega (arith, e, k)

-- ---- blocks

abbrev first_by : Option Block → ℕ
first_by None = 0
first_by (Some b) = b.first.0

abbrev block_by : Option Instr → ℕ
block_by None = 0
block_by (Some x) = x.block.0

pub few_blocks : (p : NumberedProgram) → IsProgram p → length p.blocks ≤ length p.instrs
few_blocks p program = no_more (length p.blocks) (length p.instrs) (λ b. first_by (slice_get p.blocks b)) (λ i. block_by (slice_get p.instrs i))
    (λ b lt. let x = there p.blocks b lt in found b (slice_get p.blocks b) x.0 refl x.1)
  where
    there : (xs : List Block) (t : ℕ) → t < length xs → (x : Block) × (slice_get xs t ≡ Some x)
    there [] t h = absurd (omega arith)
    there (x ∷ xs) zero h = (x, refl)
    there (x ∷ xs) (suc t) h = there xs t (omega arith)

    in_block : (b : ℕ) (o : Option Instr) → IsInBlock b o → block_by o ≡ b
    in_block b None h = absurd h
    in_block b (Some x) h = h

    found : (b : ℕ) (o : Option Block) (x : Block) → slice_get p.blocks b ≡ o → o ≡ Some x → (first_by o < length p.instrs) × (block_by (slice_get p.instrs (first_by o)) ≡ b)
    found b None x e q = absurd cc
    found b (Some y) x e q =
        let fit = program.blocks b y e in
        (omega (arith, fit.some, fit.within), in_block b (slice_get p.instrs y.first.0) (fit.holds y.first.0 (omega arith) (omega (arith, fit.some))))
