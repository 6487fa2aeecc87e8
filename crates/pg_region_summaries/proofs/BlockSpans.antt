-- The blocks of a function lie in its span.
use Rattle.std.proofs.Common.{◌≡◌, ◌≢◌, ℕ, zero, suc, ◌+◌, ◌<◌, ◌≤◌, ◌==◌, Bool, true, false, cond, List, [], ◌∷◌, ◌++◌, length, refl, sym, ap}
use Rattle.std.proofs.Common.{◌∙◌, subst, arith, inl, inr, ◌⊎◌}
use Rattle.std.specs.Prelude.{Contains, Some, slice_get}
use Rattle.std.proofs.lemmas.Bool.{cases_eq, eq-eqb, ne_eqb, eqb-true}
use Rattle.std.proofs.lemmas.List.{append-nil}
use Rattle.std.proofs.lemmas.List.Elements.{Contains-append_left, Contains-append_right, Contains-append_cases}
use Rattle.pg_ir.specs.declared.function.Block.{Block}
use Rattle.pg_ir.specs.Program.{NumberedProgram, function_of}
use Rattle.pg_region_paths.proofs.Elements.{here, only_here, none_in}
use Rattle.pg_region_summaries.specs.declared.span.Span.{Span}
use Rattle.pg_region_summaries.specs.Spans.{Covers}
use Rattle.pg_region_summaries.specs.Blocks.{blocks_below, blocks_of}

other_block : (p : NumberedProgram) (f b : ℕ) → function_of p b ≢ f → blocks_below p f (suc b) ≡ blocks_below p f b
other_block p f b ne = rw (ne_eqb (function_of p b) f ne) (append-nil (blocks_below p f b))

own_block : (p : NumberedProgram) (f b : ℕ) → function_of p b ≡ f → blocks_below p f (suc b) ≡ blocks_below p f b ++ b ∷ []
own_block p f b e = rw (eq-eqb (function_of p b) f e) refl

pub function_is : (p : NumberedProgram) (b : ℕ) (y : Block) → slice_get p.blocks b ≡ Some y → function_of p b ≡ y.function
unfolding function_of
function_is p b y e = rw e refl

-- a block of the function, and one of another
pub kept : (p : NumberedProgram) (f b : ℕ) (blocks : List ℕ) → function_of p b ≡ f → blocks ≡ blocks_below p f b → blocks ++ b ∷ [] ≡ blocks_below p f (b + 1)
kept p f b blocks e h = let q : b + 1 ≡ suc b = omega arith in rw (q, h) (sym (own_block p f b e))

pub passed : (p : NumberedProgram) (f b : ℕ) (blocks : List ℕ) → function_of p b ≢ f → blocks ≡ blocks_below p f b → blocks ≡ blocks_below p f (b + 1)
passed p f b blocks ne h = let q : b + 1 ≡ suc b = omega arith in rw q (h ∙ sym (other_block p f b ne))

-- from one number to another no block is the function's
same_below : (p : NumberedProgram) (f a n : ℕ) → ((b : ℕ) → a ≤ b → b < n → function_of p b ≢ f) → a ≤ n → blocks_below p f n ≡ blocks_below p f a
same_below p f a zero h le = let q : a ≡ 0 = omega (arith, le) in rw q refl
same_below p f a (suc n) h le = go (cases_eq a (suc n)) (λ l. same_below p f a n (λ b lo hi. h b lo (omega (arith, hi))) l)
  where
    go : (a ≡ suc n) ⊎ (a ≡ suc n → ⊥) → (a ≤ n → blocks_below p f n ≡ blocks_below p f a) → blocks_below p f (suc n) ≡ blocks_below p f a
    go (inl e) k = rw e refl
    go (inr ne) k = other_block p f n (h n (omega (arith, le, ne)) (omega arith)) ∙ k (omega (arith, le, ne))

pub before_span : (p : NumberedProgram) (f : ℕ) (s : Span) → Covers p (length p.blocks) f s → [] ≡ blocks_below p f s.first
before_span p f s h = sym (same_below p f 0 s.first (λ b lo hi e. omega (arith, hi, (h.covers b (omega (arith, hi, h.order, h.within)) e).0)) (omega arith))

pub behind_span : (p : NumberedProgram) (f b : ℕ) (s : Span) (blocks : List ℕ) → Covers p (length p.blocks) f s → s.end ≤ b → b ≤ length p.blocks → blocks ≡ blocks_below p f b
    → blocks ≡ blocks_of p f
unfolding blocks_of
behind_span p f b s blocks h le few e = e ∙ sym (same_below p f b (length p.blocks) (λ x lo hi q. omega (arith, lo, le, (h.covers x hi q).1)) few)

-- ---- which blocks these are

below_has : (p : NumberedProgram) (f n b : ℕ) → b < n → function_of p b ≡ f → Contains (blocks_below p f n) b
below_has p f zero b lt e = absurd (omega (arith, lt))
below_has p f (suc n) b lt e = go (cases_eq b n) (λ l. below_has p f n b l e)
  where
    go : (b ≡ n) ⊎ (b ≡ n → ⊥) → (b < n → Contains (blocks_below p f n) b) → Contains (blocks_below p f (suc n)) b
    go (inl q) k = rw (own_block p f n (ap (function_of p) (sym q) ∙ e)) (Contains-append_right (blocks_below p f n) (n ∷ []) b (subst (λ (z : ℕ). Contains (n ∷ []) z) (sym q) (here n [])))
    go (inr q) k = Contains-append_left (blocks_below p f n) (cond (function_of p n == f) (n ∷ []) []) b (k (omega (arith, lt, q)))

below_only : (p : NumberedProgram) (f n b : ℕ) → Contains (blocks_below p f n) b → (b < n) × (function_of p b ≡ f)
below_only p f zero b c = absurd (none_in b c)
below_only p f (suc n) b c = go (Contains-append_cases (blocks_below p f n) (cond (function_of p n == f) (n ∷ []) []) b c) (λ d. below_only p f n b d)
  where
    last : (t : Bool) → (function_of p n == f) ≡ t → Contains (cond t (n ∷ []) []) b → (b < suc n) × (function_of p b ≡ f)
    last true q d = let e : n ≡ b = only_here n b d in (omega (arith, e), ap (function_of p) (sym e) ∙ eqb-true (function_of p n) f q)
    last false q d = absurd (none_in b d)

    go : Contains (blocks_below p f n) b ⊎ Contains (cond (function_of p n == f) (n ∷ []) []) b → (Contains (blocks_below p f n) b → (b < n) × (function_of p b ≡ f))
        → (b < suc n) × (function_of p b ≡ f)
    go (inl d) k = let r = k d in (omega (arith, r.0), r.1)
    go (inr d) k = last (function_of p n == f) refl d

pub has_block : (p : NumberedProgram) (f b : ℕ) → b < length p.blocks → function_of p b ≡ f → Contains (blocks_of p f) b
unfolding blocks_of
has_block p f b lt e = below_has p f (length p.blocks) b lt e

pub only_blocks : (p : NumberedProgram) (f b : ℕ) → Contains (blocks_of p f) b → (b < length p.blocks) × (function_of p b ≡ f)
unfolding blocks_of
only_blocks p f b c = below_only p f (length p.blocks) b c
