-- Where the blocks of each function lie, one block after another.
use Rattle.std.proofs.Common.{◌≡◌, ◌≢◌, ℕ, zero, suc, ◌+◌, ◌<◌, ◌≤◌, ◌^◌, ◌==◌, Bool, true, false, cond, List, length, get_or, replicate, refl, sym, ap}
use Rattle.std.proofs.Common.{◌∙◌, subst, arith, inl, inr, ◌⊎◌, get_or-set_same, get_or-set_other}
use Rattle.std.proofs.Math.ListN.{set}
use Rattle.std.proofs.lemmas.Bool.{cases_eq, cases_lt, eqb-true}
use Rattle.std.proofs.lemmas.List.{get_or-replicate}
use Rattle.pg_ir.specs.Program.{NumberedProgram, function_of}
use Rattle.pg_region_summaries.specs.declared.span.Span.{Span}
use Rattle.pg_region_summaries.specs.Spans.{span_at, extended, Covers}

abbrev empty : Span
empty = record { first = 0; end = 0 }

pub none_yet : (p : NumberedProgram) (n f : ℕ) → Covers p 0 f (span_at (replicate n empty) f)
none_yet p n f = go (cases_lt f n)
  where
    nothing : Covers p 0 f empty
    nothing = record { order = omega arith; within = omega arith; few = omega arith; covers = λ b lt e. absurd (omega (arith, lt)) }

    go : (f < n) ⊎ (n ≤ f) → Covers p 0 f (span_at (replicate n empty) f)
    go (inl lt) = let q : get_or (replicate n empty) f empty ≡ empty = get_or-replicate n f empty empty lt in rw q nothing
    go (inr le) = rw (past n f le) nothing
      where
        past : (n k : ℕ) → n ≤ k → get_or (replicate n empty) k empty ≡ empty
        past zero k le = refl
        past (suc n) zero le = absurd (omega arith)
        past (suc n) (suc k) le = past n k (omega arith)

other_covers : (p : NumberedProgram) (n g : ℕ) (s : Span) → Covers p n g s → function_of p n ≢ g → Covers p (n + 1) g s
other_covers p n g s h ne = record { order = h.order; within = omega (arith, h.within); few = h.few; covers = λ b lt e. go b lt e (cases_eq b n) }
  where
    go : (b : ℕ) → b < n + 1 → function_of p b ≡ g → (b ≡ n) ⊎ (b ≡ n → ⊥) → (s.first ≤ b) × (b < s.end)
    go b lt e (inl q) = absurd (ne (ap (function_of p) (sym q) ∙ e))
    go b lt e (inr q) = h.covers b (omega (arith, lt, q)) e

own_covers : (p : NumberedProgram) (n g : ℕ) (s : Span) → n < 2 ^ 32 → Covers p n g s → Covers p (n + 1) g (extended s n)
own_covers p n g s small h = go (s.end == 0) refl
  where
    go : (t : Bool) → (s.end == 0) ≡ t → Covers p (n + 1) g (record { first = cond t n s.first; end = n + 1 })
    go t q = record { order = order t; within = omega arith; few = omega (arith, small); covers = λ b lt e. covers b lt e (cases_eq b n) t q }
      where
        order : (t : Bool) → cond t n s.first ≤ n + 1
        order true = omega arith
        order false = omega (arith, h.order, h.within)

        covers : (b : ℕ) → b < n + 1 → function_of p b ≡ g → (b ≡ n) ⊎ (b ≡ n → ⊥) → (t : Bool) → (s.end == 0) ≡ t → (cond t n s.first ≤ b) × (b < n + 1)
        covers b lt e (inl i) true k = (omega (arith, i), lt)
        covers b lt e (inl i) false k = (omega (arith, i, h.order, h.within), lt)
        covers b lt e (inr i) true k = let o = h.covers b (omega (arith, lt, i)) e in absurd (omega (arith, o.1, eqb-true s.end 0 k))
        covers b lt e (inr i) false k = let o = h.covers b (omega (arith, lt, i)) e in (o.0, lt)

pub one_more : (p : NumberedProgram) (n f : ℕ) (spans : List Span) → n < 2 ^ 32 → f < length spans → function_of p n ≡ f
    → ((g : ℕ) → g < length p.functions → Covers p n g (span_at spans g)) →
    (g : ℕ) → g < length p.functions → Covers p (n + 1) g (span_at (set spans f (extended (span_at spans f) n)) g)
one_more p n f spans small fits e h g lt = go (cases_eq f g)
  where
    go : (f ≡ g) ⊎ (f ≡ g → ⊥) → Covers p (n + 1) g (span_at (set spans f (extended (span_at spans f) n)) g)
    go (inl q) =
        subst (λ (z : ℕ). Covers p (n + 1) z (span_at (set spans f (extended (span_at spans f) n)) z)) q
        (rw (get_or-set_same spans f (extended (span_at spans f) n) empty fits) (own_covers p n f (span_at spans f) small (h f (omega (arith, lt, q)))))
    go (inr ne) =
        rw (get_or-set_other spans f g (extended (span_at spans f) n) empty (λ q. ne (sym q))) (other_covers p n g (span_at spans g) (h g lt) (λ q. ne (sym e ∙ q)))
