-- What events ask of their operands.
use Rattle.std.proofs.Common.{◌≡◌, ℕ, zero, suc, ◌<◌, ◌≤◌, Bool, true, false, List, [], ◌∷◌, ◌++◌, length, Some, refl, ap, ◌∙◌, subst, inl, inr, ◌⊎◌, arith}
use Rattle.std.specs.Prelude.{slice_get}
use Rattle.std.specs.List.{AllByRecursion}
use Rattle.std.proofs.lemmas.Bool.{true≢false, cases_lt}
use Rattle.pg_ir.specs.declared.instr.Instr.{Instr}
use Rattle.pg_run_trace.specs.declared.turn.TurnKind.{TurnKind}
use Rattle.pg_run_trace.specs.declared.turn.TurnKind.TheVariants as turns
use Rattle.pg_slice_rules.specs.Known.{SymbolicState, Seen}
use Rattle.pg_slice_rules.specs.Moments.{thread_in}
use Rattle.pg_slice_rules.specs.Rules.{all_of, checked_of}
use Rattle.pg_law_least.specs.Keeps.{depth_of}
use Rattle.pg_law_demands.specs.Cells.{IsMet}
use Rattle.pg_law_demands.specs.Back.{of_operand}
use Rattle.pg_law_demands.specs.Demands.{checked_demands, operand_demands}
use Rattle.pg_slice_passes.specs.pg_slice_checks.Steps.{below, is_start}

get_more : {A : Type 0} (xs ys : List A) (i : ℕ) (x : A) → slice_get xs i ≡ Some x → slice_get (xs ++ ys) i ≡ Some x
get_more [] ys i x h = absurd cc
get_more (z ∷ xs) ys zero x h = h
get_more (z ∷ xs) ys (suc i) x h = get_more xs ys i x h

get_last : {A : Type 0} (xs : List A) (i : ℕ) (x : A) → length xs ≡ i → slice_get (xs ++ x ∷ []) i ≡ Some x
get_last [] zero x q = refl
get_last [] (suc i) x q = absurd (omega (arith, q))
get_last (y ∷ xs) zero x q = absurd (omega (arith, q))
get_last (y ∷ xs) (suc i) x q = get_last xs i x (omega (arith, q))

long_push : (xs : List ℕ) (x : ℕ) → length (xs ++ x ∷ []) ≡ suc (length xs)
long_push [] x = refl
long_push (y ∷ xs) x = ap suc (long_push xs x)

numbers_long : (n : ℕ) → length (below n) ≡ n
numbers_long zero = refl
numbers_long (suc n) = long_push (below n) n ∙ ap suc (numbers_long n)

number_at : (n i : ℕ) → i < n → slice_get (below n) i ≡ Some i
number_at zero i l = absurd (omega (arith, l))
number_at (suc n) i l = go (cases_lt i n) (λ g. number_at n i g)
  where
    go : (i < n) ⊎ (n ≤ i) → (i < n → slice_get (below n) i ≡ Some i) → slice_get (below n ++ n ∷ []) i ≡ Some i
    go (inl g) more = get_more (below n) (n ∷ []) i i (more g)
    go (inr g) more =
        let z : n ≡ i = omega (arith, l, g) in
        subst (λ (k : ℕ). slice_get (below n ++ n ∷ []) i ≡ Some k) z (get_last (below n) i n (numbers_long n ∙ z))

pub number_in : (xs : List ℕ) (n i : ℕ) → xs ≡ below n → i < n → slice_get xs i ≡ Some i
number_in xs n i e l = ap (λ (zs : List ℕ). slice_get zs i) e ∙ number_at n i l

pub operand_there : (s : SymbolicState) (y : Seen) (x : Instr) (t k : ℕ) (whole : Bool) (i : ℕ) → thread_in y.moment ≡ t
    → depth_of y ≡ k → AllByRecursion (IsMet s) (operand_demands y x whole i) →
    AllByRecursion (IsMet s) (of_operand t k whole x.op i)
operand_there s y x t k whole i a b h =
    subst (λ (t : ℕ). AllByRecursion (IsMet s) (of_operand t k whole x.op i)) a (subst (λ (k : ℕ). AllByRecursion (IsMet s) (of_operand (thread_in y.moment) k whole x.op i)) b h)

pub called : (y : Seen) (x : Instr) (kind : TurnKind) → is_start kind ≡ false → checked_demands y x kind ≡ all_of (operand_demands y x true) (checked_of x.op)
called y x turns.Start q = absurd (true≢false q)
called y x kind q = refl
