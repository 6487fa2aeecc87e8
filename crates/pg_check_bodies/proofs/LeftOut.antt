-- Values of which one is left out.
use Rattle.std.proofs.Common.{◌≡◌, ℕ, zero, suc, ◌+◌, ◌≤◌, List, [], ◌∷◌, ◌++◌, length, take, drop, Some, refl, sym, ap, ◌∙◌, arith}
use Rattle.std.specs.Prelude.{remove}
use Rattle.pg_check_rules.specs.Written.{Use}
use Rattle.pg_check_lines.specs.declared.operands.UseNode.{UseNode}
use Rattle.pg_check_calls.specs.Threads.{left_out}
use Rattle.pg_check_lines.specs.Uses.{use_of, uses_of}

pub left_one : (us : List UseNode) (k : ℕ) → uses_of (remove us k) ≡ left_out (Some k) (uses_of us)
left_one [] zero = refl
left_one [] (suc k) =
    let s : suc k + 1 ≡ suc (k + 1) = omega arith in
    let none : List Use = [] in
    ap (λ n. drop n none) (sym s)
left_one (u ∷ us) zero = refl
left_one (u ∷ us) (suc k) =
    let s : suc k + 1 ≡ suc (k + 1) = omega arith in
    ap (λ xs. use_of u ∷ xs) (left_one us k) ∙ ap (λ n. use_of u ∷ (take k (uses_of us) ++ drop n (uses_of (u ∷ us)))) (sym s)

pub left_none : (us : List UseNode) (k : ℕ) → length us ≤ k → uses_of us ≡ left_out (Some k) (uses_of us)
left_none [] zero l = refl
left_none [] (suc k) l =
    let s : suc k + 1 ≡ suc (k + 1) = omega arith in
    let none : List Use = [] in
    ap (λ n. drop n none) (sym s)
left_none (u ∷ us) zero l = absurd (omega (arith, l))
left_none (u ∷ us) (suc k) l =
    let s : suc k + 1 ≡ suc (k + 1) = omega arith in
    ap (λ xs. use_of u ∷ xs) (left_none us k (omega (arith, l))) ∙ ap (λ n. use_of u ∷ (take k (uses_of us) ++ drop n (uses_of (u ∷ us)))) (sym s)
