-- Globals in a row, each with the granule at which it starts.
use Rattle.std.proofs.Common.{◌≡◌, ℕ, zero, suc, ◌+◌, ◌<◌, ◌≤◌, List, [], ◌∷◌, ◌++◌, length, map, take, drop, get_or, sum_by, refl, sym, ap, ◌∙◌, arith}
use Rattle.std.specs.List.{enumerate_from}
use Rattle.std.proofs.lemmas.List.{append_assoc, append-nil}
use Rattle.std.proofs.lemmas.List.Sums.{sum_by-cons}
use Rattle.pg_ir.specs.WellFormed.{granules_for}
use Rattle.pg_ir.specs.declared.function.GlobalInfo.{GlobalInfo}
use Rattle.pg_read_ast.specs.declared.nodes.GlobalItem.{GlobalItem}
use Rattle.pg_read_ast.specs.Syntax.{Variable, Tree}
use Rattle.pg_read_ast.specs.Views.{global_of}
use Rattle.pg_check_types.specs.Resolved.{resolved}
use Rattle.pg_check_types.specs.Layout.{size_or_none}
use Rattle.pg_check_rules.specs.Constants.{start_granule}
use Rattle.pg_check_rules.specs.Numbered.{global_at}
use Rattle.pg_check_constants.proofs.ConstantBytes.{drop_next, drop_end}
use Rattle.pg_check_constants.proofs.PointerWords.{size_in}

abbrev pub row_of : Tree → ℕ × Variable → GlobalInfo
row_of m v = global_at m v.0 v.1

-- one global more
pub row_step : (m : Tree) (front : List GlobalInfo) (gs : List GlobalItem) (k : ℕ) (g d : GlobalItem) (r : GlobalInfo) → k < length gs → g ≡ get_or gs k d → r ≡ global_at m k (global_of g)
    → (front ++ r ∷ []) ++ map (row_of m) (enumerate_from (k + 1) (map global_of (drop (k + 1) gs))) ≡ front ++ map (row_of m) (enumerate_from k (map global_of (drop k gs)))
row_step m front gs k g d r l e h =
    let rest = map (row_of m) (enumerate_from (k + 1) (map global_of (drop (k + 1) gs))) in
    append_assoc front (r ∷ []) rest
    ∙ ap (λ x. front ++ x ∷ rest) h
    ∙ ap (λ xs. front ++ map (row_of m) (enumerate_from k (map global_of xs))) (sym (drop_next gs k g d l e))

-- no global left
pub rows_end : (m : Tree) (front : List GlobalInfo) (gs : List GlobalItem) (k : ℕ) → length gs ≤ k → front ≡ front ++ map (row_of m) (enumerate_from k (map global_of (drop k gs)))
rows_end m front gs k l = sym (append-nil front) ∙ ap (λ xs. front ++ map (row_of m) (enumerate_from k (map global_of xs))) (sym (drop_end gs k l))

total_more : (f : Variable → ℕ) (gs : List GlobalItem) (k : ℕ) (g d : GlobalItem) → k < length gs → g ≡ get_or gs k d
    → sum_by f (take (k + 1) (map global_of gs)) ≡ sum_by f (take k (map global_of gs)) + f (global_of g)
total_more f [] k g d l e = absurd (omega (arith, l))
total_more f (h ∷ gs) zero g d l e =
    let z : f (global_of h) + 0 ≡ 0 + f (global_of h) = omega arith in
    sum_by-cons f (global_of h) [] ∙ z ∙ ap (λ x. 0 + f (global_of x)) (sym e)
total_more f (h ∷ gs) (suc k) g d l e =
    let more : suc k + 1 ≡ suc (k + 1) = omega arith in
    let a = f (global_of h) in
    let b = sum_by f (take k (map global_of gs)) in
    let c = f (global_of g) in
    let s : a + (b + c) ≡ a + b + c = omega arith in
    ap (λ n. sum_by f (take n (map global_of (h ∷ gs)))) more
    ∙ sum_by-cons f (global_of h) (take (k + 1) (map global_of gs))
    ∙ ap (λ n. a + n) (total_more f gs k g d (omega (arith, l)) e)
    ∙ s
    ∙ ap (λ n. n + c) (sym (sum_by-cons f (global_of h) (take k (map global_of gs))))

-- the first global starts at granule 1
pub start_first : (m : Tree) → 1 ≡ start_granule m 0
unfolding start_granule
start_first m = refl

-- the granule behind one global more
pub start_step : (m : Tree) (gs : List GlobalItem) (k : ℕ) (g d : GlobalItem) → m.globals ≡ map global_of gs → k < length gs → g ≡ get_or gs k d
    → start_granule m k + granules_for (size_in m.types (global_of g)) ≡ start_granule m (k + 1)
unfolding start_granule
start_step m gs k g d e l h =
    let f : Variable → ℕ = λ v. granules_for (size_or_none (resolved m.types v.ty)) in
    let b = sum_by f (take k (map global_of gs)) in
    let s : 1 + b + f (global_of g) ≡ 1 + (b + f (global_of g)) = omega arith in
    ap (λ vs. 1 + sum_by f (take k vs) + f (global_of g)) e
    ∙ s
    ∙ ap (λ n. 1 + n) (sym (total_more f gs k g d l h))
    ∙ ap (λ vs. 1 + sum_by f (take (k + 1) vs)) (sym e)
