-- Basic blocks by number, one after the other.
use Rattle.std.proofs.Common.{◌≡◌, ℕ, zero, suc, ◌+◌, ◌<◌, ◌≤◌, List, [], ◌∷◌, ◌++◌, length, map, drop, get_or, sum_by, refl, sym, ap, ◌∙◌, arith}
use Rattle.std.proofs.lemmas.List.{append_assoc, append-nil}
use Rattle.std.proofs.lemmas.List.Sums.{sum_by-cons}
use Rattle.pg_read_ast.specs.Syntax as syntax
use Rattle.pg_read_ast.specs.declared.nodes.BlockNode.{BlockNode}
use Rattle.pg_read_ast.specs.declared.nodes.LineNode.{LineNode}
use Rattle.pg_read_ast.specs.Views.{block_of, line_of}
use Rattle.pg_ir.specs.declared.function.Block.{Block}
use Rattle.pg_check_rules.specs.Numbered.{blocks_from}
use Rattle.pg_check_program.proofs.LineSteps.{drop_is, dropped}

abbrev block_from : ℕ → ℕ → ℕ → Block
block_from f at count = record { function = f; first = record { 0 = at }; count = count }

line_count_is : (ls : List LineNode) → length (map line_of ls) ≡ length ls
line_count_is [] = refl
line_count_is (l ∷ ls) = ap (λ n. suc n) (line_count_is ls)

-- one block more
pub block_step : (f at next count : ℕ) (front : List Block) (bs : List BlockNode) (k : ℕ) (b d : BlockNode) → k < length bs → b ≡ get_or bs k d
    → count ≡ length b.lines.items → next ≡ at + count
    → (front ++ block_from f at count ∷ []) ++ blocks_from f next (map block_of (drop (k + 1) bs)) ≡ front ++ blocks_from f at (map block_of (drop k bs))
block_step f at next count front [] k b d l e n a = absurd (omega (arith, l))
block_step f at next count front (c ∷ bs) zero b d l e n a =
    let whole : count ≡ length (block_of c).lines = n ∙ ap (λ (x : BlockNode). length x.lines.items) e ∙ sym (line_count_is c.lines.items) in
    append_assoc front (block_from f at count ∷ []) (blocks_from f next (map block_of bs))
    ∙ ap (λ m. front ++ block_from f at count ∷ blocks_from f m (map block_of bs)) a
    ∙ ap (λ m. front ++ block_from f at m ∷ blocks_from f (at + m) (map block_of bs)) whole
block_step f at next count front (c ∷ bs) (suc k) b d l e n a =
    let more : suc k + 1 ≡ suc (k + 1) = omega arith in
    ap (λ m. (front ++ block_from f at count ∷ []) ++ blocks_from f next (map block_of (drop m (c ∷ bs)))) more
    ∙ block_step f at next count front bs k b d (omega (arith, l)) e n a

-- no block left
pub blocks_end : (f at : ℕ) (front : List Block) (bs : List BlockNode) (k : ℕ) → length bs ≤ k → front ≡ front ++ blocks_from f at (map block_of (drop k bs))
blocks_end f at front [] zero l = sym (append-nil front)
blocks_end f at front [] (suc k) l = sym (append-nil front)
blocks_end f at front (b ∷ bs) zero l = absurd (omega (arith, l))
blocks_end f at front (b ∷ bs) (suc k) l = blocks_end f at front bs k (omega (arith, l))

-- ---- the lines of basic blocks

abbrev lines_in : syntax.Block → ℕ
lines_in b = length b.lines

abbrev lines_from : ℕ → List BlockNode → ℕ
lines_from k bs = sum_by lines_in (map block_of (drop k bs))

-- one block more
pub count_step : (at next count : ℕ) (bs : List BlockNode) (k : ℕ) (b d : BlockNode) → k < length bs → b ≡ get_or bs k d
    → count ≡ length b.lines.items → next ≡ at + count → next + lines_from (k + 1) bs ≡ at + lines_from k bs
count_step at next count bs k b d l e n a =
    let here : lines_from k bs ≡ lines_in (block_of b) + lines_from (k + 1) bs =
    ap (λ xs. sum_by lines_in (map block_of xs)) (drop_is bs k b d l e) ∙ sum_by-cons lines_in (block_of b) (map block_of (drop (k + 1) bs)) in
    let same : lines_in (block_of b) ≡ count = line_count_is b.lines.items ∙ sym n in
    omega (arith, here, same, a)

-- no block left
pub count_end : (at : ℕ) (bs : List BlockNode) (k : ℕ) → length bs ≤ k → at ≡ at + lines_from k bs
count_end at bs k l =
    let none : lines_from k bs ≡ 0 = ap (λ xs. sum_by lines_in (map block_of xs)) (dropped bs k l) in
    omega (arith, none)
