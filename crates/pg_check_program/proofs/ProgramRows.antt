-- What functions have in the lists of a program, one function more, and all of them.
use Rattle.std.proofs.Common.{◌≡◌, ℕ, zero, suc, ◌+◌, ◌<◌, ◌≤◌, List, [], ◌∷◌, ◌++◌, length, map, take, get_or, sum_by, refl, sym, ap, ◌∙◌, arith}
use Rattle.std.specs.List.{flat_map, enumerate_from}
use Rattle.std.proofs.lemmas.List.{append_assoc, append-nil, take_all}
use Rattle.std.proofs.lemmas.List.Sums.{sum_by-cons}
use Rattle.pg_ir.specs.declared.function.Function.{Function}
use Rattle.pg_ir.specs.declared.function.Block as numbered_block
use Rattle.pg_read_ast.specs.declared.nodes.BlockNode.{BlockNode}
use Rattle.pg_read_ast.specs.declared.nodes.DefineItem.{DefineItem}
use Rattle.pg_read_ast.specs.Syntax.{Definition, NamedType, Line, Block}
use Rattle.pg_read_ast.specs.Numbers.{numbered, each_at, behind_all, after, line_at, behind_line, block_at, behind_block, behind_param}
use Rattle.pg_read_ast.specs.Views.{block_of, define_of}
use Rattle.pg_check_rules.specs.Names.{line_count, first_block, first_line}
use Rattle.pg_check_rules.specs.Numbered.{blocks_from}
use Rattle.pg_check_program.specs.FunctionRows.{rows_from, numbered_item, block_row}
use Rattle.pg_check_program.specs.Room.{blocks_in}

-- ---- one more

pub rows_step : {A X : Type 0} (f : ℕ → A → List X) (n : ℕ) (xs : List A) (k : ℕ) (x d : A) → k < length xs → x ≡ get_or xs k d
    → rows_from f n (take (k + 1) xs) ≡ rows_from f n (take k xs) ++ f (n + k) x
unfolding rows_from
rows_step f n [] k x d l e = absurd (omega (arith, l))
rows_step f n (y ∷ ys) zero x d l e =
    let s : n ≡ n + 0 = omega arith in
    append-nil (f n y) ∙ ap (λ m. f m y) s ∙ ap (λ z. f (n + 0) z) (sym e)
rows_step f n (y ∷ ys) (suc k) x d l e =
    let more : suc k + 1 ≡ suc (k + 1) = omega arith in
    let s : n + 1 + k ≡ n + suc k = omega arith in
    ap (λ m. rows_from f n (take m (y ∷ ys))) more
    ∙ ap (λ xs. f n y ++ xs) (rows_step f (n + 1) ys k x d (omega (arith, l)) e ∙ ap (λ m. rows_from f (n + 1) (take k ys) ++ f m x) s)
    ∙ sym (append_assoc (f n y) (rows_from f (n + 1) (take k ys)) (f (n + suc k) x))

pub rows_pushed : {A X : Type 0} (f : ℕ → A → List X) (xs : List A) (k : ℕ) (x d : A) (front found more : List X) → k < length xs → x ≡ get_or xs k d
    → found ≡ front ++ more → front ≡ rows_from f 0 (take k xs) → more ≡ f k x → found ≡ rows_from f 0 (take (k + 1) xs)
rows_pushed f xs k x d front found more l e a b m =
    let s : k ≡ 0 + k = omega arith in
    a ∙ ap (λ ys. ys ++ more) b ∙ ap (λ ys. rows_from f 0 (take k xs) ++ ys) (m ∙ ap (λ j. f j x) s) ∙ sym (rows_step f 0 xs k x d l e)

pub rows_all : {A X : Type 0} (f : ℕ → A → List X) (xs : List A) (k : ℕ) (front : List X) → length xs ≤ k → front ≡ rows_from f 0 (take k xs) → front ≡ rows_from f 0 xs
rows_all f xs k front l b = b ∙ ap (λ ys. rows_from f 0 ys) (take_all k xs l)

total_step : (f : Definition → ℕ) (xs : List DefineItem) (k : ℕ) (x d : DefineItem) → k < length xs → x ≡ get_or xs k d
    → sum_by f (take (k + 1) (map define_of xs)) ≡ sum_by f (take k (map define_of xs)) + f (define_of x)
total_step f [] k x d l e = absurd (omega (arith, l))
total_step f (y ∷ ys) zero x d l e =
    let s : f (define_of y) + sum_by f [] ≡ sum_by f [] + f (define_of y) = omega arith in
    sum_by-cons f (define_of y) [] ∙ s ∙ ap (λ z. sum_by f [] + f (define_of z)) (sym e)
total_step f (y ∷ ys) (suc k) x d l e =
    let more : suc k + 1 ≡ suc (k + 1) = omega arith in
    let front = sum_by f (take k (map define_of ys)) in
    let s : f (define_of y) + (front + f (define_of x)) ≡ f (define_of y) + front + f (define_of x) = omega arith in
    ap (λ m. sum_by f (take m (map define_of (y ∷ ys)))) more
    ∙ sum_by-cons f (define_of y) (take (k + 1) (map define_of ys))
    ∙ ap (λ n. f (define_of y) + n) (total_step f ys k x d (omega (arith, l)) e)
    ∙ s
    ∙ ap (λ n. n + f (define_of x)) (sym (sum_by-cons f (define_of y) (take k (map define_of ys))))

pub first_block_step : (xs : List DefineItem) (k : ℕ) (x d : DefineItem) (first next : ℕ) → k < length xs → x ≡ get_or xs k d
    → first ≡ first_block (map define_of xs) k → next ≡ first + length (define_of x).blocks → next ≡ first_block (map define_of xs) (k + 1)
unfolding first_block
first_block_step xs k x d first next l e a b =
    b ∙ ap (λ n. n + length (define_of x).blocks) a ∙ sym (total_step (λ (d : Definition). length d.blocks) xs k x d l e)

pub first_line_step : (xs : List DefineItem) (k : ℕ) (x d : DefineItem) (first next : ℕ) → k < length xs → x ≡ get_or xs k d
    → first ≡ first_line (map define_of xs) k → next ≡ first + line_count (define_of x) → next ≡ first_line (map define_of xs) (k + 1)
unfolding first_line
first_line_step xs k x d first next l e a b =
    b ∙ ap (λ n. n + line_count (define_of x)) a ∙ sym (total_step line_count xs k x d l e)

-- ---- room for one more

sum_front : (f : Definition → ℕ) (ds : List Definition) (k : ℕ) → sum_by f (take k ds) ≤ sum_by f ds
sum_front f ds zero = omega arith
sum_front f [] (suc k) = omega arith
sum_front f (d ∷ ds) (suc k) = omega (arith, sum_by-cons f d (take k ds), sum_by-cons f d ds, sum_front f ds k)

pub blocks_room : (xs : List DefineItem) (k : ℕ) (x d : DefineItem) (first limit : ℕ) → k < length xs → x ≡ get_or xs k d
    → first ≡ first_block (map define_of xs) k → sum_by blocks_in (map define_of xs) ≤ limit → first + length (define_of x).blocks ≤ limit
unfolding first_block
blocks_room xs k x d first limit l e a h = omega (arith, total_step blocks_in xs k x d l e, sum_front blocks_in (map define_of xs) (k + 1), a, h)

pub lines_room : (xs : List DefineItem) (k : ℕ) (x d : DefineItem) (first limit : ℕ) → k < length xs → x ≡ get_or xs k d
    → first ≡ first_line (map define_of xs) k → sum_by line_count (map define_of xs) ≤ limit → first + line_count (define_of x) ≤ limit
unfolding first_line
lines_room xs k x d first limit l e a h = omega (arith, total_step line_count xs k x d l e, sum_front line_count (map define_of xs) (k + 1), a, h)

pub first_block_none : (fs : List Definition) → first_block fs 0 ≡ 0
unfolding first_block
first_block_none fs = refl

pub first_line_none : (fs : List Definition) → first_line fs 0 ≡ 0
unfolding first_line
first_line_none fs = refl

pub rows_none : {A X : Type 0} (f : ℕ → A → List X) (n : ℕ) → rows_from f n [] ≡ []
unfolding rows_from
rows_none f n = refl

pub count_blocks : (item : DefineItem) → length (define_of item).blocks ≡ length item.blocks.items
count_blocks item = count_all item.blocks.items
  where
    count_all : (bs : List BlockNode) → length (map block_of bs) ≡ length bs
    count_all [] = refl
    count_all (b ∷ bs) = ap (λ n. suc n) (count_all bs)

-- ---- all of them, as the program has them

pub rows_are : {X : Type 0} (f : ℕ → Definition → List X) (types : List NamedType) (n : ℕ) (items : List DefineItem)
    → rows_from (λ k i. f k (numbered_item types i)) n items ≡ flat_map (λ (d : ℕ × Definition). f d.0 d.1) (enumerate_from n (map (numbered types) (map define_of items)))
unfolding rows_from
rows_are f types n [] = refl
rows_are f types n (i ∷ is) = ap (λ xs. f n (numbered_item types i) ++ xs) (rows_are f types (n + 1) is)

pub singles_are : (f : ℕ → Definition → Function) (types : List NamedType) (n : ℕ) (items : List DefineItem)
    → rows_from (λ k i. f k (numbered_item types i) ∷ []) n items ≡ map (λ (d : ℕ × Definition). f d.0 d.1) (enumerate_from n (map (numbered types) (map define_of items)))
unfolding rows_from
singles_are f types n [] = refl
singles_are f types n (i ∷ is) = ap (λ xs. f n (numbered_item types i) ∷ xs) (singles_are f types (n + 1) is)

-- names don't change how many lines there are
line_total : (types : List NamedType) (next : ℕ) (ls : List Line) → length (each_at (behind_line types) (line_at types) next ls) ≡ length ls
line_total types next [] = refl
line_total types next (l ∷ ls) = ap (λ n. suc n) (line_total types (behind_line types next l) ls)

abbrev block_from : ℕ → ℕ → ℕ → numbered_block.Block
block_from f at count = record { function = f; first = record { 0 = at }; count = count }

each_blocks : (types : List NamedType) (f at next : ℕ) (bs : List Block) → blocks_from f at (each_at (behind_block types) (block_at types) next bs) ≡ blocks_from f at bs
unfolding block_at
each_blocks types f at next [] = refl
each_blocks types f at next (b ∷ bs) =
    ap (λ n. block_from f at n ∷ blocks_from f (at + n) (each_at (behind_block types) (block_at types) (behind_block types next b) bs)) (line_total types (after next b.label) b.lines)
    ∙ ap (λ xs. block_from f at (length b.lines) ∷ xs) (each_blocks types f (at + length b.lines) (behind_block types next b) bs)

blocks_same : (types : List NamedType) (f at : ℕ) (d : Definition) → blocks_from f at d.blocks ≡ blocks_from f at (numbered types d).blocks
unfolding numbered
blocks_same types f at d = sym (each_blocks types f at (behind_all behind_param 0 d.params) d.blocks)

pub block_rows_are : (fs : List Definition) (types : List NamedType) (n : ℕ) (items : List DefineItem)
    → rows_from (block_row fs) n items ≡ flat_map (λ (d : ℕ × Definition). blocks_from d.0 (first_line fs d.0) d.1.blocks) (enumerate_from n (map (numbered types) (map define_of items)))
unfolding rows_from
block_rows_are fs types n [] = refl
block_rows_are fs types n (i ∷ is) =
    ap (λ bs. bs ++ rows_from (block_row fs) (n + 1) is) (blocks_same types n (first_line fs n) (define_of i))
    ∙ ap (λ xs. blocks_from n (first_line fs n) (numbered types (define_of i)).blocks ++ xs) (block_rows_are fs types (n + 1) is)
