-- Lines and basic blocks that take their names from a row, one more and none left.
use Rattle.std.proofs.Common.{◌≡◌, ℕ, zero, suc, ◌+◌, ◌<◌, ◌≤◌, true, List, [], ◌∷◌, ◌++◌, length, map, drop, get_or, refl, sym, ap, ◌∙◌, arith}
use Rattle.std.proofs.lemmas.List.{append_assoc, append-nil}
use Rattle.pg_ir.specs.declared.instr.Instr.{Instr}
use Rattle.pg_read_ast.specs.declared.names.Name.{Name}
use Rattle.pg_read_ast.specs.declared.nodes.LineNode.{LineNode}
use Rattle.pg_read_ast.specs.declared.nodes.BlockNode.{BlockNode}
use Rattle.pg_read_ast.specs.Syntax.{NamedType}
use Rattle.pg_read_ast.specs.Numbers.{gives}
use Rattle.pg_read_ast.specs.Views.{op_of, line_of, block_of}
use Rattle.pg_check_rules.specs.ValueConditions.{Scope}
use Rattle.pg_check_program.specs.LineRows.{names_after, op_instr, lines_by, names_after_lines, blocks_by}

-- ---- what is left of a list

pub drop_is : {X : Type 0} (xs : List X) (k : ℕ) (x d : X) → k < length xs → x ≡ get_or xs k d → drop k xs ≡ x ∷ drop (k + 1) xs
drop_is [] k x d l e = absurd (omega (arith, l))
drop_is (y ∷ ys) zero x d l e = ap (λ z. z ∷ ys) (sym e)
drop_is (y ∷ ys) (suc k) x d l e =
    let more : suc (k + 1) ≡ suc k + 1 = omega arith in
    drop_is ys k x d (omega (arith, l)) e ∙ ap (λ m. x ∷ drop m (y ∷ ys)) more

pub dropped : {X : Type 0} (xs : List X) (k : ℕ) → length xs ≤ k → drop k xs ≡ []
dropped [] zero l = refl
dropped [] (suc k) l = refl
dropped (x ∷ xs) zero l = absurd (omega (arith, l))
dropped (x ∷ xs) (suc k) l = dropped xs k (omega (arith, l))

pub name_behind : (ns : List Name) (k : ℕ) → k < length ns → drop (k + 1) ns ≡ names_after true (drop k ns)
name_behind [] k l = absurd (omega (arith, l))
name_behind (n ∷ ns) zero l = refl
name_behind (n ∷ ns) (suc k) l =
    let more : suc k + 1 ≡ suc (k + 1) = omega arith in
    ap (λ m. drop m (n ∷ ns)) more ∙ name_behind ns k (omega (arith, l))

-- ---- lines

-- one line more
pub line_step : (g : Scope) (first block : ℕ) (names behind : List Name) (front : List Instr) (one : Instr) (ls : List LineNode) (k : ℕ) (l d : LineNode)
    → k < length ls → l ≡ get_or ls k d → one ≡ op_instr g first block names (op_of l.op) → behind ≡ names_after (gives g.tree.types (op_of l.op)) names
    → (front ++ one ∷ []) ++ lines_by g first block behind (map line_of (drop (k + 1) ls)) ≡ front ++ lines_by g first block names (map line_of (drop k ls))
unfolding lines_by
line_step g first block names behind front one ls k l d w e o a =
    let rest = map line_of (drop (k + 1) ls) in
    append_assoc front (one ∷ []) (lines_by g first block behind rest)
    ∙ ap (λ x. front ++ x ∷ lines_by g first block behind rest) o
    ∙ ap (λ ns. front ++ op_instr g first block names (op_of l.op) ∷ lines_by g first block ns rest) a
    ∙ sym (ap (λ xs. front ++ lines_by g first block names (map line_of xs)) (drop_is ls k l d w e))

pub line_names_step : (types : List NamedType) (names behind : List Name) (ls : List LineNode) (k : ℕ) (l d : LineNode)
    → k < length ls → l ≡ get_or ls k d → behind ≡ names_after (gives types (op_of l.op)) names
    → names_after_lines types behind (map line_of (drop (k + 1) ls)) ≡ names_after_lines types names (map line_of (drop k ls))
unfolding names_after_lines
line_names_step types names behind ls k l d w e a =
    ap (λ ns. names_after_lines types ns (map line_of (drop (k + 1) ls))) a
    ∙ sym (ap (λ xs. names_after_lines types names (map line_of xs)) (drop_is ls k l d w e))

-- no line left
pub lines_end : (g : Scope) (first block : ℕ) (names : List Name) (front : List Instr) (ls : List LineNode) (k : ℕ) → length ls ≤ k
    → front ≡ front ++ lines_by g first block names (map line_of (drop k ls))
unfolding lines_by
lines_end g first block names front ls k l =
    sym (append-nil front) ∙ ap (λ xs. front ++ lines_by g first block names (map line_of xs)) (sym (dropped ls k l))

pub line_names_end : (types : List NamedType) (names : List Name) (ls : List LineNode) (k : ℕ) → length ls ≤ k
    → names ≡ names_after_lines types names (map line_of (drop k ls))
unfolding names_after_lines
line_names_end types names ls k l = ap (λ xs. names_after_lines types names (map line_of xs)) (sym (dropped ls k l))

-- ---- basic blocks

-- one basic block more
pub block_lines_step : (g : Scope) (first number next : ℕ) (names behind : List Name) (front found : List Instr) (lines : List LineNode) (bs : List BlockNode) (k : ℕ) (b d : BlockNode)
    → k < length bs → b ≡ get_or bs k d → next ≡ number + 1 → lines ≡ b.lines.items
    → found ≡ front ++ lines_by g first number names (map line_of lines) → behind ≡ names_after_lines g.tree.types names (map line_of lines)
    → found ++ blocks_by g first next behind (map block_of (drop (k + 1) bs)) ≡ front ++ blocks_by g first number names (map block_of (drop k bs))
unfolding blocks_by
block_lines_step g first number next names behind front found lines bs k b d w e n s f a =
    let rest = map block_of (drop (k + 1) bs) in
    let here = lines_by g first number names (map line_of b.lines.items) in
    ap (λ is. is ++ blocks_by g first next behind rest) (f ∙ ap (λ ls. front ++ lines_by g first number names (map line_of ls)) s)
    ∙ append_assoc front here (blocks_by g first next behind rest)
    ∙ ap (λ m. front ++ (here ++ blocks_by g first m behind rest)) n
    ∙ ap (λ ns. front ++ (here ++ blocks_by g first (number + 1) ns rest)) (a ∙ ap (λ ls. names_after_lines g.tree.types names (map line_of ls)) s)
    ∙ sym (ap (λ xs. front ++ blocks_by g first number names (map block_of xs)) (drop_is bs k b d w e))

-- no basic block left
pub block_lines_end : (g : Scope) (first number : ℕ) (names : List Name) (front : List Instr) (bs : List BlockNode) (k : ℕ) → length bs ≤ k
    → front ≡ front ++ blocks_by g first number names (map block_of (drop k bs))
unfolding blocks_by
block_lines_end g first number names front bs k l =
    sym (append-nil front) ∙ ap (λ xs. front ++ blocks_by g first number names (map block_of xs)) (sym (dropped bs k l))
