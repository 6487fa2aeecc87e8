-- A part behind blocks stands in the last one or behind it.
use Rattle.std.proofs.Common.{◌≡◌, ℕ, zero, suc, ◌-◌, ◌<◌, List, [], ◌∷◌, ◌++◌, length, get_or, map, Bool, true, false, ◌||◌, refl, sym, ap, ◌∙◌, arith}
use Rattle.std.proofs.Common.{if◌then◌else◌, append_assoc}
use Rattle.std.proofs.lemmas.List.{map_push}
use Rattle.pg_read_ast.specs.Syntax.{Block}
use Rattle.pg_read_ast.specs.Views.{op_of, line_of, block_of}
use Rattle.pg_read_ast.specs.declared.nodes.LineNode.{LineNode}
use Rattle.pg_read_ast.specs.declared.nodes.BlockNode.{BlockNode}
use Rattle.pg_read_grammar.specs.GrammarItems.{Part, alone, ends_block}
use Rattle.pg_read_grammar.specs.ReaderItems.{is_closed, begins_block, with_back, add_part}

-- the last line decides
pub closed_at : (xs : List LineNode) (at : ℕ) (x : LineNode) → 0 < length xs → at ≡ length xs - 1 → is_closed (map line_of xs) ≡ ends_block (op_of (get_or xs at x).op)
closed_at [] at x h e = absurd (omega (arith, h))
closed_at (y ∷ []) at x h e = let z : at ≡ 0 = omega (arith, e) in rw z refl
closed_at (y ∷ z ∷ zs) zero x h e = absurd (omega (arith, e))
closed_at (y ∷ z ∷ zs) (suc n) x h e = closed_at (z ∷ zs) n x (omega arith) (omega (arith, e))

add_last : (bs : List Block) (b : Block) (p : Part) → add_part (bs ++ b ∷ []) p ≡ bs ++ add_part (b ∷ []) p
unfolding add_part
add_last [] b p = refl
add_last (c ∷ []) b p = refl
add_last (c ∷ d ∷ bs) b p = ap (λ cs. c ∷ cs) (add_last (d ∷ bs) b p)

add_one : (b : Block) (p : Part) (x : Bool) → x ≡ (is_closed b.lines || begins_block p) → add_part (b ∷ []) p ≡ (if x then b ∷ alone p ∷ [] else with_back b p ∷ [])
unfolding add_part
add_one b p x e = rw e refl

pub started : (bs cs ds : List BlockNode) (b c : BlockNode) (p : Part) (x : Bool) → x ≡ (is_closed (block_of b).lines || begins_block p) → x ≡ true → block_of c ≡ alone p
    → cs ≡ bs ++ b ∷ [] → ds ≡ cs ++ c ∷ []
    → map block_of ds ≡ add_part (map block_of (bs ++ b ∷ [])) p
started bs cs ds b c p x e h k s z =
    ap (map block_of) z ∙ map_push block_of cs c ∙ ap (λ l. map block_of cs ++ l ∷ []) k
    ∙ ap (λ l. map block_of l ++ alone p ∷ []) s ∙ ap (λ l. l ++ alone p ∷ []) (map_push block_of bs b) ∙ append_assoc (map block_of bs) (block_of b ∷ []) (alone p ∷ [])
    ∙ sym (ap (λ l. map block_of bs ++ l) (add_one (block_of b) p true (sym h ∙ e))) ∙ sym (add_last (map block_of bs) (block_of b) p) ∙ sym (ap (λ l. add_part l p) (map_push block_of bs b))

pub joined : (bs ds : List BlockNode) (b c : BlockNode) (p : Part) (x : Bool) → x ≡ (is_closed (block_of b).lines || begins_block p) → x ≡ false
    → block_of c ≡ with_back (block_of b) p → ds ≡ bs ++ c ∷ []
    → map block_of ds ≡ add_part (map block_of (bs ++ b ∷ [])) p
joined bs ds b c p x e h k z =
    ap (map block_of) z ∙ map_push block_of bs c ∙ ap (λ l. map block_of bs ++ l ∷ []) k
    ∙ sym (ap (λ l. map block_of bs ++ l) (add_one (block_of b) p false (sym h ∙ e))) ∙ sym (add_last (map block_of bs) (block_of b) p)
    ∙ sym (ap (λ l. add_part l p) (map_push block_of bs b))

-- the first part, which is pushed onto no blocks
pub begun : (bs cs ds : List BlockNode) (c : BlockNode) (p : Part) (x : Bool) → length bs ≡ 0 → length cs ≡ 0 → ds ≡ (if x then cs ++ c ∷ [] else cs) → x ≡ true
    → block_of c ≡ alone p → map block_of ds ≡ add_part (map block_of bs) p
unfolding add_part
begun [] [] ds c p true n l e h k = ap (map block_of) e ∙ ap (λ b. b ∷ []) k
begun [] [] ds c p false n l e h k = absurd cc
begun [] (b ∷ cs) ds c p x n l e h k = absurd (omega (arith, l))
begun (b ∷ bs) cs ds c p x n l e h k = absurd (omega (arith, n))
