-- The bodies of functions, one after the other.
use Rattle.std.proofs.Common.{◌≡◌, ℕ, suc, ◌+◌, ◌<◌, ◌≤◌, List, [], ◌∷◌, length, map, take, drop, get_or, Option, Some, sym, ap, subst, ◌∙◌}
use Rattle.std.specs.List.{sum_by}
use Rattle.std.proofs.lemmas.List.{drop_all}
use Rattle.std.proofs.lemmas.List.Sums.{sum_by_more}
use Rattle.std.proofs.Math.Seq.{drop-cons}
use Rattle.std.proofs.Math.Numerals.{add-one}
use Rattle.pg_read_ast.specs.declared.nodes.DefineItem.{DefineItem}
use Rattle.pg_read_ast.specs.declared.nodes.BlockNode.{BlockNode}
use Rattle.pg_read_ast.specs.Syntax.{Tree}
use Rattle.pg_read_ast.specs.Numbers.{numbered}
use Rattle.pg_read_ast.specs.Views.{define_of}
use Rattle.pg_check_rules.specs.Names.{line_count}
use Rattle.pg_check_rules.specs.declared.refusals.CheckRefusal.{CheckRefusal}
use Rattle.pg_check_rules.specs.Conditions.{bodies, body_refused, RefusesNothing}
use Rattle.pg_check_rules.specs.Earliest.{IsFirstIn, IsFirstAmong}
use Rattle.pg_check_rules.proofs.FirstRefusals.{first_here, first_behind}
use Rattle.pg_check_bodies.specs.BodyBlocks.{node_count, capped}
use Rattle.pg_check_bodies.proofs.NumberedBodies.{nodes_counted}

abbrev pub item_count : DefineItem → ℕ
item_count d = line_count (define_of d)

-- the instructions of the first functions
abbrev pub lines_before : List DefineItem → ℕ → ℕ
lines_before items i = sum_by item_count (take i items)

pub bodies_step : (m : Tree) (items : List DefineItem) (i : ℕ) (x : DefineItem) (lines : ℕ) → i < length items → x ≡ get_or items i x
    → bodies m (map define_of (drop i items)) lines ≡ body_refused m lines (numbered m.types (define_of x)) ∷ bodies m (map define_of (drop (i + 1) items)) (lines + item_count x)
bodies_step m items i x lines l e =
    let d : drop i items ≡ x ∷ drop (i + 1) items = drop-cons items i x l ∙ ap (λ y. y ∷ drop (suc i) items) (sym e) ∙ ap (λ k. x ∷ drop k items) (sym (add-one i)) in
    ap (λ ys. bodies m (map define_of ys) lines) d

pub bodies_end : (m : Tree) (items : List DefineItem) (i : ℕ) (lines : ℕ) → length items ≤ i → bodies m (map define_of (drop i items)) lines ≡ []
bodies_end m items i lines l = ap (λ ys. bodies m (map define_of ys) lines) (drop_all i items l)

pub lines_step : (items : List DefineItem) (i : ℕ) (x : DefineItem) → i < length items → x ≡ get_or items i x → lines_before items (i + 1) ≡ lines_before items i + item_count x
lines_step items i x l e = sum_by_more item_count items i x l ∙ ap (λ y. lines_before items i + item_count y) (sym e)

-- the instructions up to the end of one function more
pub counted : (items : List DefineItem) (i : ℕ) (x : DefineItem) (blocks : List BlockNode) (until : ℕ) → blocks ≡ x.blocks.items
    → until ≡ capped (lines_before items i + sum_by node_count blocks) → until ≡ capped (lines_before items i + item_count x)
counted items i x blocks until b e =
    e ∙ ap (λ bs. capped (lines_before items i + sum_by node_count bs)) b ∙ ap (λ n. capped (lines_before items i + n)) (sym (nodes_counted x.blocks.items))

-- ---- the first refusal

pub found_here : (m : Tree) (items : List DefineItem) (i : ℕ) (x : DefineItem) (o : Option CheckRefusal) (r : CheckRefusal) → i < length items → x ≡ get_or items i x → o ≡ Some r
    → IsFirstIn (body_refused m (lines_before items i) (numbered m.types (define_of x))) o → IsFirstAmong (bodies m (map define_of (drop i items)) (lines_before items i)) (Some r)
found_here m items i x o r l e s h =
    let rest = bodies m (map define_of (drop (i + 1) items)) (lines_before items i + item_count x) in
    subst (λ ps. IsFirstAmong ps (Some r)) (sym (bodies_step m items i x (lines_before items i) l e))
    (first_here (body_refused m (lines_before items i) (numbered m.types (define_of x))) rest o r s h)

pub found_behind : (m : Tree) (items : List DefineItem) (i : ℕ) (x : DefineItem) (o : Option CheckRefusal) → i < length items → x ≡ get_or items i x
    → RefusesNothing (body_refused m (lines_before items i) (numbered m.types (define_of x)))
    → IsFirstAmong (bodies m (map define_of (drop (i + 1) items)) (lines_before items (i + 1))) o → IsFirstAmong (bodies m (map define_of (drop i items)) (lines_before items i)) o
found_behind m items i x o l e n h =
    let rest = bodies m (map define_of (drop (i + 1) items)) (lines_before items i + item_count x) in
    subst (λ ps. IsFirstAmong ps o) (sym (bodies_step m items i x (lines_before items i) l e))
    (first_behind (body_refused m (lines_before items i) (numbered m.types (define_of x))) rest o n
    (subst (λ k. IsFirstAmong (bodies m (map define_of (drop (i + 1) items)) k) o) (lines_step items i x l e) h))
