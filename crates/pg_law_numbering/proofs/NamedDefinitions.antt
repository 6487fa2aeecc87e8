-- A definition in which each parameter, block and result has its name has the same parts.
use Rattle.std.proofs.Common.{◌≡◌, ℕ, zero, suc, ◌+◌, List, [], ◌∷◌, length, take, refl, sym, ap, ◌∙◌, subst, Bool, true, false}
use Rattle.std.specs.Prelude.{slice_get, Option, Some, None, sum_by}
use Rattle.std.proofs.lemmas.List.Sums.{sum_by-cons}
use Rattle.std.proofs.lemmas.Option.{same_Some}
use Rattle.pg_read_ast.specs.Syntax.{Line, Block, Param, NamedType, Definition, Tree}
use Rattle.pg_read_ast.specs.declared.names.Name.{Name}
use Rattle.pg_read_ast.specs.Numbers.{each_at, behind_all, name_at, param_at, behind_param, gives, result_at, line_at, behind_line, block_at, behind_block, after, numbered}
use Rattle.pg_check_rules.specs.Names.{line_count, first_block, first_line}
use Rattle.pg_check_rules.specs.Numbered.{named_functions}
use Rattle.pg_law_numbering.proofs.FlattenedLists.{sum_map, take_map}

pub each_length : {X Y : Type 0} (behind : ℕ → X → ℕ) (give : ℕ → X → Y) (n : ℕ) (xs : List X) → length (each_at behind give n xs) ≡ length xs
each_length behind give n [] = refl
each_length behind give n (x ∷ xs) = ap suc (each_length behind give (behind n x) xs)

-- what is counted of each thing stays the same
each_sum : {X Y : Type 0} (behind : ℕ → X → ℕ) (give : ℕ → X → Y) (size : X → ℕ) (other : Y → ℕ) → ((n : ℕ) (x : X) → other (give n x) ≡ size x)
    → (n : ℕ) (xs : List X) → sum_by other (each_at behind give n xs) ≡ sum_by size xs
each_sum behind give size other h n [] = refl
each_sum behind give size other h n (x ∷ xs) =
    sum_by-cons other (give n x) (each_at behind give (behind n x) xs)
    ∙ ap (λ (q : ℕ). q + sum_by other (each_at behind give (behind n x) xs)) (h n x)
    ∙ ap (λ (q : ℕ). size x + q) (each_sum behind give size other h (behind n x) xs)
    ∙ sym (sum_by-cons size x xs)

block_lines : (types : List NamedType) (n : ℕ) (b : Block) → length (block_at types n b).lines ≡ length b.lines
unfolding block_at
block_lines types n b = each_length (behind_line types) (line_at types) (after n b.label) b.lines

abbrev pub block_count : Definition → ℕ
block_count d = length d.blocks

pub blocks_kept : (types : List NamedType) (d : Definition) → block_count (numbered types d) ≡ block_count d
unfolding numbered
blocks_kept types d = each_length (behind_block types) (block_at types) (behind_all behind_param 0 d.params) d.blocks

pub lines_kept : (types : List NamedType) (d : Definition) → line_count (numbered types d) ≡ line_count d
unfolding numbered
lines_kept types d = each_sum (behind_block types) (block_at types) (λ (b : Block). length b.lines) (λ (b : Block). length b.lines) (block_lines types) (behind_all behind_param 0 d.params) d.blocks

pub params_kept : (types : List NamedType) (d : Definition) → length (numbered types d).params ≡ length d.params
unfolding numbered
params_kept types d = each_length behind_param param_at 0 d.params

-- ---- the functions of a tree

pub first_block_named : (m : Tree) (f : ℕ) → sum_by block_count (take f (named_functions m)) ≡ first_block m.functions f
unfolding first_block
first_block_named m f =
    ap (sum_by block_count) (take_map (numbered m.types) f m.functions)
    ∙ sum_map (numbered m.types) block_count block_count (blocks_kept m.types) (take f m.functions)

pub first_line_named : (m : Tree) (f : ℕ) → sum_by line_count (take f (named_functions m)) ≡ first_line m.functions f
unfolding first_line
first_line_named m f =
    ap (sum_by line_count) (take_map (numbered m.types) f m.functions)
    ∙ sum_map (numbered m.types) line_count line_count (lines_kept m.types) (take f m.functions)

pub all_lines_named : (m : Tree) → sum_by line_count (named_functions m) ≡ sum_by line_count m.functions
all_lines_named m = sum_map (numbered m.types) line_count line_count (lines_kept m.types) m.functions

-- ---- what stands at a place

pub each_found : {X Y : Type 0} (behind : ℕ → X → ℕ) (give : ℕ → X → Y) (n : ℕ) (xs : List X) (i : ℕ) (y : Y) → slice_get (each_at behind give n xs) i ≡ Some y
    → (k : ℕ) × (x : X) × (slice_get xs i ≡ Some x) × (y ≡ give k x)
each_found behind give n [] i y e = absurd cc
each_found behind give n (x ∷ xs) zero y e = (n, x, refl, sym (same_Some (give n x) y e))
each_found behind give n (x ∷ xs) (suc i) y e = each_found behind give (behind n x) xs i y e

-- a block, and the one that is written
pub record IsBlockAt (types : List NamedType) (d : Definition) (place : ℕ) (block : Block) : Type 0 where
  pub next : ℕ
  pub plain : Block
  pub there : slice_get d.blocks place ≡ Some plain
  pub is : block ≡ block_at types next plain

pub block_plain : (types : List NamedType) (d : Definition) (i : ℕ) (b : Block) → slice_get (numbered types d).blocks i ≡ Some b → IsBlockAt types d i b
unfolding numbered
block_plain types d i b e =
    let r = each_found (behind_block types) (block_at types) (behind_all behind_param 0 d.params) d.blocks i b e in
    record { next = r.0; plain = r.1; there = r.2; is = r.3 }

label_there : (types : List NamedType) (next : ℕ) (b : Block) → (n : Name) × ((block_at types next b).label ≡ Some n)
unfolding block_at
label_there types next b = (name_at next b.label, refl)

-- each block has a label
pub has_label : (types : List NamedType) (d : Definition) (i : ℕ) (b : Block) → slice_get (numbered types d).blocks i ≡ Some b → (n : Name) × (b.label ≡ Some n)
has_label types d i b e =
    let r = block_plain types d i b e in
    let n = label_there types r.next r.plain in
    (n.0, ap (λ (q : Block). q.label) r.is ∙ n.1)

result_there : (g : Bool) (next : ℕ) (o : Option Name) → g ≡ true → (n : Name) × (result_at g next o ≡ Some n)
result_there true next (Some n) e = (n, refl)
result_there true next None e = (name_at next None, refl)
result_there false next o e = absurd cc

line_in : (types : List NamedType) (next : ℕ) (b : Block) (i : ℕ) (l : Line) → slice_get (block_at types next b).lines i ≡ Some l
    → (k : ℕ) × (x : Line) × (slice_get b.lines i ≡ Some x) × (l ≡ line_at types k x)
unfolding block_at
line_in types next b i l e = each_found (behind_line types) (line_at types) (after next b.label) b.lines i l e

-- each line that has a result has a name
pub has_name : (types : List NamedType) (d : Definition) (i : ℕ) (b : Block) (j : ℕ) (l : Line) → slice_get (numbered types d).blocks i ≡ Some b → slice_get b.lines j ≡ Some l
    → gives types l.op ≡ true → (n : Name) × (l.name ≡ Some n)
has_name types d i b j l e h g =
    let r = block_plain types d i b e in
    let s = line_in types r.next r.plain j l (subst (λ (q : Block). slice_get q.lines j ≡ Some l) r.is h) in
    let n = result_there (gives types s.1.op) s.0 s.1.name (subst (λ (q : Line). gives types q.op ≡ true) s.3 g) in
    (n.0, ap (λ (q : Line). q.name) s.3 ∙ n.1)

-- each parameter has one
pub has_param_name : (types : List NamedType) (d : Definition) (i : ℕ) (p : Param) → slice_get (numbered types d).params i ≡ Some p → (n : Name) × (p.name ≡ Some n)
unfolding numbered
has_param_name types d i p e =
    let r = each_found behind_param param_at 0 d.params i p e in
    (name_at r.0 r.1.name, ap (λ (q : Param). q.name) r.3)

-- a parameter, and the one that is written, at one place and of one type
pub param_plain : (types : List NamedType) (d : Definition) (i : ℕ) (p : Param) → slice_get (numbered types d).params i ≡ Some p
    → (q : Param) × (slice_get d.params i ≡ Some q) × (p.ty ≡ q.ty)
unfolding numbered
param_plain types d i p e =
    let r = each_found behind_param param_at 0 d.params i p e in
    (r.1, r.2, ap (λ (q : Param). q.ty) r.3)
