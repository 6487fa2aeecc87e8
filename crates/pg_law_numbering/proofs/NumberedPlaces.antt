-- Which function, basic block and instruction of the numbered program has which number.
use Rattle.std.proofs.Common.{◌≡◌, ℕ, zero, suc, ◌+◌, ◌<◌, List, [], ◌∷◌, length, map, take, refl, sym, ap, ◌∙◌, subst, arith}
use Rattle.std.specs.Prelude.{slice_get, Option, Some, None, sum_by}
use Rattle.std.specs.List.{enumerate_from}
use Rattle.std.specs.Option.{option_map}
use Rattle.std.proofs.lemmas.List.Sums.{sum_by-cons}
use Rattle.std.proofs.lemmas.List.FromFn.{length-enumerate_from}
use Rattle.std.proofs.lemmas.Option.{slice_get-map, slice_get_within, same_Some}
use Rattle.pg_ir.specs.declared.function.Function.{Function}
use Rattle.pg_ir.specs.declared.function.Block as numbered_block
use Rattle.pg_ir.specs.declared.instr.Instr.{Instr}
use Rattle.pg_read_ast.specs.Syntax.{Line, Block, Definition, Tree}
use Rattle.pg_check_rules.specs.Names.{line_count, first_block, first_line}
use Rattle.pg_check_rules.specs.Conditions.{scope_of}
use Rattle.pg_check_rules.specs.Numbered.{named_functions, blocks_from, function_at, function_instrs, instr_at, program_of}
use Rattle.pg_law_numbering.proofs.FlattenedLists.{Numbered, enumerate_get, IsIn, HaveSize, pieces, found, stands, pieces_length, sum_within, map_count}
use Rattle.pg_law_numbering.proofs.NamedDefinitions.{block_count, first_block_named, first_line_named, all_lines_named}

-- ---- lists with numbers

pub map_numbered : {X Y : Type 0} (g : Numbered X → Y) (n : ℕ) (xs : List X) (i : ℕ) (x : X) → slice_get xs i ≡ Some x → slice_get (map g (enumerate_from n xs)) i ≡ Some (g (n + i, x))
map_numbered {X} {Y} g n xs i x e =
    slice_get-map g (enumerate_from n xs) i ∙ ap {B = Option Y} (λ (o : Option (Numbered X)). option_map g o) (enumerate_get n xs i x e)

pub record IsNumberedAt {X Y : Type 0} (g : Numbered X → Y) (n : ℕ) (xs : List X) (i : ℕ) (y : Y) : Type 0 where
  pub plain : X
  pub there : slice_get xs i ≡ Some plain
  pub is : y ≡ g (n + i, plain)

none_numbered : {X Y : Type 0} (g : Numbered X → Y) (n : ℕ) (xs : List X) (i : ℕ) (y : Y) → slice_get xs i ≡ None → slice_get (map g (enumerate_from n xs)) i ≡ Some y → ⊥
none_numbered g n [] i y h e = cc
none_numbered g n (x ∷ xs) zero y h e = cc
none_numbered g n (x ∷ xs) (suc i) y h e = none_numbered g (n + 1) xs i y h e

pub numbered_found : {X Y : Type 0} (g : Numbered X → Y) (n : ℕ) (xs : List X) (i : ℕ) (y : Y) → slice_get (map g (enumerate_from n xs)) i ≡ Some y → IsNumberedAt g n xs i y
numbered_found {X} {Y} g n xs i y e = by (slice_get xs i) refl
  where
    at : (x : X) → slice_get xs i ≡ Some x → Some y ≡ Some (g (n + i, x))
    at x h = sym e ∙ map_numbered g n xs i x h

    by : (o : Option X) → slice_get xs i ≡ o → IsNumberedAt g n xs i y
    by (Some x) h = record { plain = x; there = h; is = same_Some y (g (n + i, x)) (at x h) }
    by None h = absurd (none_numbered g n xs i y h e)

-- ---- functions and globals

pub function_there : (m : Tree) (f : ℕ) (d : Definition) → slice_get (named_functions m) f ≡ Some d
    → slice_get (program_of m).functions f ≡ Some (function_at m (first_block m.functions f) d)
unfolding program_of
function_there m f d e =
    let z : 0 + f ≡ f = omega arith in
    map_numbered (λ (x : Numbered Definition). function_at m (first_block m.functions x.0) x.1) 0 (named_functions m) f d e
    ∙ ap (λ (q : ℕ). Some (function_at m (first_block m.functions q) d)) z

pub record IsFunctionOf (m : Tree) (f : ℕ) (x : Function) : Type 0 where
  pub plain : Definition
  pub there : slice_get (named_functions m) f ≡ Some plain
  pub is : x ≡ function_at m (first_block m.functions f) plain

pub function_found : (m : Tree) (f : ℕ) (x : Function) → slice_get (program_of m).functions f ≡ Some x → IsFunctionOf m f x
unfolding program_of
function_found m f x e =
    let n = numbered_found (λ (x : Numbered Definition). function_at m (first_block m.functions x.0) x.1) 0 (named_functions m) f x e in
    let z : 0 + f ≡ f = omega arith in
    record { plain = n.plain; there = n.there; is = n.is ∙ ap (λ (q : ℕ). function_at m (first_block m.functions q) n.plain) z }

pub functions_count : (m : Tree) → length (program_of m).functions ≡ length (named_functions m)
unfolding program_of
functions_count m =
    map_length (λ (x : Numbered Definition). function_at m (first_block m.functions x.0) x.1) (enumerate_from 0 (named_functions m))
    ∙ length-enumerate_from 0 (named_functions m)
  where
    map_length : {X Y : Type 0} (g : X → Y) (xs : List X) → length (map g xs) ≡ length xs
    map_length g [] = refl
    map_length g (x ∷ xs) = ap suc (map_length g xs)

-- ---- basic blocks

-- the block of these lines
abbrev pub block_of : ℕ → ℕ → Block → numbered_block.Block
block_of f at b = record { function = f; first = record { 0 = at }; count = length b.lines }

abbrev pub lines_in : Block → ℕ
lines_in b = length b.lines

blocks_from_count : (f at : ℕ) (bs : List Block) → length (blocks_from f at bs) ≡ length bs
blocks_from_count f at [] = refl
blocks_from_count f at (b ∷ bs) = ap suc (blocks_from_count f (at + length b.lines) bs)

blocks_from_get : (f at : ℕ) (bs : List Block) (i : ℕ) (b : Block) → slice_get bs i ≡ Some b → slice_get (blocks_from f at bs) i ≡ Some (block_of f (at + sum_by lines_in (take i bs)) b)
blocks_from_get f at [] i b e = absurd cc
blocks_from_get f at (c ∷ cs) zero b e =
    let z : at ≡ at + 0 = omega arith in
    ap (λ (q : ℕ). Some (block_of f q c)) z ∙ ap (λ (q : Block). Some (block_of f (at + 0) q)) (same_Some c b e)
blocks_from_get f at (c ∷ cs) (suc i) b e =
    let z : at + length c.lines + sum_by lines_in (take i cs) ≡ at + sum_by lines_in (c ∷ take i cs) = omega (arith, sum_by-cons lines_in c (take i cs)) in
    blocks_from_get f (at + length c.lines) cs i b e ∙ ap (λ (q : ℕ). Some (block_of f q b)) z

blocks_from_none : (f at : ℕ) (bs : List Block) (i : ℕ) (x : numbered_block.Block) → slice_get (blocks_from f at bs) i ≡ Some x → slice_get bs i ≡ None → ⊥
blocks_from_none f at [] i x e h = cc
blocks_from_none f at (b ∷ bs) zero x e h = cc
blocks_from_none f at (b ∷ bs) (suc i) x e h = blocks_from_none f (at + length b.lines) bs i x e h

abbrev pub blocks_of : Tree → ℕ → Definition → List numbered_block.Block
blocks_of m f d = blocks_from f (first_line m.functions f) d.blocks

blocks_sized : (m : Tree) → HaveSize (blocks_of m) block_count
blocks_sized m f d = blocks_from_count f (first_line m.functions f) d.blocks

-- where a block of the program stands in the tree
pub record IsBlockOf (m : Tree) (k : ℕ) (x : numbered_block.Block) : Type 0 where
  pub function : ℕ
  pub definition : Definition
  pub there : slice_get (named_functions m) function ≡ Some definition
  pub place : ℕ
  pub plain : Block
  pub within : slice_get definition.blocks place ≡ Some plain
  pub number : k ≡ first_block m.functions function + place
  pub is : x ≡ block_of function (first_line m.functions function + sum_by lines_in (take place definition.blocks)) plain

pub block_there : (m : Tree) (f : ℕ) (d : Definition) (i : ℕ) (b : Block) → slice_get (named_functions m) f ≡ Some d → slice_get d.blocks i ≡ Some b
    → slice_get (program_of m).blocks (first_block m.functions f + i) ≡ Some (block_of f (first_line m.functions f + sum_by lines_in (take i d.blocks)) b)
unfolding program_of
block_there m f d i b e h =
    let z : 0 + f ≡ f = omega arith in
    ap (λ (q : ℕ). slice_get (pieces (blocks_of m) 0 (named_functions m)) (q + i)) (sym (first_block_named m f))
    ∙ stands (blocks_of m) block_count (blocks_sized m) 0 (named_functions m) f d i e (slice_get_within d.blocks i b h)
    ∙ ap (λ (q : ℕ). slice_get (blocks_of m q d) i) z
    ∙ blocks_from_get f (first_line m.functions f) d.blocks i b h

pub block_found : (m : Tree) (k : ℕ) (x : numbered_block.Block) → slice_get (program_of m).blocks k ≡ Some x → IsBlockOf m k x
unfolding program_of
block_found m k x e = by (found (blocks_of m) block_count (blocks_sized m) 0 (named_functions m) k x e)
  where
    of : (r : IsIn (blocks_of m) block_count 0 (named_functions m) k x) → slice_get (blocks_of m r.place r.whole) r.inner ≡ Some x → (o : Option Block)
        → slice_get r.whole.blocks r.inner ≡ o → IsBlockOf m k x
    of r h None n = absurd (blocks_from_none r.place (first_line m.functions r.place) r.whole.blocks r.inner x h n)
    of r h (Some b) n = record {
      function = r.place;
      definition = r.whole;
      there = r.there;
      place = r.inner;
      plain = b;
      within = n;
      number = r.number ∙ ap (λ (q : ℕ). q + r.inner) (first_block_named m r.place);
      is = same_Some x (block_of r.place (first_line m.functions r.place + sum_by lines_in (take r.inner r.whole.blocks)) b)
          (sym h ∙ blocks_from_get r.place (first_line m.functions r.place) r.whole.blocks r.inner b n);
    }

    by : IsIn (blocks_of m) block_count 0 (named_functions m) k x → IsBlockOf m k x
    by r =
        let z : 0 + r.place ≡ r.place = omega arith in
        of r (subst (λ (q : ℕ). slice_get (blocks_of m q r.whole) r.inner ≡ Some x) z r.inside) (slice_get r.whole.blocks r.inner) refl

pub blocks_total : (m : Tree) → length (program_of m).blocks ≡ sum_by block_count (named_functions m)
unfolding program_of
blocks_total m = pieces_length (blocks_of m) block_count (blocks_sized m) 0 (named_functions m)

-- ---- instructions

abbrev pub lines_of : Tree → ℕ → Definition → ℕ → Block → List Instr
lines_of m first d i b = map (instr_at (scope_of m d) first i) b.lines

lines_sized : (m : Tree) (first : ℕ) (d : Definition) → HaveSize (lines_of m first d) lines_in
lines_sized m first d i b = map_count (instr_at (scope_of m d) first i) b.lines

abbrev pub instrs_of : Tree → ℕ → Definition → List Instr
instrs_of m f d = function_instrs m (first_block m.functions f) d

instrs_sized : (m : Tree) → HaveSize (instrs_of m) line_count
instrs_sized m f d = pieces_length (lines_of m (first_block m.functions f) d) lines_in (lines_sized m (first_block m.functions f) d) 0 d.blocks

-- where an instruction of the program stands in the tree
pub record IsLineOf (m : Tree) (k : ℕ) (x : Instr) : Type 0 where
  pub function : ℕ
  pub definition : Definition
  pub there : slice_get (named_functions m) function ≡ Some definition
  pub place : ℕ
  pub block : Block
  pub within : slice_get definition.blocks place ≡ Some block
  pub inner : ℕ
  pub line : Line
  pub inside : slice_get block.lines inner ≡ Some line
  pub number : k ≡ first_line m.functions function + sum_by lines_in (take place definition.blocks) + inner
  pub is : x ≡ instr_at (scope_of m definition) (first_block m.functions function) place line

line_there_in : (m : Tree) (first : ℕ) (d : Definition) (i : ℕ) (b : Block) (j : ℕ) (l : Line) → slice_get d.blocks i ≡ Some b → slice_get b.lines j ≡ Some l
    → slice_get (function_instrs m first d) (sum_by lines_in (take i d.blocks) + j) ≡ Some (instr_at (scope_of m d) first i l)
line_there_in m first d i b j l h g =
    let z : 0 + i ≡ i = omega arith in
    stands (lines_of m first d) lines_in (lines_sized m first d) 0 d.blocks i b j h (slice_get_within b.lines j l g)
    ∙ ap (λ (q : ℕ). slice_get (lines_of m first d q b) j) z
    ∙ slice_get-map (instr_at (scope_of m d) first i) b.lines j
    ∙ ap (λ (o : Option Line). option_map (instr_at (scope_of m d) first i) o) g

-- a line's number in its function is one of the function's
line_within : (bs : List Block) (i : ℕ) (b : Block) (j : ℕ) (l : Line) → slice_get bs i ≡ Some b → slice_get b.lines j ≡ Some l → sum_by lines_in (take i bs) + j < sum_by lines_in bs
line_within bs i b j l h g = omega (arith, sum_within lines_in bs i b h, slice_get_within b.lines j l g)

pub line_there : (m : Tree) (f : ℕ) (d : Definition) (i : ℕ) (b : Block) (j : ℕ) (l : Line) → slice_get (named_functions m) f ≡ Some d → slice_get d.blocks i ≡ Some b
    → slice_get b.lines j ≡ Some l
    → slice_get (program_of m).instrs (first_line m.functions f + sum_by lines_in (take i d.blocks) + j) ≡ Some (instr_at (scope_of m d) (first_block m.functions f) i l)
unfolding program_of
line_there m f d i b j l e h g =
    let z : 0 + f ≡ f = omega arith in
    let at : first_line m.functions f + sum_by lines_in (take i d.blocks) + j ≡ sum_by line_count (take f (named_functions m)) + (sum_by lines_in (take i d.blocks) + j) =
    omega (arith, first_line_named m f) in
    ap (slice_get (pieces (instrs_of m) 0 (named_functions m))) at
    ∙ stands (instrs_of m) line_count (instrs_sized m) 0 (named_functions m) f d (sum_by lines_in (take i d.blocks) + j) e (line_within d.blocks i b j l h g)
    ∙ ap (λ (q : ℕ). slice_get (instrs_of m q d) (sum_by lines_in (take i d.blocks) + j)) z
    ∙ line_there_in m (first_block m.functions f) d i b j l h g

-- a line in its function
record IsLineIn (m : Tree) (first : ℕ) (d : Definition) (k : ℕ) (x : Instr) : Type 0 where
  place : ℕ
  block : Block
  within : slice_get d.blocks place ≡ Some block
  inner : ℕ
  line : Line
  inside : slice_get block.lines inner ≡ Some line
  number : k ≡ sum_by lines_in (take place d.blocks) + inner
  is : x ≡ instr_at (scope_of m d) first place line

line_found_in : (m : Tree) (first : ℕ) (d : Definition) (k : ℕ) (x : Instr) → slice_get (function_instrs m first d) k ≡ Some x → IsLineIn m first d k x
line_found_in m first d k x e = by (found (lines_of m first d) lines_in (lines_sized m first d) 0 d.blocks k x e)
  where
    of : (r : IsIn (lines_of m first d) lines_in 0 d.blocks k x) → option_map (instr_at (scope_of m d) first r.place) (slice_get r.whole.lines r.inner) ≡ Some x → (o : Option Line)
        → slice_get r.whole.lines r.inner ≡ o → IsLineIn m first d k x
    of r h None n = absurd (let q : option_map (instr_at (scope_of m d) first r.place) None ≡ Some x = ap (λ (o : Option Line). option_map (instr_at (scope_of m d) first r.place) o) (sym n)
        ∙ h in cc)
    of r h (Some l) n = record {
      place = r.place;
      block = r.whole;
      within = r.there;
      inner = r.inner;
      line = l;
      inside = n;
      number = r.number;
      is = same_Some x (instr_at (scope_of m d) first r.place l) (sym h ∙ ap (λ (o : Option Line). option_map (instr_at (scope_of m d) first r.place) o) n);
    }

    by : IsIn (lines_of m first d) lines_in 0 d.blocks k x → IsLineIn m first d k x
    by r =
        let z : 0 + r.place ≡ r.place = omega arith in
        of r (sym (slice_get-map (instr_at (scope_of m d) first r.place) r.whole.lines r.inner) ∙ subst (λ (q : ℕ). slice_get (lines_of m first d q r.whole) r.inner ≡ Some x) z r.inside)
        (slice_get r.whole.lines r.inner) refl

pub line_found : (m : Tree) (k : ℕ) (x : Instr) → slice_get (program_of m).instrs k ≡ Some x → IsLineOf m k x
unfolding program_of
line_found m k x e = by (found (instrs_of m) line_count (instrs_sized m) 0 (named_functions m) k x e)
  where
    of : (r : IsIn (instrs_of m) line_count 0 (named_functions m) k x) → IsLineIn m (first_block m.functions r.place) r.whole r.inner x → IsLineOf m k x
    of r l = record {
      function = r.place;
      definition = r.whole;
      there = r.there;
      place = l.place;
      block = l.block;
      within = l.within;
      inner = l.inner;
      line = l.line;
      inside = l.inside;
      number = omega (arith, r.number, l.number, first_line_named m r.place);
      is = l.is;
    }

    by : IsIn (instrs_of m) line_count 0 (named_functions m) k x → IsLineOf m k x
    by r =
        let z : 0 + r.place ≡ r.place = omega arith in
        of r (line_found_in m (first_block m.functions r.place) r.whole r.inner x (subst (λ (q : ℕ). slice_get (instrs_of m q r.whole) r.inner ≡ Some x) z r.inside))

pub instrs_total : (m : Tree) → length (program_of m).instrs ≡ sum_by line_count m.functions
unfolding program_of
instrs_total m = pieces_length (instrs_of m) line_count (instrs_sized m) 0 (named_functions m) ∙ all_lines_named m
