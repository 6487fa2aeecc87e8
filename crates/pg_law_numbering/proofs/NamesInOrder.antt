-- Names in text order: each is other than those before it, or starts behind them.
use Rattle.std.proofs.Common.{◌≡◌, ℕ, ◌+◌, ◌<◌, ◌≤◌, max, List, [], ◌∷◌, ◌++◌, map, Bool, true, false, refl, sym, ap, ◌∙◌, subst, arith, append_assoc}
use Rattle.std.proofs.Common.{◌⊎◌, inl, inr, nat_lt, if◌then◌else◌}
use Rattle.std.specs.Prelude.{Option, Some, None}
use Rattle.std.specs.List.{AllByRecursion, filter_map, flat_map, cons_option}
use Rattle.std.specs.Option.{option_map}
use Rattle.std.proofs.lemmas.Bool.{and_parts, ltb-true}
use Rattle.std.proofs.lemmas.List.{map-append, append-nil}
use Rattle.pg_num.specs.Decimal.{are_digits, natural_of}
use Rattle.pg_read_ast.specs.declared.names.Name.{Name}
use Rattle.pg_read_ast.specs.Syntax.{Line, Block, Param, NamedType, Definition}
use Rattle.pg_read_ast.specs.Numbers.{decimal_text, name_at, after_name, after, each_at, behind_all, param_at, behind_param, gives, result_at, after_result, line_at, behind_line, block_at}
use Rattle.pg_read_ast.specs.Numbers.{behind_block, numbered}
use Rattle.pg_check_types.specs.Resolved.{ResolvedType}
use Rattle.pg_check_rules.specs.Names.{Register, register, result_type, param_register, line_register, block_registers, registers_of, labels_of}
use Rattle.pg_read_grammar.specs.NameOrder.{written, lines_names, block_names, written_names, ascend}
use Rattle.pg_law_numbering.proofs.Decimals.{decimal_number, decimal_digits}
use Rattle.pg_law_numbering.proofs.EachElement.{all_both, all_on}

-- a stands before b
abbrev pub Precedes : Name → Name → Type 0
Precedes a b = (a.text ≡ b.text → ⊥) ⊎ (a.span.start < b.span.start)

abbrev pub AllPairs : {X : Type 0} → (X → X → Type 0) → List X → Type 0
AllPairs P [] = Unit {0}
AllPairs P (x ∷ xs) = AllByRecursion (P x) xs × AllPairs P xs

-- a name before a place, whose number, if it is one, is below another
record IsBelow (next at : ℕ) (a : Name) : Type 0 where
  place : a.span.start ≤ at
  number : are_digits a.text ≡ true → natural_of a.text < next

below_more : (next at n p : ℕ) → next ≤ n → at ≤ p → (a : Name) → IsBelow next at a → IsBelow n p a
below_more next at n p h g a b = record { place = omega (arith, b.place, g); number = λ e. let k = b.number e in omega (arith, k, h) }

-- names that stand behind all that are below next and at, and are below n and p
record Follows (next at : ℕ) (xs : List Name) (n p : ℕ) : Type 0 where
  later : AllByRecursion (λ (x : Name). (a : Name) → IsBelow next at a → Precedes a x) xs
  pairs : AllPairs Precedes xs
  below : AllByRecursion (IsBelow n p) xs
  number : next ≤ n
  place : at ≤ p

-- ---- lists

pairs_both : {X : Type 0} (P : X → X → Type 0) (xs ys : List X) → AllPairs P xs → AllPairs P ys → AllByRecursion (λ (x : X). AllByRecursion (P x) ys) xs → AllPairs P (xs ++ ys)
pairs_both P [] ys h g k = g
pairs_both P (x ∷ xs) ys h g k = (all_both (P x) xs ys h.0 k.0, pairs_both P xs ys h.1 g k.1)

follows_none : (next at n p : ℕ) → next ≤ n → at ≤ p → Follows next at [] n p
follows_none next at n p h g = record { later = tt; pairs = tt; below = tt; number = h; place = g }

follows_both : (next at : ℕ) (xs : List Name) (n p : ℕ) (ys : List Name) (m q : ℕ) → Follows next at xs n p → Follows n p ys m q → Follows next at (xs ++ ys) m q
follows_both next at xs n p ys m q f g = record {
  later = all_both (λ (x : Name). (a : Name) → IsBelow next at a → Precedes a x) xs ys f.later
      (all_on (λ (x : Name). (a : Name) → IsBelow n p a → Precedes a x) (λ (x : Name). (a : Name) → IsBelow next at a → Precedes a x) ys
      (λ x h a b. h a (below_more next at n p f.number f.place a b)) g.later);
  pairs = pairs_both Precedes xs ys f.pairs g.pairs
      (all_on (IsBelow n p) (λ (x : Name). AllByRecursion (Precedes x) ys) xs
      (λ x b. all_on (λ (y : Name). (a : Name) → IsBelow n p a → Precedes a y) (Precedes x) ys (λ y h. h x b) g.later) f.below);
  below = all_both (IsBelow m q) xs ys (all_on (IsBelow n p) (IsBelow m q) xs (below_more n p m q g.number g.place) f.below) g.below;
  number = omega (arith, f.number, g.number);
  place = omega (arith, f.place, g.place);
}

-- ---- one name

after_more : (next : ℕ) (text : List ℕ) → next ≤ after_name next text
unfolding after_name
after_more next text = by (are_digits text)
  where
    by : (b : Bool) → next ≤ (if b then max next (natural_of text + 1) else next)
    by true = omega arith
    by false = omega arith

after_number : (next : ℕ) (text : List ℕ) → are_digits text ≡ true → natural_of text < after_name next text
unfolding after_name
after_number next text e =
    let z : after_name next text ≡ max next (natural_of text + 1) = ap (λ (b : Bool). if b then max next (natural_of text + 1) else next) e in
    omega (arith, z)

one_written : (next at : ℕ) (n : Name) → at < n.span.start → Follows next at (n ∷ []) (after_name next n.text) n.span.start
one_written next at n l = record {
  later = ((λ a b. inr (omega (arith, b.place, l))), tt);
  pairs = (tt, tt);
  below = (record { place = omega arith; number = after_number next n.text }, tt);
  number = after_more next n.text;
  place = omega (arith, l);
}

other_than : (next at : ℕ) (a : Name) → IsBelow next at a → a.text ≡ decimal_text next → ⊥
other_than next at a b e =
    let digits : are_digits a.text ≡ true = ap are_digits e ∙ decimal_digits next in
    let number : natural_of a.text ≡ next = ap natural_of e ∙ decimal_number next in
    omega (arith, b.number digits, number)

one_generated : (next at : ℕ) → Follows next at (name_at next None ∷ []) (next + 1) at
one_generated next at = record {
  later = ((λ a b. inl (other_than next at a b)), tt);
  pairs = (tt, tt);
  below = (record { place = omega arith; number = λ e. omega (arith, decimal_number next) }, tt);
  number = omega arith;
  place = omega arith;
}

-- ---- names up to a place in the text, behind which others ascend

record Reaches (next at : ℕ) (xs : List Name) (n : ℕ) (rest : List Name) : Type 0 where
  end : ℕ
  follows : Follows next at xs n end
  more : ascend end rest ≡ true

without : (next at : ℕ) (xs : List Name) (n : ℕ) (rest : List Name) → Reaches next at xs n rest → Reaches next at [] n rest
without next at xs n rest r = record { end = r.end; follows = follows_none next at n r.end r.follows.number r.follows.place; more = r.more }

reaches_both : (next at : ℕ) (xs : List Name) (n : ℕ) (middle ys : List Name) (m : ℕ) (rest : List Name) → Reaches next at xs n middle
    → ((p : ℕ) → ascend p middle ≡ true → Reaches n p ys m rest) → Reaches next at (xs ++ ys) m rest
reaches_both next at xs n middle ys m rest r f =
    let s = f r.end r.more in
    record { end = s.end; follows = follows_both next at xs n r.end ys m s.end r.follows s.follows; more = s.more }

-- a name that each thing has
named_reaches : (o : Option Name) (next at : ℕ) (rest : List Name) → ascend at (written o ++ rest) ≡ true → Reaches next at (name_at next o ∷ []) (after next o) rest
named_reaches (Some n) next at rest e =
    let h = and_parts (nat_lt at n.span.start) (ascend n.span.start rest) e in
    record { end = n.span.start; follows = one_written next at n (ltb-true at n.span.start h.0); more = h.1 }
named_reaches None next at rest e = record { end = at; follows = one_generated next at; more = e }

abbrev pub names_of : List Register → List Name
names_of rs = map (λ (r : Register). r.name) rs

names_first : (o : Option Register) (rs : List Register) → names_of (cons_option o rs) ≡ names_of (cons_option o []) ++ names_of rs
names_first None rs = refl
names_first (Some r) rs = refl

-- ---- lines

result_reaches : (g : Bool) (t : Option ResolvedType) (o : Option Name) (next at : ℕ) (rest : List Name) → ascend at (written o ++ rest) ≡ true
    → Reaches next at (names_of (cons_option (if g then option_map (register t) (result_at g next o) else None) [])) (after_result g next o) rest
result_reaches true t (Some n) next at rest e = named_reaches (Some n) next at rest e
result_reaches true t None next at rest e = named_reaches None next at rest e
result_reaches false t (Some n) next at rest e = without next at (n ∷ []) (after_name next n.text) rest (named_reaches (Some n) next at rest e)
result_reaches false t None next at rest e = record { end = at; follows = follows_none next at next at (omega arith) (omega arith); more = e }

lines_reach : (types : List NamedType) (ls : List Line) (next at : ℕ) (rest : List Name) → ascend at (lines_names ls ++ rest) ≡ true
    → Reaches next at (names_of (filter_map (line_register types) (each_at (behind_line types) (line_at types) next ls))) (behind_all (behind_line types) next ls) rest
lines_reach types [] next at rest e = record { end = at; follows = follows_none next at next at (omega arith) (omega arith); more = e }
lines_reach types (l ∷ ls) next at rest e =
    let own : ascend at (written l.name ++ (lines_names ls ++ rest)) ≡ true = sym (ap (ascend at) (append_assoc (written l.name) (lines_names ls) rest)) ∙ e in
    let one = result_reaches (gives types l.op) (result_type types l.op) l.name next at (lines_names ls ++ rest) own in
    let o = line_register types (line_at types next l) in
    let others = filter_map (line_register types) (each_at (behind_line types) (line_at types) (behind_line types next l) ls) in
    subst (λ (xs : List Name). Reaches next at xs (behind_all (behind_line types) (behind_line types next l) ls) rest) (sym (names_first o others))
    (reaches_both next at (names_of (cons_option o [])) (behind_line types next l) (lines_names ls ++ rest) (names_of others)
    (behind_all (behind_line types) (behind_line types next l) ls) rest one (λ p h. lines_reach types ls (behind_line types next l) p rest h))

-- ---- blocks

label_reaches : (b : Block) (next at : ℕ) (rest : List Name) → ascend at (block_names b ++ rest) ≡ true
    → Reaches next at (name_at next b.label ∷ []) (after next b.label) (lines_names b.lines ++ rest)
label_reaches b next at rest e =
    named_reaches b.label next at (lines_names b.lines ++ rest) (sym (ap (ascend at) (append_assoc (written b.label) (lines_names b.lines) rest)) ∙ e)

-- the results of a block
block_reaches : (types : List NamedType) (b : Block) (next at : ℕ) (rest : List Name) → ascend at (block_names b ++ rest) ≡ true
    → Reaches next at (names_of (block_registers types (block_at types next b))) (behind_block types next b) rest
unfolding block_at behind_block
block_reaches types b next at rest e =
    reaches_both next at [] (after next b.label) (lines_names b.lines ++ rest) (names_of (block_registers types (block_at types next b))) (behind_block types next b) rest
    (without next at (name_at next b.label ∷ []) (after next b.label) (lines_names b.lines ++ rest) (label_reaches b next at rest e))
    (λ p h. lines_reach types b.lines (after next b.label) p rest h)

-- its label
block_label : (types : List NamedType) (b : Block) (next at : ℕ) (rest : List Name) → ascend at (block_names b ++ rest) ≡ true
    → Reaches next at (name_at next b.label ∷ []) (behind_block types next b) rest
unfolding behind_block
block_label types b next at rest e =
    subst (λ (xs : List Name). Reaches next at xs (behind_all (behind_line types) (after next b.label) b.lines) rest) (append-nil (name_at next b.label ∷ []))
    (reaches_both next at (name_at next b.label ∷ []) (after next b.label) (lines_names b.lines ++ rest) [] (behind_all (behind_line types) (after next b.label) b.lines) rest
    (label_reaches b next at rest e)
    (λ p h. without (after next b.label) p (names_of (filter_map (line_register types) (each_at (behind_line types) (line_at types) (after next b.label) b.lines)))
    (behind_all (behind_line types) (after next b.label) b.lines) rest (lines_reach types b.lines (after next b.label) p rest h)))

blocks_reach : (types : List NamedType) (bs : List Block) (next at : ℕ) (rest : List Name) → ascend at (flat_map block_names bs ++ rest) ≡ true
    → Reaches next at (names_of (flat_map (block_registers types) (each_at (behind_block types) (block_at types) next bs))) (behind_all (behind_block types) next bs) rest
blocks_reach types [] next at rest e = record { end = at; follows = follows_none next at next at (omega arith) (omega arith); more = e }
blocks_reach types (b ∷ bs) next at rest e =
    let own : ascend at (block_names b ++ (flat_map block_names bs ++ rest)) ≡ true = sym (ap (ascend at) (append_assoc (block_names b) (flat_map block_names bs) rest)) ∙ e in
    let others = flat_map (block_registers types) (each_at (behind_block types) (block_at types) (behind_block types next b) bs) in
    subst (λ (xs : List Name). Reaches next at xs (behind_all (behind_block types) (behind_block types next b) bs) rest)
    (sym (map-append (λ (r : Register). r.name) (block_registers types (block_at types next b)) others))
    (reaches_both next at (names_of (block_registers types (block_at types next b))) (behind_block types next b) (flat_map block_names bs ++ rest) (names_of others)
    (behind_all (behind_block types) (behind_block types next b) bs) rest
    (block_reaches types b next at (flat_map block_names bs ++ rest) own) (λ p h. blocks_reach types bs (behind_block types next b) p rest h))

labels_reach : (types : List NamedType) (bs : List Block) (next at : ℕ) (rest : List Name) → ascend at (flat_map block_names bs ++ rest) ≡ true
    → Reaches next at (filter_map (λ (b : Block). b.label) (each_at (behind_block types) (block_at types) next bs)) (behind_all (behind_block types) next bs) rest
unfolding block_at
labels_reach types [] next at rest e = record { end = at; follows = follows_none next at next at (omega arith) (omega arith); more = e }
labels_reach types (b ∷ bs) next at rest e =
    let own : ascend at (block_names b ++ (flat_map block_names bs ++ rest)) ≡ true = sym (ap (ascend at) (append_assoc (block_names b) (flat_map block_names bs) rest)) ∙ e in
    let others = filter_map (λ (c : Block). c.label) (each_at (behind_block types) (block_at types) (behind_block types next b) bs) in
    reaches_both next at (name_at next b.label ∷ []) (behind_block types next b) (flat_map block_names bs ++ rest) others (behind_all (behind_block types) (behind_block types next b) bs) rest
    (block_label types b next at (flat_map block_names bs ++ rest) own) (λ p h. labels_reach types bs (behind_block types next b) p rest h)

-- ---- parameters

params_reach : (types : List NamedType) (ps : List Param) (next at : ℕ) (rest : List Name) → ascend at (flat_map (λ (p : Param). written p.name) ps ++ rest) ≡ true
    → Reaches next at (names_of (filter_map (param_register types) (each_at behind_param param_at next ps))) (behind_all behind_param next ps) rest
params_reach types [] next at rest e = record { end = at; follows = follows_none next at next at (omega arith) (omega arith); more = e }
params_reach types (p ∷ ps) next at rest e =
    let own : ascend at (written p.name ++ (flat_map (λ (q : Param). written q.name) ps ++ rest)) ≡ true =
    sym (ap (ascend at) (append_assoc (written p.name) (flat_map (λ (q : Param). written q.name) ps) rest)) ∙ e in
    let others = filter_map (param_register types) (each_at behind_param param_at (behind_param next p) ps) in
    reaches_both next at (name_at next p.name ∷ []) (after next p.name) (flat_map (λ (q : Param). written q.name) ps ++ rest) (names_of others)
    (behind_all behind_param (behind_param next p) ps) rest
    (named_reaches p.name next at (flat_map (λ (q : Param). written q.name) ps ++ rest) own) (λ q h. params_reach types ps (behind_param next p) q rest h)

-- ---- a function

module _ (types : List NamedType) (d : Definition) (order : ascend 0 (written_names d) ≡ true) where
  front_reaches : Reaches 0 0 (names_of (filter_map (param_register types) (each_at behind_param param_at 0 d.params))) (behind_all behind_param 0 d.params) (flat_map block_names d.blocks ++ [])
  front_reaches =
      params_reach types d.params 0 0 (flat_map block_names d.blocks ++ [])
      (ap (λ (xs : List Name). ascend 0 (flat_map (λ (p : Param). written p.name) d.params ++ xs)) (append-nil (flat_map block_names d.blocks)) ∙ order)

  -- the registers stand one behind the other
  pub registers_ordered : AllPairs Precedes (names_of (registers_of types (numbered types d)))
  unfolding numbered registers_of
  registers_ordered =
      let next = behind_all behind_param 0 d.params in
      let params = filter_map (param_register types) (each_at behind_param param_at 0 d.params) in
      let others = flat_map (block_registers types) (each_at (behind_block types) (block_at types) next d.blocks) in
      subst (λ (xs : List Name). AllPairs Precedes xs) (sym (map-append (λ (r : Register). r.name) params others))
      (reaches_both 0 0 (names_of params) next (flat_map block_names d.blocks ++ []) (names_of others) (behind_all (behind_block types) next d.blocks) [] front_reaches
      (λ p h. blocks_reach types d.blocks next p [] h)).follows.pairs

  -- so do the labels
  pub labels_ordered : AllPairs Precedes (labels_of (numbered types d))
  unfolding numbered
  labels_ordered = (labels_reach types d.blocks (behind_all behind_param 0 d.params) front_reaches.end [] front_reaches.more).follows.pairs
