-- The names of each function of a module stand in the order of the text.
use Rattle.std.proofs.Common.{◌≡◌, ℕ, zero, suc, ◌+◌, ◌≤◌, List, [], ◌∷◌, ◌++◌, Option, Some, None, Bool, true, false, ◌||◌, refl, sym, ap, ◌∙◌, subst}
use Rattle.std.proofs.Common.{arith, append_assoc, if◌then◌else◌}
use Rattle.std.specs.List.{list_all, flat_map}
use Rattle.std.proofs.lemmas.Bool.{and_from, and_parts, or_parts}
use Rattle.std.proofs.lemmas.List.{append-nil}
use Rattle.pg_num.specs.declared.limits.TheConstants.{NESTING_LIMIT}
use Rattle.pg_read_grammar.specs.declared.nesting.TheConstants.{INNER_NESTING_LIMIT}
use Rattle.pg_read_grammar.specs.declared.token.Token.{Token}
use Rattle.pg_read_grammar.specs.declared.class.Class.{Class}
use Rattle.pg_read_grammar.specs.declared.class.Class.TheVariants.{Define, Dots, Label, Local, DebugAttr, Equals, OpenRound, CloseRound, OpenBrace, CloseBrace, Comma}
use Rattle.pg_read_grammar.specs.declared.token.Fault.TheVariants.{Unsupported}
use Rattle.pg_read_grammar.specs.Classes.{is}
use Rattle.pg_read_grammar.specs.Grammar.{separated, listed, name_of, global_name, metadata_name}
use Rattle.pg_read_grammar.specs.Language.{Gram, give, one, times, many, ◌or◌, ◌>>=◌}
use Rattle.pg_read_grammar.specs.GrammarItems.{Part, LabelPart, LinePart, DroppedPart, line_of, result_name, op_line, debug_line, part, ends, has_label, with_front, alone, before, blocks_of}
use Rattle.pg_read_grammar.specs.GrammarItems.{define_whole}
use Rattle.pg_read_grammar.specs.GrammarItems.{body, param, Item, TypeItem, GlobalItem, DeclareItem, DefineItem, OtherItem, no_item, item, tree, program}
use Rattle.pg_read_grammar.specs.NameOrder.{written, lines_names, block_names, written_names, ascend, all_ascend}
use Rattle.pg_read_grammar.specs.Verdict.{IsRead}
use Rattle.pg_read_grammar.specs.Accepted.{IsModule}
use Rattle.pg_read_ast.specs.declared.names.Name.{Name}
use Rattle.pg_read_ast.specs.Syntax.{Op, Block, Param, Definition, Tree}
use Rattle.pg_read_grammar.proofs.Linear.{Linear, linear_give, linear_one, linear_or, linear_refused, linear_times, linear_many, linear_then}
use Rattle.pg_read_grammar.proofs.LinearRows.{linear_separated, linear_listed, linear_skip, linear_type, linear_attributes}
use Rattle.pg_read_grammar.proofs.LinearOps.{linear_part, linear_op, linear_result_name, linear_metadata}
use Rattle.pg_read_grammar.proofs.LinearItems.{linear_body, linear_param, linear_node_tail, linear_global_head, linear_tails, linear_declare_head, linear_type_whole, linear_attributes_whole}
use Rattle.pg_read_grammar.proofs.LinearItems.{linear_text_whole, linear_define_whole, linear_item}
use Rattle.pg_read_grammar.proofs.ItemLoops.{program_piece}
use Rattle.pg_read_grammar.proofs.ReadToEnd.{has_end}
use Rattle.pg_read_grammar.proofs.NamePlaces.{From, Within, within_both, within_more, within_on, within_order, within_ascends, Places, places_weaken, places_any, places_give, places_one}
use Rattle.pg_read_grammar.proofs.NamePlaces.{places_refused, places_or, places_then, places_many, tokens_ordered}

-- ---- the names of a body's parts are those of its blocks

abbrev part_names : Part → List Name
part_names (LabelPart n) = n ∷ []
part_names (LinePart l) = written l.name
part_names DroppedPart = []

alone_names : (p : Part) → block_names (alone p) ≡ part_names p
alone_names (LabelPart n) = refl
alone_names (LinePart l) = append-nil (written l.name)
alone_names DroppedPart = refl

no_label : (o : Option Name) → has_label o ≡ false → o ≡ None
no_label None e = refl
no_label (Some n) e = absurd cc

front_names : (p : Part) (b : Block) → b.label ≡ None → block_names (with_front p b) ≡ part_names p ++ block_names b
front_names (LabelPart n) b e = ap (λ (o : Option Name). n ∷ (written o ++ lines_names b.lines)) (sym e)
front_names (LinePart l) b e =
    ap (λ (o : Option Name). written o ++ (written l.name ++ lines_names b.lines)) e
    ∙ ap (λ (o : Option Name). written l.name ++ (written o ++ lines_names b.lines)) (sym e)
front_names DroppedPart b e = refl

before_names : (p : Part) (bs : List Block) → flat_map block_names (before p bs) ≡ part_names p ++ flat_map block_names bs
before_names p [] = ap (λ (xs : List Name). xs ++ []) (alone_names p)
before_names p (b ∷ bs) = by (ends p || has_label b.label) refl
  where
    by : (c : Bool) → (ends p || has_label b.label) ≡ c → flat_map block_names (if c then alone p ∷ b ∷ bs else with_front p b ∷ bs) ≡ part_names p
        ++ (block_names b ++ flat_map block_names bs)
    by true x = ap (λ (xs : List Name). xs ++ (block_names b ++ flat_map block_names bs)) (alone_names p)
    by false x =
        ap (λ (xs : List Name). xs ++ flat_map block_names bs) (front_names p b (no_label b.label (or_parts (ends p) (has_label b.label) x).1))
        ∙ append_assoc (part_names p) (block_names b) (flat_map block_names bs)

blocks_names : (ps : List Part) → flat_map block_names (blocks_of ps) ≡ flat_map part_names ps
unfolding blocks_of
blocks_names [] = refl
blocks_names (p ∷ ps) = before_names p (blocks_of ps) ∙ ap (λ (xs : List Name). part_names p ++ xs) (blocks_names ps)

-- ---- parts

-- a token's name
token_within : (at : ℕ) (t : Token) (to : ℕ) → at ≤ t.span.start → to ≡ t.span.start + 1 → Within at (name_of t ∷ []) to
token_within at t to h e = (h, omega (arith, e))

-- places go on behind what has no names
none_more : (at middle to : ℕ) → at ≤ middle → middle ≤ to → at ≤ to
none_more at middle to h g = omega (arith, h, g)

label_places : (at : ℕ) → Places at (do
  t ← one (is Label)
  give (LabelPart (name_of t))) (λ to p. Within at (part_names p) to)
label_places at = places_then (linear_one (is Label)) (places_one at (is Label)) (λ t to q. places_give to (LabelPart (name_of t)) (token_within at t to q.0 q.1))

debug_places : (at : ℕ) → Places at debug_line (λ to p. Within at (part_names p) to)
debug_places at = places_then (linear_one (is DebugAttr)) (places_any at (linear_one (is DebugAttr)))
    (λ d a q. places_then (linear_one (is OpenRound)) (places_any a (linear_one (is OpenRound)))
    (λ o b r. places_then (linear_skip INNER_NESTING_LIMIT CloseRound) (places_any b (linear_skip INNER_NESTING_LIMIT CloseRound)) (λ u c s. places_give c DroppedPart (omega (arith, q, r, s)))))

result_places : (at : ℕ) → Places at result_name (λ to o. Within at (written o) to)
result_places at = places_or (places_then (linear_one (is Local)) (places_one at (is Local))
    (λ t to q. places_then (linear_one (is Equals)) (places_any to (linear_one (is Equals)))
    (λ e c r. places_give c (Some (name_of t)) (within_on at (name_of t ∷ []) to c r (token_within at t to q.0 q.1)))))
    (places_give at None (let z : at ≤ at = omega arith in z))

line_within : (at : ℕ) (name : Option Name) (o : Option Op) (to end : ℕ) → to ≤ end → Within at (written name) to → Within at (part_names (line_of name o)) end
line_within at name (Some o) to end l h = within_on at (written name) to end l h
line_within at (Some n) None to end l h = omega (arith, h.0, h.1, l)
line_within at None None to end l h = omega (arith, h, l)

op_places : (at : ℕ) → Places at op_line (λ to p. Within at (part_names p) to)
op_places at = places_then linear_result_name (result_places at)
    (λ name a q. places_then linear_op (places_any a linear_op)
    (λ o b r. places_then linear_metadata (places_any b linear_metadata) (λ u c s. places_give c (line_of name o) (line_within at name o a c (omega (arith, r, s)) q))))

part_places : (at : ℕ) → Places at part (λ to p. Within at (part_names p) to)
part_places at = places_or (label_places at) (places_or (debug_places at) (op_places at))

body_places : (at : ℕ) → Places at body (λ to bs. Within at (flat_map block_names bs) to)
body_places at = places_then (linear_one (is OpenBrace)) (places_any at (linear_one (is OpenBrace)))
    (λ o a q. places_then (linear_many linear_part) (places_many part_names linear_part part_places a) (λ ps b r. places_then (linear_one (is CloseBrace)) (places_any b (linear_one (is CloseBrace)))
    (λ t c s. places_give c (blocks_of ps) (subst (λ (xs : List Name). Within at xs c) (sym (blocks_names ps))
    (within_more at a (flat_map part_names ps) c q (within_on a (flat_map part_names ps) b c s r))))))

-- ---- lists and parameters

module _ {A : Type 0} {g : Gram A} (names : A → List Name) (e : Linear g) (k : (at : ℕ) → Places at g (λ to a. Within at (names a) to)) where
  comma_places : (at : ℕ) → Places at (do
    _ ← one (is Comma)
    g) (λ to a. Within at (names a) to)
  comma_places at = places_then (linear_one (is Comma)) (places_any at (linear_one (is Comma))) (λ t a q. places_weaken e (k a) (λ to x w. within_more at a (names x) to q w))

  separated_places : (at : ℕ) → Places at (separated g) (λ to all. Within at (flat_map names all) to)
  separated_places at =
      places_then e (k at) (λ a to w. places_then (linear_many (linear_then (linear_one (is Comma)) (λ t. e))) (places_many names (linear_then (linear_one (is Comma)) (λ t. e)) comma_places to)
      (λ more end v. places_give end (a ∷ more) (within_both at (names a) to (flat_map names more) end w v)))

  listed_places : (close : Class) (at : ℕ) → Places at (listed close g) (λ to all. Within at (flat_map names all) to)
  listed_places close at =
      places_or (places_then (linear_one (is close)) (places_any at (linear_one (is close))) (λ t a q. places_give a [] q))
      (places_then (linear_separated e) (separated_places at)
      (λ all a w. places_then (linear_one (is close)) (places_any a (linear_one (is close))) (λ t b q. places_give b all (within_on at (flat_map names all) a b q w))))

name_places : (at : ℕ) → Places at ((do
  n ← one (is Local)
  give (Some (name_of n))) or give None) (λ to o. Within at (written o) to)
name_places at = places_or (places_then (linear_one (is Local)) (places_one at (is Local)) (λ t to q. places_give to (Some (name_of t)) (token_within at t to q.0 q.1)))
    (places_give at None (let z : at ≤ at = omega arith in z))

abbrev param_names : Param → List Name
param_names p = written p.name

param_places : (at : ℕ) → Places at param (λ to p. Within at (param_names p) to)
param_places at =
    places_then (linear_type NESTING_LIMIT) (places_any at (linear_type NESTING_LIMIT)) (λ t a q. places_then linear_attributes (places_any a linear_attributes) (λ u b r.
    places_then (linear_or (linear_then (linear_one (is Local)) (λ n. linear_give (Some (name_of n)))) (linear_give None)) (name_places b)
    (λ name c w. places_give {A = Param} c (record { ty = t; name = name }) (within_more at b (written name) c (none_more at a b q r) w))))

-- ---- items

-- a function's names stand behind the word with which it begins
define_places : (at : ℕ) → Places at define_whole (λ to d. (at ≤ to) × (ascend 0 (written_names d) ≡ true))
define_places at =
    places_then (linear_one (is Define)) (places_one at (is Define))
    (λ w a q. places_then linear_attributes (places_any a linear_attributes)
    (λ u b r. places_then (linear_type NESTING_LIMIT) (places_any b (linear_type NESTING_LIMIT)) (λ t c s. places_then (linear_one global_name) (places_any c (linear_one global_name)) (λ n d x.
    places_then (linear_one (is OpenRound)) (places_any d (linear_one (is OpenRound))) (λ o e y.
    places_then (linear_listed CloseRound (linear_or linear_param (linear_refused Unsupported (is Dots))))
    (listed_places param_names (linear_or linear_param (linear_refused Unsupported (is Dots))) (λ k. places_or (param_places k) (places_refused k Unsupported (is Dots))) CloseRound e)
    (λ ps f v. places_then linear_attributes (places_any f linear_attributes) (λ u2 g z. places_then linear_body (body_places g) (λ bs h b2.
    places_give {A = Definition} h (record { result = t; name = name_of n; params = ps; blocks = bs })
    (names_within at w a b c d e f g h q.0 q.1 r s x y z (flat_map param_names ps) (flat_map block_names bs) v b2)))))))))
  where
    names_within : (at : ℕ) (w : Token) (a b c d e f g h : ℕ) → at ≤ w.span.start → a ≡ w.span.start + 1 → a ≤ b → b ≤ c → c ≤ d → d ≤ e → f ≤ g
        → (xs ys : List Name) → Within e xs f → Within g ys h → (at ≤ h) × (ascend 0 (xs ++ ys) ≡ true)
    names_within at w a b c d e f g h l k r s x y z xs ys v u =
        let whole : Within e (xs ++ ys) h = within_both e xs g ys h (within_on e xs f g z v) u in
        let low : 1 ≤ e = omega (arith, k, r, s, x, y) in
        (omega (arith, l, k, r, s, x, y, within_order e (xs ++ ys) h whole), within_ascends 0 (xs ++ ys) h (within_more (0 + 1) e (xs ++ ys) h (omega (arith, low)) whole))

abbrev item_ascends : Item → Bool
item_ascends (DefineItem d) = ascend 0 (written_names d)
item_ascends _ = true

-- an item, and that a function's names stand in order
item_places : (at : ℕ) → Places at item (λ to x. (at ≤ to) × (item_ascends x ≡ true))
item_places at =
    places_or (places_or (places_then (linear_one metadata_name) (places_any at (linear_one metadata_name))
    (λ m a q. places_then linear_node_tail (places_any a linear_node_tail) (λ u b r. places_give b OtherItem (none_more at a b q r, refl))))
    (places_or (places_then linear_global_head (places_any at linear_global_head)
    (λ g a q. places_then linear_tails (places_any a linear_tails) (λ u b r. places_give b (GlobalItem g) (none_more at a b q r, refl))))
    (places_or (places_then linear_declare_head (places_any at linear_declare_head)
    (λ d a q. places_then linear_attributes (places_any a linear_attributes) (λ u b r. places_give b (DeclareItem d) (none_more at a b q r, refl))))
    (places_or (places_then linear_define_whole (define_places at) (λ d a q. places_give a (DefineItem d) q))
    (places_or (places_then linear_type_whole (places_any at linear_type_whole) (λ n a q. places_give a (TypeItem n) (q, refl)))
    (places_or (places_then linear_attributes_whole (places_any at linear_attributes_whole) (λ u a q. places_give a OtherItem (q, refl)))
    (places_then linear_text_whole (places_any at linear_text_whole) (λ u a q. places_give a OtherItem (q, refl))))))))) (places_refused at Unsupported no_item)

items_times : (n at : ℕ) → Places at (times item n) (λ to xs. list_all item_ascends xs ≡ true)
items_times zero at = places_give at [] refl
items_times (suc n) at =
    places_then linear_item (item_places at) (λ x to q. places_then (linear_times linear_item n) (items_times n to)
    (λ xs end w. places_give end (x ∷ xs) (and_from (item_ascends x) (list_all item_ascends xs) q.1 w)))

items_places : (at : ℕ) → Places at (many item) (λ to xs. list_all item_ascends xs ≡ true)
items_places at = record { place = λ m K us f j. (j.0, (items_times j.0 at).place m K us f j.1) }

tree_ascends : (xs : List Item) → list_all item_ascends xs ≡ true → all_ascend (tree xs) ≡ true
tree_ascends [] h = refl
tree_ascends (TypeItem i ∷ xs) h = tree_ascends xs h
tree_ascends (GlobalItem i ∷ xs) h = tree_ascends xs h
tree_ascends (DeclareItem i ∷ xs) h = tree_ascends xs h
tree_ascends (DefineItem d ∷ xs) h =
    let p = and_parts (ascend 0 (written_names d)) (list_all item_ascends xs) h in
    and_from (ascend 0 (written_names d)) (all_ascend (tree xs)) p.0 (tree_ascends xs p.1)
tree_ascends (OtherItem ∷ xs) h = tree_ascends xs h

program_places : (at : ℕ) → Places at program (λ to t. all_ascend t ≡ true)
program_places at = places_then (linear_many linear_item) (items_places at) (λ xs to h. places_give to (tree xs) (tree_ascends xs h))

-- ---- a module

read_ascends : (ts : List Token) (m : Tree) → From 0 ts → IsRead program ts m → all_ascend m ≡ true
read_ascends ts m f j =
    let q = has_end program_piece ts (λ b us. (to : ℕ) × (all_ascend b ≡ true) × From to us × ((b ≡ m) × (us ≡ []))) (λ b t us i. let z : t ∷ us ≡ [] = i.3.1 in cc)
    ((program_places 0).place None (λ b us. (b ≡ m) × (us ≡ [])) ts f j) in
    subst (λ b. all_ascend b ≡ true) q.2.3.0 q.2.1

pub module_ascends : (text : List ℕ) (m : Tree) → IsModule text m → all_ascend m ≡ true
module_ascends text m (ts, w, j) = read_ascends _ m (tokens_ordered text ts w) j
