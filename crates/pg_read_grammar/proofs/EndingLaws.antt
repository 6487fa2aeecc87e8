-- In a module no line of a block stands after one that ends it.
use Rattle.std.proofs.Common.{◌≡◌, ℕ, List, [], ◌∷◌, None, Bool, true, false, ◌&&◌, ◌||◌, refl, subst, if◌then◌else◌}
use Rattle.std.specs.List.{list_all}
use Rattle.pg_num.specs.declared.limits.TheConstants.{NESTING_LIMIT}
use Rattle.pg_read_grammar.specs.declared.token.Token.{Token}
use Rattle.pg_read_grammar.specs.declared.class.Class.TheVariants.{Define, Dots, OpenRound, CloseRound, OpenBrace, CloseBrace}
use Rattle.pg_read_grammar.specs.declared.token.Fault.TheVariants.{Unsupported}
use Rattle.pg_read_grammar.specs.Classes.{is}
use Rattle.pg_read_grammar.specs.Grammar.{name_of, global_name, metadata_name}
use Rattle.pg_read_grammar.specs.GrammarItems.{Part, LabelPart, LinePart, DroppedPart, ends, has_label, with_front, alone, before, blocks_of, body, Item, TypeItem, GlobalItem, DeclareItem}
use Rattle.pg_read_grammar.specs.GrammarItems.{define_whole}
use Rattle.pg_read_grammar.specs.GrammarItems.{DefineItem, OtherItem, no_item, item, tree, program}
use Rattle.pg_read_grammar.specs.Endings.{ends_last, end_last, all_end_last}
use Rattle.pg_read_grammar.specs.Verdict.{IsRead}
use Rattle.pg_read_grammar.specs.Accepted.{IsModule}
use Rattle.pg_read_ast.specs.Syntax.{Line, Block, Definition, Tree}
use Rattle.pg_read_grammar.proofs.Linear.{linear_one, linear_or, linear_refused, linear_many}
use Rattle.pg_read_grammar.proofs.LinearRows.{linear_listed, linear_type, linear_attributes}
use Rattle.pg_read_grammar.proofs.LinearOps.{linear_part}
use Rattle.pg_read_grammar.proofs.LinearItems.{linear_body, linear_param, linear_node_tail, linear_global_head, linear_tails, linear_declare_head, linear_type_whole, linear_attributes_whole}
use Rattle.pg_read_grammar.proofs.LinearItems.{linear_text_whole, linear_define_whole, linear_item}
use Rattle.pg_read_grammar.proofs.HeldByValues.{Keeps, keeps_give, keeps_refused, keeps_or, keeps_with, keeps_then, keeps_many}
use Rattle.pg_read_grammar.proofs.ReadToEnd.{has_end}
use Rattle.pg_read_grammar.proofs.ItemLoops.{program_piece}

-- ---- blocks

fore : (a b : Bool) → (a && b) ≡ true → a ≡ true
fore true b h = refl
fore false b h = absurd cc

aft : (a b : Bool) → (a && b) ≡ true → b ≡ true
aft true b h = h
aft false b h = absurd cc

alone_ends : (p : Part) → ends_last (alone p).lines ≡ true
alone_ends (LabelPart n) = refl
alone_ends (LinePart l) = refl
alone_ends DroppedPart = refl

front_ends : (p : Part) (b : Block) → ends p ≡ false → ends_last b.lines ≡ true → ends_last (with_front p b).lines ≡ true
front_ends (LabelPart n) b e h = h
front_ends (LinePart l) b e h = by b.lines h
  where
    by : (ls : List Line) → ends_last ls ≡ true → ends_last (l ∷ ls) ≡ true
    by [] h = refl
    by (m ∷ ls) h = rw e h
front_ends DroppedPart b e h = h

never_ends : (p : Part) (c : Bool) → (ends p || c) ≡ false → ends p ≡ false
never_ends p c h = by (ends p) h
  where
    by : (e : Bool) → (e || c) ≡ false → e ≡ false
    by true h = absurd cc
    by false h = refl

before_ends : (p : Part) (bs : List Block) → end_last bs ≡ true → end_last (before p bs) ≡ true
before_ends p [] h = rw (alone_ends p) refl
before_ends p (b ∷ bs) h = by (ends p || has_label b.label) refl
  where
    by : (c : Bool) → (ends p || has_label b.label) ≡ c → end_last (if c then alone p ∷ b ∷ bs else with_front p b ∷ bs) ≡ true
    by true x = rw (alone_ends p) h
    by false x = rw (front_ends p b (never_ends p (has_label b.label) x) (fore (ends_last b.lines) (end_last bs) h)) (aft (ends_last b.lines) (end_last bs) h)

blocks_end : (ps : List Part) → end_last (blocks_of ps) ≡ true
unfolding blocks_of
blocks_end [] = refl
blocks_end (p ∷ ps) = before_ends p (blocks_of ps) (blocks_end ps)

-- ---- items

body_keeps : Keeps body (λ bs. end_last bs ≡ true)
body_keeps = keeps_then (linear_one (is OpenBrace)) (λ o. keeps_then (linear_many linear_part) (λ ps. keeps_then (linear_one (is CloseBrace)) (λ c. keeps_give (blocks_of ps) (blocks_end ps))))

define_keeps : Keeps define_whole (λ d. end_last d.blocks ≡ true)
define_keeps = keeps_then (linear_one (is Define)) (λ d. keeps_then linear_attributes
    (λ u. keeps_then (linear_type NESTING_LIMIT) (λ t. keeps_then (linear_one global_name)
    (λ n. keeps_then (linear_one (is OpenRound)) (λ o. keeps_then (linear_listed CloseRound (linear_or linear_param (linear_refused Unsupported (is Dots))))
    (λ ps. keeps_then linear_attributes (λ u. keeps_with linear_body body_keeps (λ bs h. keeps_give {A = Definition} (record { result = t; name = name_of n; params = ps; blocks = bs }) h))))))))

abbrev item_ends : Item → Bool
item_ends (DefineItem d) = end_last d.blocks
item_ends _ = true

item_keeps : Keeps item (λ x. item_ends x ≡ true)
item_keeps = keeps_or (keeps_or (keeps_then (linear_one metadata_name) (λ m. keeps_then linear_node_tail (λ u. keeps_give OtherItem refl)))
    (keeps_or (keeps_then linear_global_head (λ g. keeps_then linear_tails (λ u. keeps_give (GlobalItem g) refl)))
    (keeps_or (keeps_then linear_declare_head (λ d. keeps_then linear_attributes (λ u. keeps_give (DeclareItem d) refl)))
    (keeps_or (keeps_with linear_define_whole define_keeps (λ d h. keeps_give (DefineItem d) h))
    (keeps_or (keeps_then linear_type_whole (λ n. keeps_give (TypeItem n) refl))
    (keeps_or (keeps_then linear_attributes_whole (λ u. keeps_give OtherItem refl)) (keeps_then linear_text_whole (λ u. keeps_give OtherItem refl)))))))) (keeps_refused Unsupported no_item)

tree_ends : (xs : List Item) → list_all item_ends xs ≡ true → all_end_last (tree xs) ≡ true
tree_ends [] h = refl
tree_ends (TypeItem i ∷ xs) h = tree_ends xs h
tree_ends (GlobalItem i ∷ xs) h = tree_ends xs h
tree_ends (DeclareItem i ∷ xs) h = tree_ends xs h
tree_ends (DefineItem d ∷ xs) h = rw (fore (end_last d.blocks) (list_all item_ends xs) h) (tree_ends xs (aft (end_last d.blocks) (list_all item_ends xs) h))
tree_ends (OtherItem ∷ xs) h = tree_ends xs h

program_keeps : Keeps program (λ t. all_end_last t ≡ true)
program_keeps = keeps_with (linear_many linear_item) (keeps_many linear_item item_keeps) (λ xs h. keeps_give (tree xs) (tree_ends xs h))

-- ---- a module

pub read_ends : (ts : List Token) (m : Tree) → IsRead program ts m → all_end_last m ≡ true
read_ends ts m j = let q = has_end program_piece ts (λ b us. (all_end_last b ≡ true) × ((b ≡ m) × (us ≡ []))) (λ b t us i. let z : t ∷ us ≡ [] = i.1.1 in cc)
    (program_keeps.keep None (λ b us. (b ≡ m) × (us ≡ [])) ts j) in
    subst (λ b. all_end_last b ≡ true) q.2.1.0 q.2.0

pub module_ends : (text : List ℕ) (m : Tree) → IsModule text m → all_end_last m ≡ true
module_ends text m (ts, w, j) = read_ends _ m j
