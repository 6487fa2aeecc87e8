-- The items of the grammar are read from state to state, and what is read so are items of the grammar.
use Rattle.std.proofs.Common.{◌≡◌, ℕ, zero, suc, List, [], ◌∷◌, ◌++◌, Option, inl, inr, Bool, true, false, refl, sym, subst, ◌∙◌, ◌&&◌, not, append-nil, append_assoc}
use Rattle.pg_read_grammar.specs.declared.token.Token.{Token}
use Rattle.pg_read_grammar.specs.declared.class.Class.{Class}
use Rattle.pg_read_grammar.specs.declared.class.Class.TheVariants.{SourceFilename, Target, Declare, Define, Attributes, Refused, Str, Local}
use Rattle.pg_read_grammar.specs.declared.token.Fault.{Fault}
use Rattle.pg_read_grammar.specs.declared.token.Fault.TheVariants.{Unsupported}
use Rattle.pg_read_grammar.specs.Classes.{is, none, ◌∪◌}
use Rattle.pg_read_grammar.specs.Language.{Lang, Gram, give, refused, ◌or◌, ◌>>=◌}
use Rattle.pg_read_grammar.specs.Grammar.{global_name, attribute_word, attribute_name, metadata_name, attribute, attributes}
use Rattle.pg_read_grammar.specs.GrammarItems.{Item, TypeItem, GlobalItem, DeclareItem, DefineItem, OtherItem, no_item, item, types_of, globals_of, declares_of, defines_of, tree, program}
use Rattle.pg_read_grammar.specs.Reading.{comes}
use Rattle.pg_read_grammar.specs.Reader.{begins_attribute}
use Rattle.pg_read_grammar.specs.ReaderItems.{AfterItem, Done, Declared, Valued, Tailed, Items, items, empty, add_item, begins_item, program_at}
use Rattle.pg_read_ast.specs.Syntax.{NamedType, Variable, Declaration, Definition, Tree}
use Rattle.pg_read_grammar.proofs.ClassTests.{apart_is, within_is}
use Rattle.pg_read_grammar.proofs.Pieces.{Piece}
use Rattle.pg_read_grammar.proofs.Rules.{alike}
use Rattle.pg_read_grammar.proofs.StateLoops.{loop, loops}
use Rattle.pg_read_grammar.proofs.Linear.{linear_many}
use Rattle.pg_read_grammar.proofs.LinearRows.{linear_attribute}
use Rattle.pg_read_grammar.proofs.LinearItems.{linear_global_head, linear_tail, linear_declare_head, linear_item, linear_next_item}
use Rattle.pg_read_grammar.proofs.Gathered.{added, gather, gathered, gathered_more, many_more, star, to_many, from_many}
use Rattle.pg_read_grammar.proofs.Firsts.{first_comes, item_comes, not_both}
use Rattle.pg_read_grammar.proofs.Rows.{attribute_item}
use Rattle.pg_read_grammar.proofs.ItemRests.{tail, tails, opened_item, behind_attributes_item, next_item_of, next_item, items_end}
use Rattle.pg_read_grammar.proofs.ItemRows.{global_head_item, declare_head_item, define_item_row, type_item_row, attributes_item_row, text_item_row, anything, items_loop}

-- ---- what is left of the grammar's items in each state

abbrev rest : Tree → Gram Tree
rest t = gathered add_item item t

abbrev left_of : Tree → AfterItem → Gram Tree
left_of t Done = rest t
left_of t Declared = do
  _ ← attributes
  rest t
left_of t Valued = do
  _ ← tails
  rest t
left_of t Tailed = do
  _ ← attributes
  _ ← tails
  rest t

abbrev Left : Option Fault → (Tree → Lang) → Items → Lang
Left m K s us = left_of s.tree s.after m K us

rest_more : (t : Tree) (m : Option Fault) (K : Tree → Lang) (us : List Token) → item m (λ x. rest (add_item t x) m K) us → rest t m K us
rest_more t m K us j = gathered_more add_item linear_item t m K us j

abbrev attributes_end : Gram (Unit {0})
attributes_end = give tt or refused Unsupported (is Refused)

attribute_more : (m : Option Fault) (L : Lang) (us : List Token) → attribute m (λ u. attributes m (λ w. L)) us → attributes m (λ w. L) us
attribute_more m L us j = many_more linear_attribute m (attributes_end m (λ w. L)) us j

-- behind attributes, before which something else may stand
behind_left : (t : Tree) (after : AfterItem) (m : Option Fault) (K : Tree → Lang) (L : Lang) (us : List Token) → ((vs : List Token) → rest t m K vs → L vs)
    → ((vs : List Token) → Left m K (items t after) vs → attributes m (λ w. L) vs)
    → behind_attributes_item t after m (Left m K) us → attributes m (λ w. L) us
behind_left t after m K L us f g (inl (a, vs, e, i, inl (b, ws, e2, i2, j))) = attribute_more m L us (inr (inr (inr (a, vs, e, i, (b, ws, e2, i2, g ws j)))))
behind_left t after m K L us f g (inl (a, vs, e, i, inr j)) = (0, inl (f us (rest_more t m K us (inl (inl (a, vs, e, i, j))))))
behind_left t after m K L us f g (inr (n, inl j)) = (0, inl (f us (rest_more t m K us (inl j))))
behind_left t after m K L us f g (inr (n, inr (n2, j))) = attribute_more m L us (linear_attribute.mono m (λ u. Left m K (items t after)) (λ u. attributes m (λ w. L)) (λ u vs i. g vs i) us j)

step_left : (t : Tree) (after : AfterItem) (m : Option Fault) (K : Tree → Lang) (us : List Token) → next_item_of t after m (Left m K) us → left_of t after m K us
step_left t Done m K us j = rest_more t m K us (inl j)
step_left t Declared m K us j = behind_left t Declared m K (rest t m K) us (λ vs i. i) (λ vs i. i) j
step_left t Valued m K us (inl (c, vs, e, i, j)) = many_more linear_tail m (rest t m K) us (c, vs, e, i, j)
step_left t Valued m K us (inr j) = (0, rest_more t m K us (inl j))
step_left t Tailed m K us (inl (c, vs, e, i, j)) = (0, inl (many_more linear_tail m (rest t m K) us (c, vs, e, i, j)))
step_left t Tailed m K us (inr j) = behind_left t Tailed m K (tails m (λ u. rest t m K)) us (λ vs i. (0, i)) (λ vs i. i) j

end_left : (t : Tree) (after : AfterItem) (m : Option Fault) (K : Tree → Lang) (us : List Token) → items_end (items t after) m K us → left_of t after m K us
end_left t Done m K us (inl j) = (0, j)
end_left t Declared m K us (inl j) = (0, inl (0, j))
end_left t Valued m K us (inl j) = (0, (0, j))
end_left t Tailed m K us (inl j) = (0, inl (0, (0, j)))
end_left t Done m K us (inr j) = rest_more t m K us (inr j)
end_left t Declared m K us (inr j) = (0, inl (rest_more t m K us (inr j)))
end_left t Valued m K us (inr j) = (0, rest_more t m K us (inr j))
end_left t Tailed m K us (inr j) = (0, inl (0, rest_more t m K us (inr j)))

loop_left : (n : ℕ) (s : Items) (m : Option Fault) (K : Tree → Lang) (us : List Token) → loop next_item items_end n s m K us → left_of s.tree s.after m K us
loop_left zero s m K us j = end_left s.tree s.after m K us j
loop_left (suc n) s m K us j = step_left s.tree s.after m K us ((linear_next_item s.tree s.after).mono m (λ c. loop next_item items_end n c m K) (Left m K) (λ c vs i. loop_left n c m K vs i) us j)

-- ---- and back

abbrev Loops : Option Fault → (Tree → Lang) → Items → Lang
Loops m K s us = loops next_item items_end s m K us

loops_more : (t : Tree) (after : AfterItem) (m : Option Fault) (K : Tree → Lang) (us : List Token) → next_item_of t after m (Loops m K) us → Loops m K (items t after) us
loops_more t after m K us j = let q = (linear_next_item t after).pick m (λ n c. loop next_item items_end n c m K) us j in (suc q.0, q.1)

-- an item behind attributes is one behind complete items
opened_behind : (t : Tree) (after : AfterItem) (m : Option Fault) (M : Items → Lang) (us : List Token) → opened_item t m M us → behind_attributes_item t after m M us
opened_behind t after m M us j = by (comes metadata_name us) refl j
  where
    by : (b : Bool) → comes metadata_name us ≡ b → opened_item t m M us → behind_attributes_item t after m M us
    by false n j = inr (n, inl j)
    by true y (inl (a, vs, e, i, j)) = inl (a, vs, e, i, inr j)
    by true y (inr (inl j)) = absurd (not_both metadata_name global_name refl us y (item_comes (global_head_item {av = none}) m (λ g. M (items (add_item t (GlobalItem g)) Valued)) us j))
    by true y (inr (inr (inl j))) = absurd (not_both metadata_name (is Declare) refl us y (item_comes (declare_head_item {av = none}) m (λ d. M (items (add_item t (DeclareItem d)) Declared)) us j))
    by true y (inr (inr (inr (inl j)))) = absurd (not_both metadata_name (is Define) refl us y (item_comes (define_item_row {av = none}) m (λ d. M (items (add_item t (DefineItem d)) Done)) us j))
    by true y (inr (inr (inr (inr (inl j))))) = absurd (not_both metadata_name (is Local) refl us y (item_comes (type_item_row {av = none}) m (λ n. M (items (add_item t (TypeItem n)) Done)) us j))
    by true y (inr (inr (inr (inr (inr (inl j)))))) = absurd (not_both metadata_name (is Attributes) refl us y (item_comes (attributes_item_row {av = none}) m (λ u. M (items t Done)) us j))
    by true y (inr (inr (inr (inr (inr (inr j)))))) =
        absurd (not_both metadata_name (is SourceFilename ∪ is Target) refl us y (item_comes (text_item_row {av = none}) m (λ u. M (items t Done)) us j))

-- an attribute that doesn't begin with a Meta begins no item
abbrev other_attribute : Class → Bool
other_attribute c = begins_attribute c && not (metadata_name c)

other : (a b : Bool) → a ≡ true → b ≡ false → (a && not b) ≡ true
other true false h k = refl
other true true h k = absurd cc
other false b h k = absurd cc

no_item_comes : (us : List Token) → comes begins_attribute us ≡ true → comes metadata_name us ≡ false → comes begins_item us ≡ false
no_item_comes [] h n = refl
no_item_comes (t ∷ us) h n = by (begins_item t.class) refl
  where
    by : (b : Bool) → begins_item t.class ≡ b → begins_item t.class ≡ false
    by true z = absurd (apart_is other_attribute begins_item refl t.class (other (begins_attribute t.class) (metadata_name t.class) h n) z)
    by false z = z

attribute_behind : (t : Tree) (after : AfterItem) (m : Option Fault) (M : Items → Lang) (us : List Token) → attribute m (λ u. M (items t after)) us → behind_attributes_item t after m M us
attribute_behind t after m M us j = by (comes metadata_name us) refl j
  where
    by : (b : Bool) → comes metadata_name us ≡ b → attribute m (λ u. M (items t after)) us → behind_attributes_item t after m M us
    by false n j = inr (n, inr (no_item_comes us (item_comes attribute_item m (λ u. M (items t after)) us j) n, j))
    by true y (inl (a, vs, e, i, j)) = absurd (not_both metadata_name attribute_word refl us y (first_comes attribute_word a us vs e i))
    by true y (inr (inl (a, vs, e, i, j))) = absurd (not_both metadata_name attribute_name refl us y (first_comes attribute_name a us vs e i))
    by true y (inr (inr (inl (a, vs, e, i, j)))) = absurd (not_both metadata_name (is Str) refl us y (first_comes (is Str) a us vs e i))
    by true y (inr (inr (inr (a, vs, e, i, j)))) = inl (a, vs, e, i, inl j)

-- the loop in the one state where it is in the other
done_declared : (t : Tree) (m : Option Fault) (K : Tree → Lang) (us : List Token) → Loops m K (items t Done) us → Loops m K (items t Declared) us
done_declared t m K us (zero, j) = (0, j)
done_declared t m K us (suc n, j) = (suc n, opened_behind t Declared m (λ c. loop next_item items_end n c m K) us j)

done_valued : (t : Tree) (m : Option Fault) (K : Tree → Lang) (us : List Token) → Loops m K (items t Done) us → Loops m K (items t Valued) us
done_valued t m K us (zero, j) = (0, j)
done_valued t m K us (suc n, j) = (suc n, inr j)

valued_tailed : (t : Tree) (m : Option Fault) (K : Tree → Lang) (us : List Token) → Loops m K (items t Valued) us → Loops m K (items t Tailed) us
valued_tailed t m K us (zero, j) = (0, j)
valued_tailed t m K us (suc n, inl j) = (suc n, inl j)
valued_tailed t m K us (suc n, inr j) = (suc n, inr (opened_behind t Tailed m (λ c. loop next_item items_end n c m K) us j))

-- attributes before what is read in a state
attributes_in : (t : Tree) (after : AfterItem) (m : Option Fault) (K : Tree → Lang) (L : Lang) → ((us : List Token) → L us → Loops m K (items t after) us)
    → ((us : List Token) → behind_attributes_item t after m (Loops m K) us → Loops m K (items t after) us)
    → (us : List Token) → attributes m (λ w. L) us → Loops m K (items t after) us
attributes_in t after m K L f g us j = star linear_attribute m (Loops m K (items t after)) (λ vs i. g vs (attribute_behind t after m (Loops m K) vs i)) us
    ((linear_many linear_attribute).mono m (λ all. attributes_end m (λ w. L)) (λ all. Loops m K (items t after)) (λ all vs i. base vs i) us j)
  where
    base : (vs : List Token) → attributes_end m (λ w. L) vs → Loops m K (items t after) vs
    base vs (inl j) = f vs j
    base vs (inr (w, u, e, i)) = (0, inr (w, u, e, within_is (is Refused) no_item refl u.class i))

declared_loops : (t : Tree) (m : Option Fault) (K : Tree → Lang) (us : List Token) → attributes m (λ w. Loops m K (items t Done)) us → Loops m K (items t Declared) us
declared_loops t m K us j = attributes_in t Declared m K (Loops m K (items t Done)) (λ vs i. done_declared t m K vs i) (λ vs i. loops_more t Declared m K vs i) us j

tail_loops : (t : Tree) (m : Option Fault) (K : Tree → Lang) (us : List Token) → tail m (λ u. Loops m K (items t Valued)) us → Loops m K (items t Valued) us
tail_loops t m K us (c, vs, e, i, j) =
    loops_more t Valued m K us (inl (c, vs, e, i, attributes_in t Tailed m K (Loops m K (items t Valued)) (λ ws k. valued_tailed t m K ws k) (λ ws k. loops_more t Tailed m K ws (inr k)) vs j))

valued_loops : (t : Tree) (m : Option Fault) (K : Tree → Lang) (us : List Token) → tails m (λ w. Loops m K (items t Done)) us → Loops m K (items t Valued) us
valued_loops t m K us j = star linear_tail m (Loops m K (items t Valued)) (λ vs i. tail_loops t m K vs i) us
    ((linear_many linear_tail).mono m (λ all. Loops m K (items t Done)) (λ all. Loops m K (items t Valued)) (λ all vs i. done_valued t m K vs i) us j)

item_loops : (t : Tree) (m : Option Fault) (K : Tree → Lang) (us : List Token) → item m (λ x. Loops m K (items (add_item t x) Done)) us → Loops m K (items t Done) us
item_loops t m K us (inr j) = (0, inr j)
item_loops t m K us (inl (inl j)) = loops_more t Done m K us (inl j)
item_loops t m K us (inl (inr (inl j))) =
    loops_more t Done m K us (inr
    (inl (linear_global_head.mono m (λ g. tails m (λ w. Loops m K (items (add_item t (GlobalItem g)) Done))) (λ g. Loops m K (items (add_item t (GlobalItem g)) Valued))
    (λ g vs i. valued_loops (add_item t (GlobalItem g)) m K vs i) us j)))
item_loops t m K us (inl (inr (inr (inl j)))) = loops_more t Done m K us
    (inr (inr (inl (linear_declare_head.mono m (λ d. attributes m (λ w. Loops m K (items (add_item t (DeclareItem d)) Done))) (λ d. Loops m K (items (add_item t (DeclareItem d)) Declared))
    (λ d vs i. declared_loops (add_item t (DeclareItem d)) m K vs i) us j))))
item_loops t m K us (inl (inr (inr (inr j)))) = loops_more t Done m K us (inr (inr (inr j)))

rest_loops : (n : ℕ) (t : Tree) (m : Option Fault) (K : Tree → Lang) (us : List Token) → gather add_item item n t m K us → Loops m K (items t Done) us
rest_loops zero t m K us j = (0, inl j)
rest_loops (suc n) t m K us j = item_loops t m K us (linear_item.mono m (λ x. gather add_item item n (add_item t x) m K) (λ x. Loops m K (items (add_item t x) Done))
    (λ x vs i. rest_loops n (add_item t x) m K vs i) us j)

-- ---- the items of each kind, in the order of the text

abbrev behind : Tree → Tree → Tree
behind t u = record { types = t.types ++ u.types; globals = t.globals ++ u.globals; declares = t.declares ++ u.declares; functions = t.functions ++ u.functions }

same_tree : (a a2 : List NamedType) (b b2 : List Variable) (c c2 : List Declaration) (d d2 : List Definition) → a ≡ a2 → b ≡ b2 → c ≡ c2 → d ≡ d2
    → ◌≡◌ {A = Tree} (record { types = a; globals = b; declares = c; functions = d }) (record { types = a2; globals = b2; declares = c2; functions = d2 })
same_tree a a2 b b2 c c2 d d2 p q r s = rw (p, q, r, s) refl

added_items : (t : Tree) (xs : List Item) → added add_item t xs ≡ behind t (tree xs)
added_items t [] = same_tree _ _ _ _ _ _ _ _ (sym (append-nil t.types)) (sym (append-nil t.globals)) (sym (append-nil t.declares)) (sym (append-nil t.functions))
added_items t (TypeItem i ∷ xs) = added_items (add_item t (TypeItem i)) xs ∙ same_tree _ _ _ _ _ _ _ _ (append_assoc t.types (i ∷ []) (types_of xs)) refl refl refl
added_items t (GlobalItem i ∷ xs) = added_items (add_item t (GlobalItem i)) xs ∙ same_tree _ _ _ _ _ _ _ _ refl (append_assoc t.globals (i ∷ []) (globals_of xs)) refl refl
added_items t (DeclareItem i ∷ xs) = added_items (add_item t (DeclareItem i)) xs ∙ same_tree _ _ _ _ _ _ _ _ refl refl (append_assoc t.declares (i ∷ []) (declares_of xs)) refl
added_items t (DefineItem i ∷ xs) = added_items (add_item t (DefineItem i)) xs ∙ same_tree _ _ _ _ _ _ _ _ refl refl refl (append_assoc t.functions (i ∷ []) (defines_of xs))
added_items t (OtherItem ∷ xs) = added_items t xs

from_empty : (xs : List Item) → added add_item empty xs ≡ tree xs
from_empty xs = added_items empty xs

-- ---- the program

to_program : (m : Option Fault) (K : Tree → Lang) (us : List Token) → Loops m K (items empty Done) us → program m K us
to_program m K us j = (linear_many linear_item).mono m (λ xs. K (added add_item empty xs)) (λ xs. K (tree xs)) (λ xs vs i. subst (λ t. K t vs) (from_empty xs) i) us
    (to_many add_item linear_item empty m K us (loop_left j.0 (items empty Done) m K us j.1))

from_program : (m : Option Fault) (K : Tree → Lang) (us : List Token) → program m K us → Loops m K (items empty Done) us
from_program m K us j = let q = from_many add_item linear_item empty m K us
    ((linear_many linear_item).mono m (λ xs. K (tree xs)) (λ xs. K (added add_item empty xs)) (λ xs vs i. subst (λ t. K t vs) (sym (from_empty xs)) i) us j) in rest_loops q.0 empty m K us q.1

pub program_piece : Piece program_at program begins_item no_item true anything
unfolding program_at
program_piece = alike program to_program from_program items_loop
