-- The canonical text of a module is a text of that module.
use Rattle.std.proofs.Common.{◌≡◌, ℕ, ◌<◌, List, [], ◌∷◌, ◌++◌, map, flat_map, append-nil, append_assoc, refl, sym, ap, ap₂, subst, ◌∙◌, None, Bool, true, All, lt-ltb}
use Rattle.std.specs.List.{list_all}
use Rattle.std.proofs.lemmas.List.Sums.{list_all-from_AllPass}
use Rattle.pg_read_lex.specs.Tokens.{tokens_from}
use Rattle.pg_read_ast.specs.Syntax.{NamedType, Variable, Declaration, Definition, Tree}
use Rattle.pg_read_ast.specs.Text.{type_item_text, global_item_text, declare_text, define_text, tree_text}
use Rattle.pg_read_ast.specs.Numbers.{numbered, numbered_tree, canonical_text}
use Rattle.pg_read_grammar.specs.declared.token.Token.{Token}
use Rattle.pg_read_grammar.specs.declared.class.Class.{Class}
use Rattle.pg_read_grammar.specs.Language.{Lang, Gram}
use Rattle.pg_read_grammar.specs.Reading.{Read}
use Rattle.pg_read_grammar.specs.Verdict.{IsRead}
use Rattle.pg_read_grammar.specs.Accepted.{IsModule}
use Rattle.pg_read_grammar.specs.GrammarItems.{Item, TypeItem, GlobalItem, DeclareItem, DefineItem, OtherItem, item, types_of, globals_of, declares_of, defines_of, tree, no_item, program}
use Rattle.pg_read_grammar.specs.ReaderItems.{begins_item, program_at}
use Rattle.pg_read_grammar.specs.Endings.{end_last, all_end_last}
use Rattle.pg_read_grammar.specs.Words.{classified}
use Rattle.pg_read_grammar.proofs.Pieces.{Piece, Met, Went, Stopped, Avoids, Same}
use Rattle.pg_read_grammar.proofs.ItemRows.{anything as avoided}
use Rattle.pg_read_grammar.proofs.ItemLoops.{program_piece}
use Rattle.pg_read_grammar.proofs.EndingLaws.{module_ends}
use Rattle.pg_law_canonical.specs.Spans.{plain_named, plain_variable, plain_declaration, plain_definition, without_spans}
use Rattle.pg_law_canonical.proofs.FirstTokens.{fore, aft}
use Rattle.pg_law_canonical.proofs.Names.{is_byte}
use Rattle.pg_law_canonical.proofs.TokenTexts.{In}
use Rattle.pg_law_canonical.proofs.ReadAgain.{Again, Every, every_more, anything, last_text, left_text, right_text, many_text}
use Rattle.pg_law_canonical.proofs.Numbering.{params_again, blocks_again, blocks_labelled, blocks_end}
use Rattle.pg_law_canonical.proofs.Items.{plain_item, TypeHas, GlobalHas, DeclareHas, DefineHas, type_row, global_row, declare_row, define_row}
use Rattle.pg_law_canonical.proofs.ItemYields.{TreeHas, program_yields}
use Rattle.pg_law_canonical.proofs.ByteTokens.{tokens_formed}

-- ---- the items of a tree

abbrev items_of : Tree → List Item
items_of m = map TypeItem m.types ++ (map GlobalItem m.globals ++ (map DeclareItem m.declares ++ (map DefineItem m.functions ++ [])))

abbrev item_text : Item → List ℕ
item_text (TypeItem i) = type_item_text i
item_text (GlobalItem g) = global_item_text g
item_text (DeclareItem d) = declare_text d
item_text (DefineItem d) = define_text d
item_text OtherItem = []

-- a list of items, the first of which are made of these
made_text : {X : Type 0} (c : X → Item) (f : X → List ℕ) → ((x : X) → item_text (c x) ≡ f x) → (xs : List X) (rest : List Item)
    → flat_map item_text (map c xs ++ rest) ≡ flat_map f xs ++ flat_map item_text rest
made_text c f e [] rest = refl
made_text c f e (x ∷ xs) rest = ap₂ (λ a b. a ++ b) (e x) (made_text c f e xs rest) ∙ sym (append_assoc (f x) (flat_map f xs) (flat_map item_text rest))

items_text : (m : Tree) → flat_map item_text (items_of m) ≡ tree_text m
items_text m = made_text TypeItem type_item_text (λ x. refl) m.types _ ∙ ap (λ t. flat_map type_item_text m.types ++ t) (made_text GlobalItem global_item_text (λ x. refl) m.globals _
    ∙ ap (λ t. flat_map global_item_text m.globals ++ t) (made_text DeclareItem declare_text (λ x. refl) m.declares _
    ∙ ap (λ t. flat_map declare_text m.declares ++ t) (made_text DefineItem define_text (λ x. refl) m.functions [] ∙ append-nil (flat_map define_text m.functions))))

taken : {X : Type 0} (F : List Item → List X) (c : X → Item) → ((x : X) (xs : List Item) → F (c x ∷ xs) ≡ x ∷ F xs) → (xs : List X) (rest : List Item)
    → F (map c xs ++ rest) ≡ xs ++ F rest
taken F c e [] rest = refl
taken F c e (x ∷ xs) rest = e x (map c xs ++ rest) ∙ ap (λ ys. x ∷ ys) (taken F c e xs rest)

passed : {X Y : Type 0} (F : List Item → List X) (c : Y → Item) → ((y : Y) (xs : List Item) → F (c y ∷ xs) ≡ F xs) → (ys : List Y) (rest : List Item) → F (map c ys ++ rest) ≡ F rest
passed F c e [] rest = refl
passed F c e (y ∷ ys) rest = e y (map c ys ++ rest) ∙ passed F c e ys rest

types_are : (m : Tree) → types_of (items_of m) ≡ m.types
types_are m = taken types_of TypeItem (λ x xs. refl) m.types _ ∙ ap (λ xs. m.types ++ xs)
    (passed types_of GlobalItem (λ x xs. refl) m.globals _ ∙ passed types_of DeclareItem (λ x xs. refl) m.declares _ ∙ passed types_of DefineItem (λ x xs. refl) m.functions [])
    ∙ append-nil m.types

globals_are : (m : Tree) → globals_of (items_of m) ≡ m.globals
globals_are m = passed globals_of TypeItem (λ x xs. refl) m.types _ ∙ taken globals_of GlobalItem (λ x xs. refl) m.globals _
    ∙ ap (λ xs. m.globals ++ xs) (passed globals_of DeclareItem (λ x xs. refl) m.declares _ ∙ passed globals_of DefineItem (λ x xs. refl) m.functions []) ∙ append-nil m.globals

declares_are : (m : Tree) → declares_of (items_of m) ≡ m.declares
declares_are m = passed declares_of TypeItem (λ x xs. refl) m.types _ ∙ passed declares_of GlobalItem (λ x xs. refl) m.globals _ ∙ taken declares_of DeclareItem (λ x xs. refl) m.declares _
    ∙ ap (λ xs. m.declares ++ xs) (passed declares_of DefineItem (λ x xs. refl) m.functions []) ∙ append-nil m.declares

functions_are : (m : Tree) → defines_of (items_of m) ≡ m.functions
functions_are m = passed defines_of TypeItem (λ x xs. refl) m.types _ ∙ passed defines_of GlobalItem (λ x xs. refl) m.globals _ ∙ passed defines_of DeclareItem (λ x xs. refl) m.declares _
    ∙ taken defines_of DefineItem (λ x xs. refl) m.functions [] ∙ append-nil m.functions

-- ---- the places of items don't count

plain_types_of : (xs : List Item) → map plain_named (types_of xs) ≡ types_of (map plain_item xs)
plain_types_of [] = refl
plain_types_of (TypeItem i ∷ xs) = ap (λ ys. plain_named i ∷ ys) (plain_types_of xs)
plain_types_of (GlobalItem g ∷ xs) = plain_types_of xs
plain_types_of (DeclareItem d ∷ xs) = plain_types_of xs
plain_types_of (DefineItem d ∷ xs) = plain_types_of xs
plain_types_of (OtherItem ∷ xs) = plain_types_of xs

plain_globals_of : (xs : List Item) → map plain_variable (globals_of xs) ≡ globals_of (map plain_item xs)
plain_globals_of [] = refl
plain_globals_of (TypeItem i ∷ xs) = plain_globals_of xs
plain_globals_of (GlobalItem g ∷ xs) = ap (λ ys. plain_variable g ∷ ys) (plain_globals_of xs)
plain_globals_of (DeclareItem d ∷ xs) = plain_globals_of xs
plain_globals_of (DefineItem d ∷ xs) = plain_globals_of xs
plain_globals_of (OtherItem ∷ xs) = plain_globals_of xs

plain_declares_of : (xs : List Item) → map plain_declaration (declares_of xs) ≡ declares_of (map plain_item xs)
plain_declares_of [] = refl
plain_declares_of (TypeItem i ∷ xs) = plain_declares_of xs
plain_declares_of (GlobalItem g ∷ xs) = plain_declares_of xs
plain_declares_of (DeclareItem d ∷ xs) = ap (λ ys. plain_declaration d ∷ ys) (plain_declares_of xs)
plain_declares_of (DefineItem d ∷ xs) = plain_declares_of xs
plain_declares_of (OtherItem ∷ xs) = plain_declares_of xs

plain_defines_of : (xs : List Item) → map plain_definition (defines_of xs) ≡ defines_of (map plain_item xs)
plain_defines_of [] = refl
plain_defines_of (TypeItem i ∷ xs) = plain_defines_of xs
plain_defines_of (GlobalItem g ∷ xs) = plain_defines_of xs
plain_defines_of (DeclareItem d ∷ xs) = plain_defines_of xs
plain_defines_of (DefineItem d ∷ xs) = ap (λ ys. plain_definition d ∷ ys) (plain_defines_of xs)
plain_defines_of (OtherItem ∷ xs) = plain_defines_of xs

-- the four lists of a tree
four : {a a' : List NamedType} {b b' : List Variable} {c c' : List Declaration} {d d' : List Definition} → a ≡ a' → b ≡ b' → c ≡ c' → d ≡ d'
    → ◌≡◌ {A = Tree} (record { types = a; globals = b; declares = c; functions = d }) (record { types = a'; globals = b'; declares = c'; functions = d' })
four {a} {a'} {b} {b'} {c} {c'} {d} {d'} p q r s = ap₂ (λ x y. let m : Tree = record { types = x; globals = y; declares = c; functions = d } in m) p q
    ∙ ap₂ (λ x y. let m : Tree = record { types = a'; globals = b'; declares = x; functions = y } in m) r s

plain_tree : (xs : List Item) → without_spans (tree xs) ≡ tree (map plain_item xs)
plain_tree xs = four (plain_types_of xs) (plain_globals_of xs) (plain_declares_of xs) (plain_defines_of xs)

tree_is : (m : Tree) → tree (items_of m) ≡ m
tree_is m = four (types_are m) (globals_are m) (declares_are m) (functions_are m)

-- ---- a tree is read again

abbrev ItemAgain : Item → Type 1
ItemAgain x = Again anything item (item_text x) (λ y. plain_item y ≡ plain_item x)

made_again : {X : Type 0} (c : X → Item) (xs : List X) (rest : List Item) → Every (λ x. ItemAgain (c x)) xs → Every ItemAgain rest → Every ItemAgain (map c xs ++ rest)
made_again c [] rest h k = k
made_again c (x ∷ xs) rest h k = (h.0, made_again c xs rest h.1 k)

-- what a function of a text has, with its blocks ended
record FunctionAgain (d : Definition) : Type 1 where
  pub again : ItemAgain (DefineItem d)

numbered_again : (types : List NamedType) (d : Definition) → DefineHas d → end_last d.blocks ≡ true → FunctionAgain (numbered types d)
unfolding numbered
numbered_again types d h e = record {
  again = left_text
      (right_text (right_text (right_text
      (left_text (define_row _ (record { result = h.result; name = h.name; params = params_again 0 d.params h.params; blocks = blocks_again types _ d.blocks h.blocks })
      (blocks_labelled types _ d.blocks) (blocks_end types _ d.blocks ∙ e))))));
}

all_numbered : (types : List NamedType) (ds : List Definition) → Every DefineHas ds → list_all (λ f. end_last f.blocks) ds ≡ true
    → Every (λ d. ItemAgain (DefineItem d)) (map (numbered types) ds)
all_numbered types [] h e = tt
all_numbered types (d ∷ ds) h e = (
  (numbered_again types d h.0 (fore (end_last d.blocks) (list_all (λ f. end_last f.blocks) ds) e)).again,
  all_numbered types ds h.1 (aft (end_last d.blocks) (list_all (λ f. end_last f.blocks) ds) e),
)

items_again : (m : Tree) → TreeHas m → all_end_last m ≡ true → Every ItemAgain (items_of (numbered_tree m))
unfolding numbered_tree
items_again m h e = made_again TypeItem m.types _ (every_more TypeHas _ (λ i k. left_text (right_text (right_text (right_text (right_text (left_text (type_row i k))))))) m.types h.types)
    (made_again GlobalItem m.globals _ (every_more GlobalHas _ (λ g k. left_text (right_text (left_text (global_row g k)))) m.globals h.globals)
    (made_again DeclareItem m.declares _ (every_more DeclareHas _ (λ d k. left_text (right_text (right_text (left_text (declare_row d k))))) m.declares h.declares)
    (made_again DefineItem (map (numbered m.types) m.functions) [] (all_numbered m.types m.functions h.functions e) tt)))

tree_again : (n : Tree) → Every ItemAgain (items_of n) → Again anything program (flat_map item_text (items_of n)) (λ t. without_spans t ≡ without_spans n)
tree_again n h = last_text {f = tree} (many_text item item_text plain_item (items_of n) (λ x r i. refl) h)
    (λ xs e. plain_tree xs ∙ ap tree e ∙ sym (plain_tree (items_of n)) ∙ ap without_spans (tree_is n))

-- ---- the whole text

-- a value of which Q holds is the whole list
with_value : {A : Type 0} (Q : A → Type 0) (r : List Token → Read A) (g : Gram A) (fi ma : Class → Bool) (nu : Bool) (av : Class → Bool) → Piece r g fi ma nu av → (ts : List Token)
    → g None (λ a us. Q a × (us ≡ [])) ts → (a : A) × Q a × IsRead g ts a
with_value {A} Q r g fi ma nu av e ts j = by (r ts) (e.meets ts)
  where
    avoids : Avoids av None (λ (b : A) (us : List Token). Q b × (us ≡ []))
    avoids b t us i k = absurd (let z : t ∷ us ≡ [] = k.1 in cc)

    same : (us : List Token) → Same us us
    same [] = tt
    same (t ∷ us) = refl

    by : (x : Read A) → Met g av ts x → (a : A) × Q a × IsRead g ts a
    by _ (Went a front rest split o) = let z = o.back None (λ b us. Q b × (us ≡ [])) rest avoids (same rest) tt (subst (g None (λ b us. Q b × (us ≡ []))) split j) in
        (a, z.0, subst (λ xs. IsRead g xs a) (sym split) (o.sound None (λ b us. (b ≡ a) × (us ≡ [])) rest (refl, z.1)))
    by _ (Stopped fault front rest split o) = absurd (o.dead None (λ b us. Q b × (us ≡ [])) rest avoids (same rest) tt (subst (g None (λ b us. Q b × (us ≡ []))) split j))

read_again : (n : Tree) → Again anything program (tree_text n) (λ t. without_spans t ≡ without_spans n) → (t : Tree) × IsModule (tree_text n) t × (without_spans t ≡ without_spans n)
unfolding tokens_from
read_again n e = finish (subst (In (program None K) []) (append-nil (tree_text n)) (e.again K [] [] refl (λ b p. ([], refl, (p, refl)))))
  where
    K : Tree → Lang
    K t us = (without_spans t ≡ without_spans n) × (us ≡ [])

    finish : In (program None K) [] (tree_text n) → (t : Tree) × IsModule (tree_text n) t × (without_spans t ≡ without_spans n)
    finish (ls, w, j) = let q = with_value (λ t. without_spans t ≡ without_spans n) program_at program begins_item no_item true avoided program_piece (classified (tree_text n) ls) j in
        (q.0, (ls, w, q.2), q.1)

bytes_of : (text : List ℕ) → All (λ b. b < 256) text → list_all is_byte text ≡ true
bytes_of text h = list_all-from_AllPass is_byte text (λ k d l. lt-ltb _ 256 (h k d l))

pub round_trip : (text : List ℕ) (m : Tree) → All (λ b. b < 256) text → IsModule text m → (n : Tree) × IsModule (canonical_text m) n × (without_spans n ≡ without_spans (numbered_tree m))
unfolding canonical_text
round_trip text m h (ts, w, j) =
    let f = program_yields.yields (λ b us. (b ≡ m) × (us ≡ [])) (classified text ts) (tokens_formed text ts (bytes_of text h) w) j in
    let k : TreeHas m = subst TreeHas f.goes.0 f.holds in
    let n = numbered_tree m in
    read_again n (subst (λ bs. Again anything program bs (λ t. without_spans t ≡ without_spans n)) (items_text n) (tree_again n (items_again m k (module_ends text m (ts, w, j)))))
