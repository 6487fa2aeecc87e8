-- Bodies are read again.
use Rattle.std.proofs.Common.{◌≡◌, List, [], ◌∷◌, ◌++◌, refl, sym, ap, ap₂, ◌∙◌, append_assoc, Option, Some, None, Bool, true, false, ◌||◌, not}
use Rattle.std.proofs.Common.{if◌then◌else◌, flat_map, map, codes}
use Rattle.std.specs.List.{list_all}
use Rattle.pg_read_ast.specs.declared.names.Name.{Name}
use Rattle.pg_read_ast.specs.Syntax.{Op, Binary, Icmp, Cast, Select, Phi, Br, CondBr, Switch, Call, RetVoid, Ret, Unreachable, Alloca, Load, Store, GetElementPtr, Line, Block}
use Rattle.pg_read_ast.specs.Text.{name_text, line_text, label_line, block_text}
use Rattle.pg_read_grammar.specs.GrammarItems.{Part, LabelPart, LinePart, DroppedPart, part, ends_block, ends, has_label, with_front, alone, before, blocks_of, body}
use Rattle.pg_read_grammar.specs.Endings.{ends_last, end_last}
use Rattle.pg_law_canonical.specs.Spans.{plain_name, plain_option, plain_op, plain_block}
use Rattle.pg_law_canonical.proofs.FirstTokens.{fore, aft, is_not, one_right}
use Rattle.pg_law_canonical.proofs.ReadAgain.{Again, Every, anything, then_text, last_text, text_as, lined, many_text}
use Rattle.pg_law_canonical.proofs.CommaLists.{mark_then}
use Rattle.pg_law_canonical.proofs.Tokens.{open_brace, close_brace}
use Rattle.pg_law_canonical.proofs.PieceYields.{Yields, yields_give, yields_one, yields_then, yields_many}
use Rattle.pg_law_canonical.proofs.BodyParts.{NameOption, LineAgain, PartAgain, PartHas, plain_part, part_text, line_again, label_again_part, part_yields}

pub record BlockAgain (b : Block) : Type 1 where
  pub label : NameOption b.label
  pub lines : Every LineAgain b.lines

-- ---- the blocks of a text

alone_has : (p : Part) → PartHas p → BlockAgain (alone p)
alone_has (LabelPart n) h = record { label = h.text; lines = tt }
alone_has (LinePart l) h = record { label = tt; lines = (h, tt) }
alone_has DroppedPart h = record { label = tt; lines = tt }

front_has : (p : Part) (b : Block) → PartHas p → BlockAgain b → BlockAgain (with_front p b)
front_has (LabelPart n) b h k = record { label = h.text; lines = k.lines }
front_has (LinePart l) b h k = record { label = k.label; lines = (h, k.lines) }
front_has DroppedPart b h k = k

before_has : (p : Part) (bs : List Block) → PartHas p → Every BlockAgain bs → Every BlockAgain (before p bs)
before_has p [] h k = (alone_has p h, tt)
before_has p (b ∷ bs) h k = by (ends p || has_label b.label)
  where
    by : (c : Bool) → Every BlockAgain (if c then alone p ∷ b ∷ bs else with_front p b ∷ bs)
    by true = (alone_has p h, k)
    by false = (front_has p b h k.0, k.1)

blocks_has : (ps : List Part) → Every PartHas ps → Every BlockAgain (blocks_of ps)
unfolding blocks_of
blocks_has [] h = tt
blocks_has (p ∷ ps) h = before_has p (blocks_of ps) h.0 (blocks_has ps h.1)

pub body_yields : Yields body (Every BlockAgain)
body_yields = yields_then yields_one (λ o _. yields_then (yields_many part_yields) (λ ps h. yields_then yields_one (λ c _. yields_give (blocks_has ps h))))

-- ---- the places of parts don't count

plain_ends : (p : Op) → ends_block (plain_op p) ≡ ends_block p
plain_ends (Binary s o t a b) = refl
plain_ends (Icmp s p t a b) = refl
plain_ends (Cast s o v t) = refl
plain_ends (Select s c a b) = refl
plain_ends (Phi s t i all) = refl
plain_ends (Br s b) = refl
plain_ends (CondBr s c a b) = refl
plain_ends (Switch s v b all) = refl
plain_ends (Call s t w f all) = refl
plain_ends (RetVoid s v) = refl
plain_ends (Ret s v) = refl
plain_ends (Unreachable s) = refl
plain_ends (Alloca s t n) = refl
plain_ends (Load s t p) = refl
plain_ends (Store s v p) = refl
plain_ends (GetElementPtr s t p all) = refl

part_ends : (p : Part) → ends (plain_part p) ≡ ends p
part_ends (LabelPart n) = refl
part_ends (LinePart l) = plain_ends l.op
part_ends DroppedPart = refl

plain_label : (n : Option Name) → has_label (plain_option plain_name n) ≡ has_label n
plain_label None = refl
plain_label (Some n) = refl

plain_alone : (p : Part) → plain_block (alone p) ≡ alone (plain_part p)
plain_alone (LabelPart n) = refl
plain_alone (LinePart l) = refl
plain_alone DroppedPart = refl

plain_front : (p : Part) (b : Block) → plain_block (with_front p b) ≡ with_front (plain_part p) (plain_block b)
plain_front (LabelPart n) b = refl
plain_front (LinePart l) b = refl
plain_front DroppedPart b = refl

plain_before : (p : Part) (bs : List Block) → map plain_block (before p bs) ≡ before (plain_part p) (map plain_block bs)
plain_before p [] = ap (λ b. b ∷ []) (plain_alone p)
plain_before p (b ∷ bs) =
    by (ends p || has_label b.label) ∙ ap (λ c. if c then alone (plain_part p) ∷ plain_block b ∷ map plain_block bs else with_front (plain_part p) (plain_block b) ∷ map plain_block bs)
    (sym (ap₂ (λ x y. x || y) (part_ends p) (plain_label b.label)))
  where
    by : (c : Bool) → map plain_block (if c then alone p ∷ b ∷ bs else with_front p b ∷ bs)
        ≡ (if c then alone (plain_part p) ∷ plain_block b ∷ map plain_block bs else with_front (plain_part p) (plain_block b) ∷ map plain_block bs)
    by true = ap (λ x. x ∷ plain_block b ∷ map plain_block bs) (plain_alone p)
    by false = ap (λ x. x ∷ map plain_block bs) (plain_front p b)

plain_blocks : (ps : List Part) → map plain_block (blocks_of ps) ≡ blocks_of (map plain_part ps)
unfolding blocks_of
plain_blocks [] = refl
plain_blocks (p ∷ ps) = plain_before p (blocks_of ps) ∙ ap (λ bs. before (plain_part p) bs) (plain_blocks ps)

-- ---- the parts of blocks with labels

abbrev label_part : Option Name → List Part
label_part None = []
label_part (Some n) = LabelPart n ∷ []

abbrev parts_of : List Block → List Part
parts_of [] = []
parts_of (b ∷ bs) = label_part b.label ++ (map LinePart b.lines ++ parts_of bs)

abbrev pub are_labelled : List Block → Bool
are_labelled bs = list_all (λ b. has_label b.label) bs

abbrev unlabelled : List Line → Block
unlabelled ls = record { label = None; lines = ls }

last_line : (l : Line) (bs : List Block) → are_labelled bs ≡ true → before (LinePart l) bs ≡ unlabelled (l ∷ []) ∷ bs
last_line l [] h = refl
last_line l (b ∷ bs) h = ap (λ c. if c then unlabelled (l ∷ []) ∷ b ∷ bs else with_front (LinePart l) b ∷ bs)
    (one_right (ends_block l.op) (has_label b.label) (fore (has_label b.label) (are_labelled bs) h))

some_lines : (l : Line) (ls : List Line) (ps : List Part) → are_labelled (blocks_of ps) ≡ true → ends_last (l ∷ ls) ≡ true
    → blocks_of (map LinePart (l ∷ ls) ++ ps) ≡ unlabelled (l ∷ ls) ∷ blocks_of ps
unfolding blocks_of
some_lines l [] ps h e = last_line l (blocks_of ps) h
some_lines l (m ∷ ls) ps h e = ap (λ bs. before (LinePart l) bs) (some_lines m ls ps h (aft (not (ends_block l.op)) (ends_last (m ∷ ls)) e))
    ∙ ap (λ c. if c || false then unlabelled (l ∷ []) ∷ unlabelled (m ∷ ls) ∷ blocks_of ps else unlabelled (l ∷ m ∷ ls) ∷ blocks_of ps)
    (is_not (ends_block l.op) (fore (not (ends_block l.op)) (ends_last (m ∷ ls)) e))

first_label : (n : Name) (bs : List Block) → are_labelled bs ≡ true → before (LabelPart n) bs ≡ record { label = Some n; lines = [] } ∷ bs
first_label n [] h = refl
first_label n (b ∷ bs) h = ap (λ c. if c then record { label = Some n; lines = [] } ∷ b ∷ bs else with_front (LabelPart n) b ∷ bs) (fore (has_label b.label) (are_labelled bs) h)

block_is : (n : Name) (ls : List Line) (ps : List Part) → are_labelled (blocks_of ps) ≡ true → ends_last ls ≡ true
    → blocks_of (LabelPart n ∷ (map LinePart ls ++ ps)) ≡ record { label = Some n; lines = ls } ∷ blocks_of ps
unfolding blocks_of
block_is n [] ps h e = first_label n (blocks_of ps) h
block_is n (l ∷ ls) ps h e = ap (λ bs. before (LabelPart n) bs) (some_lines l ls ps h e)

blocks_are : (bs : List Block) → are_labelled bs ≡ true → end_last bs ≡ true → blocks_of (parts_of bs) ≡ bs
unfolding blocks_of
blocks_are [] h e = refl
blocks_are (b ∷ bs) h e = by b.label (fore (has_label b.label) (are_labelled bs) h) (blocks_are bs (aft (has_label b.label) (are_labelled bs) h) (aft (ends_last b.lines) (end_last bs) e))
  where
    by : (n : Option Name) → has_label n ≡ true → blocks_of (parts_of bs) ≡ bs
        → blocks_of (label_part n ++ (map LinePart b.lines ++ parts_of bs)) ≡ record { label = n; lines = b.lines } ∷ bs
    by None k r = absurd cc
    by (Some n) k r = block_is n b.lines (parts_of bs) (ap are_labelled r ∙ aft (has_label b.label) (are_labelled bs) h) (fore (ends_last b.lines) (end_last bs) e)
        ∙ ap (λ cs. record { label = Some n; lines = b.lines } ∷ cs) r

-- ---- their text

lines_text : (ls : List Line) (ps : List Part) → flat_map part_text (map LinePart ls ++ ps) ≡ flat_map line_text ls ++ flat_map part_text ps
lines_text [] ps = refl
lines_text (l ∷ ls) ps = ap (λ bs. line_text l ++ bs) (lines_text ls ps) ∙ sym (append_assoc (line_text l) (flat_map line_text ls) (flat_map part_text ps))

parts_text : (bs : List Block) → flat_map part_text (parts_of bs) ≡ flat_map block_text bs
unfolding block_text
parts_text [] = refl
parts_text (b ∷ bs) = by b.label (lines_text b.lines (parts_of bs) ∙ ap (λ t. flat_map line_text b.lines ++ t) (parts_text bs))
  where
    by : (n : Option Name) → flat_map part_text (map LinePart b.lines ++ parts_of bs) ≡ flat_map line_text b.lines ++ flat_map block_text bs
        → flat_map part_text (label_part n ++ (map LinePart b.lines ++ parts_of bs)) ≡ (label_line n ++ flat_map line_text b.lines) ++ flat_map block_text bs
    by None e = e
    by (Some n) e = ap (λ t. (name_text n.text ++ codes ":\n") ++ t) e ∙ sym (append_assoc (name_text n.text ++ codes ":\n") (flat_map line_text b.lines) (flat_map block_text bs))

lines_again : (ls : List Line) (ps : List Part) → Every LineAgain ls → Every PartAgain ps → Every PartAgain (map LinePart ls ++ ps)
lines_again [] ps h k = k
lines_again (l ∷ ls) ps h k = (line_again l h.0, lines_again ls ps h.1 k)

parts_again : (bs : List Block) → Every BlockAgain bs → Every PartAgain (parts_of bs)
parts_again [] h = tt
parts_again (b ∷ bs) h = by b.label h.0.label (lines_again b.lines (parts_of bs) h.0.lines (parts_again bs h.1))
  where
    by : (n : Option Name) → NameOption n → Every PartAgain (map LinePart b.lines ++ parts_of bs) → Every PartAgain (label_part n ++ (map LinePart b.lines ++ parts_of bs))
    by None k e = e
    by (Some n) k e = (label_again_part n k, e)

pub body_row : (bs : List Block) → Every BlockAgain bs → are_labelled bs ≡ true → end_last bs ≡ true
    → Again anything body (codes "{\n" ++ (flat_map block_text bs ++ codes "}")) (λ cs. map plain_block cs ≡ map plain_block bs)
body_row bs h k e = text_as (ap (λ t. codes "{\n" ++ (t ++ codes "}")) (parts_text bs))
    (mark_then open_brace (λ o _. then_text (lined (many_text part part_text plain_part (parts_of bs) (λ p r i. refl) (parts_again bs h))) (λ r i. refl) (λ ps x.
    last_text close_brace (λ c _. plain_blocks ps ∙ ap blocks_of x ∙ sym (plain_blocks (parts_of bs)) ∙ ap (map plain_block) (blocks_are bs k e)))))
