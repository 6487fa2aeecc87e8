-- The parts of a body are read again.
use Rattle.std.proofs.Common.{◌≡◌, ℕ, List, [], ◌∷◌, ◌++◌, refl, ap, ap₂, ◌∙◌, append_assoc, Option, Some, None, codes}
use Rattle.pg_read_ast.specs.declared.names.Name.{Name}
use Rattle.pg_read_ast.specs.Syntax.{Op, Line}
use Rattle.pg_read_ast.specs.Text.{name_text, op_text, line_text}
use Rattle.pg_read_grammar.specs.declared.class.Class.TheVariants.{CloseRound}
use Rattle.pg_read_grammar.specs.declared.nesting.TheConstants.{INNER_NESTING_LIMIT}
use Rattle.pg_read_grammar.specs.Language.{Gram, give}
use Rattle.pg_read_grammar.specs.Language.{◌>>=◌ as ◌then◌}
use Rattle.pg_read_grammar.specs.Grammar.{name_of}
use Rattle.pg_read_grammar.specs.GrammarOps.{op}
use Rattle.pg_read_grammar.specs.GrammarItems.{Part, LabelPart, LinePart, DroppedPart, metadata, line_of, part}
use Rattle.pg_law_canonical.specs.Spans.{plain_name, plain_option, plain_op, plain_line}
use Rattle.pg_law_canonical.proofs.TokenTexts.{stops}
use Rattle.pg_law_canonical.proofs.ReadAgain.{Again, anything, given, then_text, last_text, left_text, right_text, text_as, spaced, fed}
use Rattle.pg_law_canonical.proofs.CommaLists.{mark_then, end_text}
use Rattle.pg_law_canonical.proofs.Tokens.{equals, local_again, label_again}
use Rattle.pg_law_canonical.proofs.PieceYields.{Yields, yields_give, yields_one, yields_then, yields_or}
use Rattle.pg_law_canonical.proofs.LeftOutParts.{no_metadata, metadata_then, skip_yields}
use Rattle.pg_law_canonical.proofs.Operations.{IsNameText, same_name}
use Rattle.pg_law_canonical.proofs.OperationYields.{OpAgain, OptionAgain, op_yields}

abbrev pub NameOption : Option Name → Type 0
NameOption None = Unit {0}
NameOption (Some n) = IsNameText n.text

-- a name that can be written
pub record IsNamed (n : Name) : Type 1 where
  pub text : IsNameText n.text

pub record LineAgain (l : Line) : Type 1 where
  pub name : NameOption l.name
  pub op : OpAgain l.op

abbrev pub plain_part : Part → Part
plain_part (LabelPart n) = LabelPart (plain_name n)
plain_part (LinePart l) = LinePart (plain_line l)
plain_part DroppedPart = DroppedPart

abbrev pub part_text : Part → List ℕ
part_text (LabelPart n) = name_text n.text ++ codes ":\n"
part_text (LinePart l) = line_text l
part_text DroppedPart = []

abbrev pub PartAgain : Part → Type 1
PartAgain p = Again anything part (part_text p) (λ q. plain_part q ≡ plain_part p)

-- ---- the line of an operation

abbrev part_with : Option Name → Option Op → Part
part_with name None = DroppedPart
part_with name (Some p) = LinePart (record { name = name; op = p })

plain_line_of : (name : Option Name) (o : Option Op) → plain_part (line_of name o) ≡ part_with (plain_option plain_name name) (plain_option plain_op o)
plain_line_of name None = refl
plain_line_of name (Some p) = refl

line_is : (name other : Option Name) (o : Option Op) (p : Op) → plain_option plain_name name ≡ plain_option plain_name other → plain_option plain_op o ≡ Some (plain_op p)
    → plain_part (line_of name o) ≡ LinePart (plain_line (record { name = other; op = p }))
line_is name other o p x y = plain_line_of name o ∙ ap₂ part_with x y

abbrev line_rest : Option Name → Option Op → Gram Part
line_rest name o = metadata then (λ u. give (line_of name o))

line_texts : (n o : List ℕ) → (32 ∷ 32 ∷ 37 ∷ (n ++ (32 ∷ 61 ∷ 32 ∷ o))) ++ codes "\n" ≡ codes "  " ++ ((37 ∷ n ++ codes " = ") ++ (o ++ codes "\n"))
line_texts n o = rw (append_assoc n (32 ∷ 61 ∷ 32 ∷ o) (10 ∷ []), append_assoc n (32 ∷ 61 ∷ 32 ∷ []) (o ++ 10 ∷ [])) refl

line_row : (name : Option Name) (p : Op) → NameOption name → OpAgain p → PartAgain (LinePart (record { name = name; op = p }))
unfolding line_text
line_row None p h e = fed (λ r i. refl) (spaced (spaced (right_text (right_text (right_text (end_text {h = line_rest None} e (λ o y. no_metadata (given (line_is None None o p refl y)))))))))
line_row (Some n) p h e = text_as (line_texts (name_text n.text) (op_text p))
    (fed (λ r i. refl) (spaced (spaced (right_text (right_text (left_text (then_text (local_again n.text h) (λ r i. refl) (λ t x. mark_then (spaced equals) (λ q _.
    end_text {h = line_rest (Some (name_of t))} (spaced e) (λ o y. no_metadata (given (line_is (Some (name_of t)) (Some n) o p (ap Some (same_name x)) y))))))))))))

pub line_again : (l : Line) → LineAgain l → PartAgain (LinePart l)
line_again l e = line_row l.name l.op e.name e.op

pub label_again_part : (n : Name) → IsNameText n.text → PartAgain (LabelPart n)
label_again_part n h = text_as (append_assoc (name_text n.text) (58 ∷ []) (10 ∷ []))
    (fed (λ r i. refl) (left_text (last_text (label_again {before = stops} n.text h) (λ t x. ap LabelPart (same_name x)))))

-- ---- the parts of a text

abbrev pub PartHas : Part → Type 1
PartHas (LabelPart n) = IsNamed n
PartHas (LinePart l) = LineAgain l
PartHas DroppedPart = Unit {1}

line_has : (name : Option Name) (o : Option Op) → NameOption name → OptionAgain o → PartHas (line_of name o)
line_has name None h e = tt
line_has name (Some p) h e = record { name = h; op = e }

line_yields : (name : Option Name) → NameOption name → Yields (op then (λ o. line_rest name o)) PartHas
line_yields name h = yields_then {h = line_rest name} op_yields (λ o e. metadata_then (yields_give (line_has name o h e)))

pub part_yields : Yields part PartHas
part_yields = yields_or (yields_then yields_one (λ t k. yields_give (record { text = k.formed.bytes })))
    (yields_or (yields_then yields_one (λ d _. yields_then yields_one (λ b _. yields_then (skip_yields INNER_NESTING_LIMIT CloseRound) (λ u _. yields_give tt))))
    (yields_or (yields_then yields_one (λ t k. yields_then yields_one (λ q _. line_yields (Some (name_of t)) k.formed.bytes))) (line_yields None tt)))
