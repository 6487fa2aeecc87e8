-- Calls are read again.
use Rattle.std.proofs.Common.{◌≡◌, ℕ, List, [], ◌∷◌, ◌++◌, refl, ap, ◌∙◌, Option, Some, None, Bool, true, false, map, codes}
use Rattle.std.specs.List.{join_by}
use Rattle.pg_num.specs.declared.limits.TheConstants.{NESTING_LIMIT}
use Rattle.pg_read_lex.specs.declared.token.Span.{Span}
use Rattle.pg_read_ast.specs.declared.names.Name.{Name}
use Rattle.pg_read_ast.specs.Syntax.{Ty, Val, Typed, Op, Call, Written}
use Rattle.pg_read_ast.specs.Text.{type_text, typed_text, op_text, dots_text, written_text, called_text}
use Rattle.pg_read_grammar.specs.declared.nesting.TheConstants.{INNER_NESTING_LIMIT}
use Rattle.pg_read_grammar.specs.declared.token.Token.{Token}
use Rattle.pg_read_grammar.specs.declared.class.Class.TheVariants.{Comma, Dots, CloseRound}
use Rattle.pg_read_grammar.specs.Classes.{is}
use Rattle.pg_read_grammar.specs.Language.{Gram, give, one, ◌or◌}
use Rattle.pg_read_grammar.specs.Language.{◌>>=◌ as ◌then◌}
use Rattle.pg_read_grammar.specs.Grammar.{type_in, attributes, listed, argument, name_of}
use Rattle.pg_read_grammar.specs.GrammarOps.{written, callee, dropped_callee, call}
use Rattle.pg_read_grammar.specs.Words.{is_dropped}
use Rattle.pg_law_canonical.specs.Spans.{nowhere, plain_name, plain_option, plain_type, plain_typed, plain_written, plain_op}
use Rattle.pg_law_canonical.proofs.TokenTexts.{stops}
use Rattle.pg_law_canonical.proofs.ReadAgain.{Again, Fits, Every, given, weaker, then_text, last_text, left_text, right_text, spaced}
use Rattle.pg_law_canonical.proofs.CommaLists.{mark_then, end_text, separated_text}
use Rattle.pg_law_canonical.proofs.Tokens.{open_round, close_round, comma, dots, callee_again}
use Rattle.pg_law_canonical.proofs.WordTexts.{call_word}
use Rattle.pg_law_canonical.proofs.PieceYields.{Yields, yields_give, yields_one, yields_then, yields_or, yields_refused, yields_separated, yields_listed}
use Rattle.pg_law_canonical.proofs.Types.{TypeAgain, type_yields}
use Rattle.pg_law_canonical.proofs.Values.{ap₃, ValueAgain, value_yields}
use Rattle.pg_law_canonical.proofs.LeftOutParts.{no_attributes, attributes_then, skip_yields}
use Rattle.pg_law_canonical.proofs.Operations.{IsNameText, same_name, same_typed}

-- ---- the types that a call writes

abbrev inner_text : Written → List ℕ
inner_text w = codes "(" ++ (join_by type_text (codes ", ") w.types ++ (dots_text w.dots w.types ++ codes ")"))

abbrev WrittenAgain : Written → Type 1
WrittenAgain w = Again stops written (inner_text w) (λ v. plain_written v ≡ plain_written w)

-- behind the types
abbrev written_rest : List Ty → Gram Written
written_rest ts = ((one (is Comma) then (λ c. one (is Dots) then (λ d. give true))) or give false) then (λ d. one (is CloseRound) then (λ c. give (record { types = ts; dots = d })))

same_written : (us ts : List Ty) (d : Bool) → map plain_type us ≡ map plain_type ts → plain_written (record { types = us; dots = d }) ≡ plain_written (record { types = ts; dots = d })
same_written us ts d e = ap (λ (vs : List Ty). let w : Written = record { types = vs; dots = d } in w) e

some_rest : (us : List Ty) (t : Ty) (ts : List Ty) (d : Bool) → Again stops (written_rest us) (dots_text d (t ∷ ts) ++ codes ")") (λ v. v ≡ record { types = us; dots = d })
some_rest us t ts true = left_text (mark_then comma (λ c _. then_text (spaced dots) (λ r i. refl) (λ d _. last_text close_round (λ c2 _. refl))))
some_rest us t ts false = right_text (last_text close_round (λ c2 _. refl))

rest_fits : (t : Ty) (ts : List Ty) (d : Bool) → Fits stops (dots_text d (t ∷ ts) ++ codes ")") stops
rest_fits t ts true r i = refl
rest_fits t ts false r i = refl

written_row : (ts : List Ty) (d : Bool) → Every (TypeAgain NESTING_LIMIT) ts → WrittenAgain (record { types = ts; dots = d })
written_row [] true h = mark_then open_round (λ b _. left_text (then_text dots (λ r i. refl) (λ d _. last_text close_round (λ c _. refl))))
written_row [] false h = mark_then open_round (λ b _. right_text (right_text (right_text (last_text close_round (λ c _. refl)))))
written_row (t ∷ ts) d h = mark_then open_round (λ b _. right_text
    (left_text (then_text {h = written_rest} (separated_text type_text plain_type t ts h.0 h.1) (rest_fits t ts d)
    (λ us e. weaker (λ v x. ap plain_written x ∙ same_written us (t ∷ ts) d e) (some_rest us t ts d)))))

rest_yields : (ts : List Ty) → Every (TypeAgain NESTING_LIMIT) ts → Yields (written_rest ts) WrittenAgain
rest_yields ts h = yields_or (yields_then yields_one (λ c _. yields_then yields_one (λ d _. yields_then yields_one (λ c2 _. yields_give (written_row ts true h)))))
    (yields_then yields_one (λ c2 _. yields_give (written_row ts false h)))

written_yields : Yields written WrittenAgain
written_yields = yields_then yields_one (λ b _. yields_or (yields_then yields_one (λ d _. yields_then yields_one (λ c _. yields_give (written_row [] true tt))))
    (yields_or (yields_then {h = written_rest} (yields_separated (type_yields NESTING_LIMIT)) (λ ts h. rest_yields ts h)) (rest_yields [] tt)))

-- ---- arguments

abbrev ArgumentAgain : Typed → Type 1
ArgumentAgain t = Again stops argument (typed_text t) (λ u. plain_typed u ≡ plain_typed t)

argument_row : (t : Ty) (v : Val) → TypeAgain NESTING_LIMIT t → ValueAgain NESTING_LIMIT v → ArgumentAgain (record { ty = t; value = v })
unfolding typed_text
argument_row t v e f = then_text e (λ r i. refl) (λ u x. no_attributes (last_text (spaced f) (λ w y. same_typed x y)))

argument_yields : Yields argument ArgumentAgain
argument_yields = yields_then (type_yields NESTING_LIMIT) (λ t x. attributes_then (yields_then (value_yields NESTING_LIMIT) (λ v y. yields_give (argument_row t v x y))))

arguments_row : (ts : List Typed) → Every ArgumentAgain ts → Again stops (listed CloseRound argument) (join_by typed_text (codes ", ") ts ++ codes ")")
    (λ us. map plain_typed us ≡ map plain_typed ts)
arguments_row [] h = left_text (last_text close_round (λ c _. refl))
arguments_row (t ∷ ts) h = right_text (then_text (separated_text typed_text plain_typed t ts h.0 h.1) (λ r i. refl) (λ us e. last_text close_round (λ c _. e)))

-- ---- calls

-- behind the types of a call
abbrev call_rest : Token → Ty → Option Written → Gram (Option Op)
call_rest o t w = ((dropped_callee then (λ u. give None)) or (callee o t w then (λ c. give (Some c)))) then (λ c. attributes then (λ u. give c))

abbrev arguments_rest : Token → Ty → Option Written → Token → List Typed → Gram (Option Op)
arguments_rest o t w f all = attributes then (λ u. give (Some (Call o.span t w (name_of f) all)))

abbrev Calls : Gram (Option Op) → Op → Type 1
Calls g p = Again stops g (op_text p) (λ q. plain_option plain_op q ≡ Some (plain_op p))

abbrev pub CallAgain : Option Op → Type 1
CallAgain None = Unit {1}
CallAgain (Some p) = Calls call p

call_end : (o : Token) (t u : Ty) (w v : Option Written) (f : Name) (all : List Typed) → plain_type u ≡ plain_type t → plain_option plain_written v ≡ plain_option plain_written w
    → IsNameText f.text → is_dropped f.text ≡ false → Every ArgumentAgain all
    → Again stops (call_rest o u v) (called_text f all) (λ q. plain_option plain_op q ≡ Some (Call nowhere (plain_type t) (plain_option plain_written w) (plain_name f) (map plain_typed all)))
unfolding called_text
call_end o t u w v f all x y h d k = right_text (left_text
    (then_text (spaced (callee_again f.text h d)) (λ r i. refl)
    (λ g z. mark_then open_round (λ b _. end_text {h = arguments_rest o u v g} (arguments_row all k) (λ us e. no_attributes (given (ap Some (same us g z e))))))))
  where
    same : (us : List Typed) (g : Token) → g.text ≡ f.text → map plain_typed us ≡ map plain_typed all
        → plain_op (Call o.span u v (name_of g) us) ≡ Call nowhere (plain_type t) (plain_option plain_written w) (plain_name f) (map plain_typed all)
    same us g z e = ap₃ (λ a b c. Call nowhere a b c (map plain_typed us)) x y (same_name z) ∙ ap (λ bs. Call nowhere (plain_type t) (plain_option plain_written w) (plain_name f) bs) e

abbrev WrittenOption : Option Written → Type 1
WrittenOption None = Unit {1}
WrittenOption (Some w) = WrittenAgain w

call_row : (s : Span) (t : Ty) (w : Option Written) (f : Name) (all : List Typed) → TypeAgain NESTING_LIMIT t → WrittenOption w → IsNameText f.text → is_dropped f.text ≡ false
    → Every ArgumentAgain all → Calls call (Call s t w f all)
unfolding op_text written_text called_text
call_row s t None f all e y h d k = left_text (then_text call_word (λ r i. refl)
    (λ o _. no_attributes (then_text (spaced e) (λ r i. refl) (λ u x. right_text (call_end o t u None None f all x refl h d k)))))
call_row s t (Some w) f all e y h d k = left_text (then_text call_word (λ r i. refl)
    (λ o _. no_attributes (then_text (spaced e) (λ r i. refl)
    (λ u x. left_text (then_text {h = λ v. call_rest o u (Some v)} (spaced y) (λ r i. refl) (λ v z. call_end o t u (Some w) (Some v) f all x (ap Some z) h d k))))))

end_yields : (o : Token) (t : Ty) (w : Option Written) → TypeAgain NESTING_LIMIT t → WrittenOption w → Yields (call_rest o t w) CallAgain
end_yields o t w x y = yields_or (yields_then yields_one (λ f _. yields_then yields_one (λ b _. yields_then (skip_yields INNER_NESTING_LIMIT CloseRound) (λ u _. attributes_then (yields_give tt)))))
    (yields_or (yields_then yields_one (λ f k. yields_then yields_one
    (λ b _. yields_then {h = arguments_rest o t w f} (yields_listed CloseRound argument_yields)
    (λ all z. attributes_then (yields_give (call_row o.span t w (name_of f) all x y k.formed.bytes (k.formed.kept k.class_is) z)))))) (yields_refused _ _))

head_yields : (o : Token) → Yields (attributes then (λ u. type_in NESTING_LIMIT then (λ t. ((written then (λ w. give (Some w))) or give None) then (λ w. call_rest o t w)))) CallAgain
head_yields o = attributes_then (yields_then (type_yields NESTING_LIMIT)
    (λ t x. yields_or (yields_then {h = λ w. call_rest o t (Some w)} written_yields (λ w y. end_yields o t (Some w) x y)) (end_yields o t None x tt)))

pub call_yields : Yields call CallAgain
call_yields = yields_or (yields_then yields_one (λ o _. head_yields o)) (yields_then yields_one (λ o _. yields_then yields_one (λ c _. head_yields o)))
