-- Values are read again.
use Rattle.std.proofs.Common.{◌≡◌, ℕ, zero, suc, List, [], ◌∷◌, ◌++◌, refl, sym, ap, ap₂, ◌∙◌, append_assoc, Bool, true, flat_map, map, codes}
use Rattle.pg_num.specs.Decimal.{is_decimal}
use Rattle.pg_read_lex.specs.declared.token.Span.{Span}
use Rattle.pg_read_ast.specs.declared.names.Literal.{Literal}
use Rattle.pg_read_ast.specs.Syntax.{Ty, Val, Int, Local, Global, GepVal, IntToPtrVal, MoreVals, Typed, vals}
use Rattle.pg_read_ast.specs.Text.{type_text, val_text, more_vals_text, typed_text, zero_text, gep_text, gep_head, int_to_ptr_text}
use Rattle.pg_read_grammar.specs.declared.class.Class.TheVariants.{Flag, Comma}
use Rattle.pg_read_grammar.specs.Classes.{is}
use Rattle.pg_read_grammar.specs.Language.{one}
use Rattle.pg_read_grammar.specs.Grammar.{flags, named_value, typed_in, gep_of, int_to_ptr_of, other_value_in, value_in, literal_of}
use Rattle.pg_read_grammar.specs.Grammar as grammar
use Rattle.pg_law_canonical.specs.Spans.{nowhere, plain_type, plain_value, plain_values, plain_typed}
use Rattle.pg_law_canonical.proofs.TokenTexts.{stops}
use Rattle.pg_law_canonical.proofs.ReadAgain.{Again, Every, then_text, last_text, left_text, right_text, text_as, spaced, none_text}
use Rattle.pg_law_canonical.proofs.CommaLists.{mark_then, no_text, commas_text}
use Rattle.pg_law_canonical.proofs.Tokens.{open_round, close_round, comma, int_text, local_again, global_again}
use Rattle.pg_law_canonical.proofs.WordTexts.{true_word, false_word, null_word, undef_word, poison_word, zeroinitializer_word, getelementptr_word, inttoptr_word, to_word}
use Rattle.pg_law_canonical.proofs.PieceYields.{Yields, yields_give, yields_one, yields_then, yields_or, yields_refused, yields_more, yields_many}
use Rattle.pg_law_canonical.proofs.Types.{TypeAgain, type_yields}

pub ap₃ : {A B C D : Type 0} (f : A → B → C → D) {a a' : A} {b b' : B} {c c' : C} → a ≡ a' → b ≡ b' → c ≡ c' → f a b c ≡ f a' b' c'
ap₃ f {a} {a'} {b} {b'} {c} {c'} p q r = ap₂ (λ x y. f x y c) p q ∙ ap (λ z. f a' b' z) r

abbrev pub ValueAgain : ℕ → Val → Type 1
ValueAgain d v = Again stops (value_in d) (val_text v) (λ u. plain_value u ≡ plain_value v)

abbrev pub TypedAgain : ℕ → Typed → Type 1
TypedAgain d t = Again stops (typed_in d (value_in d)) (typed_text t) (λ u. plain_typed u ≡ plain_typed t)

abbrev PlainAgain : Val → Type 1
PlainAgain v = Again stops grammar.plain_value (val_text v) (λ u. plain_value u ≡ plain_value v)

abbrev NamedAgain : Val → Type 1
NamedAgain v = Again stops named_value (val_text v) (λ u. plain_value u ≡ plain_value v)

abbrev OtherAgain : ℕ → Val → Type 1
OtherAgain d v = Again stops (other_value_in d) (val_text v) (λ u. plain_value u ≡ plain_value v)

plain_yields : Yields grammar.plain_value PlainAgain
unfolding val_text zero_text
plain_yields =
    yields_or (yields_then yields_one (λ t k. yields_give (left_text (last_text true_word (λ u e. refl)))))
    (yields_or (yields_then yields_one (λ t k. yields_give (right_text (left_text (last_text false_word (λ u e. refl))))))
    (yields_or (yields_then yields_one (λ t k. yields_give (right_text (right_text (left_text (last_text null_word (λ u e. refl)))))))
    (yields_or (yields_then yields_one (λ t k. yields_give (right_text (right_text (right_text (left_text (last_text undef_word (λ u e. refl))))))))
    (yields_or (yields_then yields_one (λ t k. yields_give (right_text (right_text (right_text (right_text (left_text (last_text poison_word (λ u e. refl)))))))))
    (yields_or (yields_then yields_one (λ t k. yields_give (right_text (right_text (right_text (right_text (right_text (left_text (last_text zeroinitializer_word (λ u e. refl))))))))))
    (yields_then yields_one (λ t k. yields_give
    (right_text (right_text (right_text
    (right_text (right_text (right_text (last_text (global_again t.text k.formed.bytes) (λ u e. ap (λ w. Global (record { text = w; span = nowhere })) e)))))))))))))))

named_yields : Yields named_value NamedAgain
unfolding val_text
named_yields = yields_or (yields_then yields_one
    (λ t k. yields_give (left_text (last_text (local_again t.text k.formed.bytes) (λ u e. ap (λ w. Local (record { text = w; span = nowhere })) e)))))
    (yields_more (λ v e. right_text e) plain_yields)

pub typed_again : (d : ℕ) (t : Ty) (v : Val) → TypeAgain d t → ValueAgain d v → TypedAgain d (record { ty = t; value = v })
unfolding typed_text
typed_again d t v e k = then_text e (λ r i. refl) (λ u p. last_text (spaced k) (λ w q. ap₂ (λ a b. record { ty = a; value = b }) p q))

-- no flags are written
pub flags_text : {before : List ℕ → Bool} → Again before flags [] (λ u. Unit {0})
flags_text {before} = last_text (none_text (one (is Flag))) (λ ys e. tt)

-- ---- constant instructions

more_values : (ts : List Typed) → more_vals_text (vals ts) ≡ flat_map (λ t. codes ", " ++ typed_text t) ts
unfolding more_vals_text typed_text
more_values [] = refl
more_values (t ∷ ts) = ap (λ bs. codes ", " ++ ((type_text t.ty ++ (codes " " ++ val_text t.value)) ++ bs)) (more_values ts)

plain_vals : (ts : List Typed) → plain_values (vals ts) ≡ vals (map plain_typed ts)
plain_vals [] = refl
plain_vals (t ∷ ts) = ap (λ us. MoreVals (plain_type t.ty) (plain_value t.value) us) (plain_vals ts)

pub commas_before : (ts : List Typed) (r : List ℕ) → stops ((flat_map (λ x. codes ", " ++ typed_text x) ts ++ codes ")") ++ r) ≡ true
commas_before [] r = refl
commas_before (t ∷ ts) r = refl

gep_texts : (a b v m : List ℕ) → codes "getelementptr" ++ (codes " (" ++ (a ++ (codes "," ++ ((32 ∷ b) ++ ((32 ∷ v) ++ (m ++ codes ")"))))))
    ≡ (codes "getelementptr " ++ (codes "(" ++ (a ++ (codes ", " ++ (b ++ codes " "))))) ++ (v ++ (m ++ codes ")"))
gep_texts a b v m = rw (append_assoc a (44 ∷ 32 ∷ (b ++ 32 ∷ [])) (v ++ (m ++ codes ")")), append_assoc b (32 ∷ []) (v ++ (m ++ codes ")"))) refl

gep_again : (d : ℕ) (s : Span) (t u : Ty) (v : Val) (ts : List Typed) → TypeAgain d t → TypeAgain d u → ValueAgain d v → Every (TypedAgain d) ts
    → Again stops (gep_of d (value_in d)) (val_text (GepVal s t u v (vals ts))) (λ w. plain_value w ≡ plain_value (GepVal s t u v (vals ts)))
unfolding val_text gep_head gep_text typed_text
gep_again d s t u v ts e f k h = text_as (gep_texts (type_text t) (type_text u) (val_text v) (flat_map (λ x. codes ", " ++ typed_text x) ts)
    ∙ ap (λ bs. gep_head t u ++ (val_text v ++ (bs ++ codes ")"))) (sym (more_values ts)))
    (then_text getelementptr_word (λ r i. refl) (λ o _. no_text (none_text (one (is Flag))) (λ r i. refl)
    (λ fs _. mark_then (spaced open_round) (λ b _. then_text e (λ r i. refl)
    (λ t2 x. mark_then comma (λ c _. then_text (spaced f) (λ r i. refl) (λ u2 y. then_text (spaced k) (λ r i. fits r) (λ v2 z.
    then_text (commas_text (typed_in d (value_in d)) typed_text plain_typed ts h) (λ r i. refl) (λ qs w. last_text close_round (λ c _. same t2 u2 v2 qs x y z w))))))))))
  where
    fits : (r : List ℕ) → stops ((flat_map (λ x. codes ", " ++ typed_text x) ts ++ codes ")") ++ r) ≡ true
    fits r = commas_before ts r

    same : (t2 u2 : Ty) (v2 : Val) (qs : List Typed) → plain_type t2 ≡ plain_type t → plain_type u2 ≡ plain_type u → plain_value v2 ≡ plain_value v
        → map plain_typed qs ≡ map plain_typed ts → plain_value (GepVal s t2 u2 v2 (vals qs)) ≡ plain_value (GepVal s t u v (vals ts))
    same t2 u2 v2 qs x y z w = ap (λ vs. GepVal nowhere (plain_type t2) (plain_type u2) (plain_value v2) vs) (plain_vals qs)
        ∙ ap₃ (λ a b c. GepVal nowhere a b c (vals (map plain_typed qs))) x y z ∙ ap (λ bs. GepVal nowhere (plain_type t) (plain_type u) (plain_value v) (vals bs)) w
        ∙ ap (λ vs. GepVal nowhere (plain_type t) (plain_type u) (plain_value v) vs) (sym (plain_vals ts))

int_to_ptr_again : (d : ℕ) (s : Span) (t : Ty) (n : Literal) (u : Ty) → TypeAgain d t → is_decimal n.text ≡ true → TypeAgain d u
    → Again stops (int_to_ptr_of d) (val_text (IntToPtrVal s t n u)) (λ v. plain_value v ≡ plain_value (IntToPtrVal s t n u))
unfolding val_text int_to_ptr_text
int_to_ptr_again d s t n u e h k = then_text inttoptr_word (λ r i. refl)
    (λ o _. mark_then (spaced open_round) (λ o _. then_text e (λ r i. refl)
    (λ v x. then_text (spaced (int_text n.text h)) (λ r i. refl) (λ m y. then_text (spaced to_word) (λ r i. refl) (λ w _. then_text (spaced k) (λ r i. refl) (λ w z.
    last_text close_round (λ c _. ap₃ (λ a b c. IntToPtrVal nowhere a (record { text = b; span = nowhere }) c) x y z)))))))

-- ---- values

typed_yields : (d : ℕ) → Yields (value_in d) (ValueAgain d) → Yields (typed_in d (value_in d)) (TypedAgain d)
typed_yields d e = yields_then (type_yields d) (λ t x. yields_then e (λ v y. yields_give (typed_again d t v x y)))

value_by : (d : ℕ) → Yields (other_value_in d) (OtherAgain d) → Yields (value_in d) (ValueAgain d)
unfolding val_text
value_by d e = yields_or (yields_then yields_one
    (λ n k. yields_give (left_text (last_text (int_text n.text (k.formed.decimal k.class_is)) (λ m x. ap (λ w. Int (record { text = w; span = nowhere })) x)))))
    (yields_more (λ v x. right_text x) e)

other_yields : (d : ℕ) → Yields (other_value_in d) (OtherAgain d)
unfolding other_value_in
other_yields zero = yields_or (yields_more (λ v e. left_text e) named_yields) (yields_refused _ _)
other_yields (suc d) = yields_or (yields_then yields_one
    (λ o _. yields_then (yields_many (yields_one {test = is Flag}))
    (λ fs _. yields_then yields_one (λ b _. yields_then (type_yields d)
    (λ t x. yields_then yields_one (λ c _. yields_then (type_yields d) (λ u y. yields_then (value_by d (other_yields d)) (λ v z.
    yields_then (yields_many (yields_then (yields_one {test = is Comma}) (λ c _. typed_yields d (value_by d (other_yields d)))))
    (λ ts w. yields_then yields_one (λ c _. yields_give (left_text (gep_again d o.span t u v ts x y z w))))))))))))
    (yields_or (yields_then yields_one (λ o _. yields_then yields_one
    (λ b _. yields_then (type_yields d) (λ t x. yields_then yields_one
    (λ n k. yields_then yields_one (λ w _. yields_then (type_yields d)
    (λ u z. yields_then yields_one (λ c _. yields_give (right_text (left_text (int_to_ptr_again d o.span t (literal_of n) u x (k.formed.decimal k.class_is) z)))))))))))
    (yields_more (λ v e. right_text (right_text e)) named_yields))

pub value_yields : (d : ℕ) → Yields (value_in d) (ValueAgain d)
value_yields d = value_by d (other_yields d)

pub typed_value_yields : (d : ℕ) → Yields (typed_in d (value_in d)) (TypedAgain d)
typed_value_yields d = typed_yields d (value_yields d)
