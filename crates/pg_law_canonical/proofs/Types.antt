-- Types are read again.
use Rattle.std.proofs.Common.{◌≡◌, ℕ, zero, suc, List, [], ◌∷◌, ◌++◌, refl, sym, ap, ap₂, ◌∙◌, append_assoc, true, flat_map, map, codes}
use Rattle.pg_num.specs.Decimal.{is_decimal}
use Rattle.pg_read_lex.specs.declared.token.Span.{Span}
use Rattle.pg_read_ast.specs.declared.names.Literal.{Literal}
use Rattle.pg_read_ast.specs.Syntax.{Ty, MoreTys, tys, Array, Struct, Named}
use Rattle.pg_read_ast.specs.Text.{type_text, fields_text, more_fields_text}
use Rattle.pg_read_grammar.specs.declared.class.Class.TheVariants.{CloseBrace}
use Rattle.pg_read_grammar.specs.Grammar.{simple_type, array_of, struct_of, listed, type_in, literal_of}
use Rattle.pg_law_canonical.specs.Spans.{nowhere, plain_type, plain_types}
use Rattle.pg_law_canonical.proofs.TokenTexts.{stops}
use Rattle.pg_law_canonical.proofs.ReadAgain.{Again, Every, then_text, last_text, left_text, right_text, text_as, spaced}
use Rattle.pg_law_canonical.proofs.CommaLists.{mark_then, separated_text}
use Rattle.pg_law_canonical.proofs.Tokens.{open_brace, close_brace, open_square, close_square, int_text, local_again}
use Rattle.pg_law_canonical.proofs.WordTexts.{i1_word, i8_word, i16_word, i32_word, i64_word, ptr_word, void_word, x_word}
use Rattle.pg_law_canonical.proofs.PieceYields.{Yields, yields_give, yields_one, yields_then, yields_or, yields_refused, yields_more, yields_listed}

abbrev pub TypeAgain : ℕ → Ty → Type 1
TypeAgain d t = Again stops (type_in d) (type_text t) (λ u. plain_type u ≡ plain_type t)

abbrev SimpleAgain : Ty → Type 1
SimpleAgain t = Again stops simple_type (type_text t) (λ u. plain_type u ≡ plain_type t)

simple_yields : Yields simple_type SimpleAgain
unfolding type_text
simple_yields =
    yields_or (yields_then yields_one (λ t k. yields_give (left_text (last_text i1_word (λ u e. refl)))))
    (yields_or (yields_then yields_one (λ t k. yields_give (right_text (left_text (last_text i8_word (λ u e. refl))))))
    (yields_or (yields_then yields_one (λ t k. yields_give (right_text (right_text (left_text (last_text i16_word (λ u e. refl)))))))
    (yields_or (yields_then yields_one (λ t k. yields_give (right_text (right_text (right_text (left_text (last_text i32_word (λ u e. refl))))))))
    (yields_or (yields_then yields_one (λ t k. yields_give (right_text (right_text (right_text (right_text (left_text (last_text i64_word (λ u e. refl)))))))))
    (yields_or (yields_then yields_one (λ t k. yields_give (right_text (right_text (right_text (right_text (right_text (left_text (last_text ptr_word (λ u e. refl))))))))))
    (yields_or (yields_then yields_one (λ t k. yields_give (right_text (right_text (right_text (right_text (right_text (right_text (left_text (last_text void_word (λ u e. refl)))))))))))
    (yields_then yields_one (λ t k. yields_give
    (right_text (right_text (right_text
    (right_text (right_text (right_text (right_text (last_text (local_again t.text k.formed.bytes) (λ u e. ap (λ w. Named (record { text = w; span = nowhere })) e)))))))))))))))))

array_again : (d : ℕ) (s : Span) (n : Literal) (t : Ty) → is_decimal n.text ≡ true → TypeAgain d t
    → Again stops (array_of (type_in d)) (type_text (Array s n t)) (λ u. plain_type u ≡ plain_type (Array s n t))
unfolding type_text
array_again d s n t h e = mark_then open_square (λ o _. then_text (int_text n.text h) (λ r i. refl)
    (λ m p. then_text (spaced x_word) (λ r i. refl) (λ x _. then_text (spaced e) (λ r i. refl) (λ u q.
    last_text close_square (λ c _. ap₂ (λ w v. Array nowhere (record { text = w; span = nowhere }) v) p q)))))

more_fields : (ts : List Ty) → more_fields_text (tys ts) ≡ flat_map (λ t. codes ", " ++ type_text t) ts
unfolding more_fields_text
more_fields [] = refl
more_fields (t ∷ ts) = ap (λ bs. codes ", " ++ (type_text t ++ bs)) (more_fields ts)

fields_again : (d : ℕ) (ts : List Ty) → Every (TypeAgain d) ts → Again stops (listed CloseBrace (type_in d)) (fields_text (tys ts)) (λ us. map plain_type us ≡ map plain_type ts)
unfolding fields_text
fields_again d [] h = left_text (last_text close_brace (λ c _. refl))
fields_again d (t ∷ ts) h = right_text (text_as
    (append_assoc (32 ∷ type_text t) (flat_map (λ u. codes ", " ++ type_text u) ts) (codes " }") ∙ ap (λ bs. codes " " ++ (type_text t ++ (bs ++ codes " }"))) (sym (more_fields ts)))
    (then_text (spaced (separated_text type_text plain_type t ts h.0 h.1)) (λ r i. refl) (λ us e. last_text (spaced close_brace) (λ c _. e))))

plain_tys : (ts : List Ty) → plain_types (tys ts) ≡ tys (map plain_type ts)
plain_tys [] = refl
plain_tys (t ∷ ts) = ap (λ us. MoreTys (plain_type t) us) (plain_tys ts)

struct_again : (d : ℕ) (s : Span) (ts : List Ty) → Every (TypeAgain d) ts
    → Again stops (struct_of (type_in d)) (type_text (Struct s (tys ts))) (λ u. plain_type u ≡ plain_type (Struct s (tys ts)))
unfolding type_text
struct_again d s ts h = mark_then open_brace (λ o _. last_text {f = λ us. Struct o.span (tys us)} (fields_again d ts h)
    (λ us e. ap (λ vs. Struct nowhere vs) (plain_tys us ∙ ap tys e ∙ sym (plain_tys ts))))

pub type_yields : (d : ℕ) → Yields (type_in d) (TypeAgain d)
unfolding type_in
type_yields zero = yields_or (yields_or (yields_more (λ t e. left_text (left_text e)) simple_yields) (yields_refused _ _)) (yields_refused _ _)
type_yields (suc d) = yields_or (yields_or
    (yields_then yields_one (λ o _. yields_then yields_one
    (λ n k. yields_then yields_one (λ x _. yields_then (type_yields d)
    (λ t e. yields_then yields_one (λ c _. yields_give (left_text (left_text (array_again d o.span (literal_of n) t (k.formed.decimal k.class_is) e)))))))))
    (yields_or (yields_then yields_one (λ o _. yields_then (yields_listed CloseBrace (type_yields d)) (λ ts h. yields_give (left_text (right_text (left_text (struct_again d o.span ts h)))))))
    (yields_more (λ t e. left_text (right_text (right_text e))) simple_yields))) (yields_refused _ _)
