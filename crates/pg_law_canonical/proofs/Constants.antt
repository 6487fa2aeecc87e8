-- Constants are read again.
use Rattle.std.proofs.Common.{◌≡◌, ℕ, zero, suc, List, [], ◌∷◌, ◌++◌, refl, sym, ap, ap₂, ◌∙◌, flat_map, map, codes}
use Rattle.pg_read_lex.specs.declared.token.Span.{Span}
use Rattle.pg_read_ast.specs.Syntax.{Ty, Const, ValConst, BytesConst, ArrayConst, StructConst, MoreConsts, TypedC, consts}
use Rattle.pg_read_ast.specs.Text.{type_text, const_text, consts_text, more_consts_text, padding_text, typed_const_text}
use Rattle.pg_read_grammar.specs.declared.class.Class.TheVariants.{CloseBrace, CloseSquare}
use Rattle.pg_read_grammar.specs.Grammar.{listed, typed_const_in, array_const_of, struct_const_of, simple_const_in, const_in}
use Rattle.pg_law_canonical.specs.Spans.{nowhere, plain_type, plain_const, plain_consts}
use Rattle.pg_law_canonical.proofs.TokenTexts.{stops}
use Rattle.pg_law_canonical.proofs.ReadAgain.{Again, Every, then_text, last_text, left_text, right_text, text_as, spaced}
use Rattle.pg_law_canonical.proofs.CommaLists.{mark_then, separated_text}
use Rattle.pg_law_canonical.proofs.Tokens.{open_brace, close_brace, open_square, close_square, bytes_again}
use Rattle.pg_law_canonical.proofs.PieceYields.{Yields, yields_give, yields_one, yields_then, yields_or, yields_refused, yields_more, yields_listed}
use Rattle.pg_law_canonical.proofs.Types.{TypeAgain, type_yields}
use Rattle.pg_law_canonical.proofs.Values.{value_yields}

abbrev pub ConstAgain : ℕ → Const → Type 1
ConstAgain d c = Again stops (const_in d) (const_text c) (λ u. plain_const u ≡ plain_const c)

abbrev plain_typed_const : TypedC → TypedC
plain_typed_const t = record { ty = plain_type t.ty; value = plain_const t.value }

abbrev MemberAgain : ℕ → TypedC → Type 1
MemberAgain d t = Again stops (typed_const_in d (const_in d)) (typed_const_text t) (λ u. plain_typed_const u ≡ plain_typed_const t)

abbrev SimpleAgain : ℕ → Const → Type 1
SimpleAgain d c = Again stops (simple_const_in d) (const_text c) (λ u. plain_const u ≡ plain_const c)

simple_yields : (d : ℕ) → Yields (simple_const_in d) (SimpleAgain d)
unfolding const_text
simple_yields d = yields_or (yields_then yields_one
    (λ t k. yields_give (left_text (last_text (bytes_again t.text k.formed.bytes) (λ u e. ap (λ w. BytesConst (record { text = w; span = nowhere })) e)))))
    (yields_then (value_yields d) (λ v k. yields_give (right_text (last_text k (λ u e. ap ValConst e)))))

member_again : (d : ℕ) (t : Ty) (c : Const) → TypeAgain d t → ConstAgain d c → MemberAgain d (record { ty = t; value = c })
unfolding typed_const_text
member_again d t c e k = then_text e (λ r i. refl) (λ u p. last_text (spaced k) (λ w q. ap₂ (λ a b. record { ty = a; value = b }) p q))

more_members : (ts : List TypedC) → more_consts_text (consts ts) ≡ flat_map (λ t. codes ", " ++ typed_const_text t) ts
unfolding more_consts_text typed_const_text
more_members [] = refl
more_members (t ∷ ts) = ap (λ bs. codes ", " ++ ((type_text t.ty ++ (codes " " ++ const_text t.value)) ++ bs)) (more_members ts)

members : (t : TypedC) (ts : List TypedC) → typed_const_text t ++ flat_map (λ u. codes ", " ++ typed_const_text u) ts ≡ consts_text (consts (t ∷ ts))
unfolding consts_text typed_const_text
members t ts = ap (λ bs. (type_text t.ty ++ (codes " " ++ const_text t.value)) ++ bs) (sym (more_members ts))

plain_members : (ts : List TypedC) → plain_consts (consts ts) ≡ consts (map plain_typed_const ts)
plain_members [] = refl
plain_members (t ∷ ts) = ap (λ us. MoreConsts (plain_type t.ty) (plain_const t.value) us) (plain_members ts)

same_members : (us ts : List TypedC) → map plain_typed_const us ≡ map plain_typed_const ts → plain_consts (consts us) ≡ plain_consts (consts ts)
same_members us ts e = plain_members us ∙ ap consts e ∙ sym (plain_members ts)

listed_again : (d : ℕ) (ts : List TypedC) → Every (MemberAgain d) ts
    → Again stops (listed CloseSquare (typed_const_in d (const_in d))) (consts_text (consts ts) ++ codes "]") (λ us. map plain_typed_const us ≡ map plain_typed_const ts)
unfolding consts_text
listed_again d [] h = left_text (last_text close_square (λ c _. refl))
listed_again d (t ∷ ts) h = right_text (text_as (ap (λ bs. bs ++ codes "]") (members t ts))
    (then_text (separated_text typed_const_text plain_typed_const t ts h.0 h.1) (λ r i. refl) (λ us e. last_text close_square (λ c _. e))))

padded_again : (d : ℕ) (ts : List TypedC) → Every (MemberAgain d) ts
    → Again stops (listed CloseBrace (typed_const_in d (const_in d))) (padding_text (consts ts) ++ (consts_text (consts ts) ++ (padding_text (consts ts) ++ codes "}")))
    (λ us. map plain_typed_const us ≡ map plain_typed_const ts)
unfolding consts_text padding_text
padded_again d [] h = left_text (last_text close_brace (λ c _. refl))
padded_again d (t ∷ ts) h = right_text (text_as (ap (λ bs. codes " " ++ (bs ++ codes " }")) (members t ts))
    (then_text (spaced (separated_text typed_const_text plain_typed_const t ts h.0 h.1)) (λ r i. refl) (λ us e. last_text (spaced close_brace) (λ c _. e))))

array_again : (d : ℕ) (s : Span) (ts : List TypedC) → Every (MemberAgain d) ts
    → Again stops (array_const_of d (const_in d)) (const_text (ArrayConst s (consts ts))) (λ u. plain_const u ≡ plain_const (ArrayConst s (consts ts)))
unfolding const_text
array_again d s ts h = mark_then open_square (λ o _. last_text {f = λ us. ArrayConst o.span (consts us)} (listed_again d ts h) (λ us e. ap (λ vs. ArrayConst nowhere vs) (same_members us ts e)))

struct_again : (d : ℕ) (s : Span) (ts : List TypedC) → Every (MemberAgain d) ts
    → Again stops (struct_const_of d (const_in d)) (const_text (StructConst s (consts ts))) (λ u. plain_const u ≡ plain_const (StructConst s (consts ts)))
unfolding const_text
struct_again d s ts h = mark_then open_brace (λ o _. last_text {f = λ us. StructConst o.span (consts us)} (padded_again d ts h) (λ us e. ap (λ vs. StructConst nowhere vs) (same_members us ts e)))

member_yields : (d : ℕ) → Yields (const_in d) (ConstAgain d) → Yields (typed_const_in d (const_in d)) (MemberAgain d)
member_yields d e = yields_then (type_yields d) (λ t x. yields_then e (λ c y. yields_give (member_again d t c x y)))

pub const_yields : (d : ℕ) → Yields (const_in d) (ConstAgain d)
unfolding const_in
const_yields zero = yields_or (yields_more (λ c e. left_text e) (simple_yields zero)) (yields_refused _ _)
const_yields (suc d) = yields_or (yields_then yields_one
    (λ o _. yields_then (yields_listed CloseSquare (member_yields d (const_yields d))) (λ ts h. yields_give (left_text (array_again d o.span ts h)))))
    (yields_or (yields_then yields_one (λ o _. yields_then (yields_listed CloseBrace (member_yields d (const_yields d))) (λ ts h. yields_give (right_text (left_text (struct_again d o.span ts h))))))
    (yields_more (λ c e. right_text (right_text e)) (simple_yields (suc d))))
