-- Operations are read again.
use Rattle.std.proofs.Common.{◌≡◌, ℕ, List, [], ◌∷◌, ◌++◌, refl, sym, ap, ap₂, ◌∙◌, append_assoc, Some, None, Bool, true, flat_map, codes}
use Rattle.std.specs.List.{list_all}
use Rattle.pg_num.specs.Decimal.{is_decimal}
use Rattle.pg_num.specs.declared.limits.TheConstants.{NESTING_LIMIT}
use Rattle.pg_read_lex.specs.declared.token.Span.{Span}
use Rattle.pg_read_ast.specs.declared.names.Name.{Name}
use Rattle.pg_read_ast.specs.declared.names.Literal.{Literal}
use Rattle.pg_read_ast.specs.declared.ops.BinaryOp.{BinaryOp}
use Rattle.pg_num.specs.declared.operations.Compare.{Compare}
use Rattle.pg_read_ast.specs.declared.ops.CastOp.{CastOp}
use Rattle.pg_read_ast.specs.Syntax.{Ty, Val, Typed, Op, Binary, Icmp, Cast, Select, Phi, Br, CondBr, Switch, RetVoid, Ret, Unreachable, Alloca, Load, Store, GetElementPtr, Incoming, Case}
use Rattle.pg_read_ast.specs.Text.{type_text, val_text, typed_text, gep_text, op_text, pair_text, cast_text, phi_text, switch_text, gep_op_text, label_text, incoming_text, case_text}
use Rattle.pg_read_grammar.specs.declared.token.Token.{Token}
use Rattle.pg_read_grammar.specs.declared.class.Class.TheVariants.{Comma}
use Rattle.pg_read_grammar.specs.Classes.{is}
use Rattle.pg_read_grammar.specs.Language.{Gram, give, one, many}
use Rattle.pg_read_grammar.specs.Language.{◌>>=◌ as ◌then◌}
use Rattle.pg_read_grammar.specs.Grammar.{name_of}
use Rattle.pg_read_grammar.specs.GrammarOps.{typed_value, binary, icmp, cast, select, incoming, phi, branch, case_of, switch, return, unreachable, alloca, load, store, gep}
use Rattle.pg_law_canonical.specs.Spans.{nowhere, plain_typed, plain_incoming, plain_case, plain_op}
use Rattle.pg_law_canonical.proofs.TokenTexts.{stops}
use Rattle.pg_law_canonical.proofs.Names.{is_byte}
use Rattle.pg_law_canonical.proofs.ReadAgain.{Again, Every, given, then_text, last_text, left_text, right_text, text_as, spaced, many_text}
use Rattle.pg_law_canonical.proofs.CommaLists.{mark_then, end_text, commas_text, commas_fit}
use Rattle.pg_law_canonical.proofs.Tokens.{open_square, close_square, comma, int_text, local_again}
use Rattle.pg_law_canonical.proofs.WordTexts.{binary_again, predicate_again, cast_again, icmp_word, select_word, phi_word, br_word, switch_word, label_word, ret_word, void_word}
use Rattle.pg_law_canonical.proofs.WordTexts.{unreachable_word, alloca_word, load_word, store_word, getelementptr_word, to_word}
use Rattle.pg_law_canonical.proofs.PieceYields.{Yields, yields_give, yields_one, yields_then}
use Rattle.pg_law_canonical.proofs.Types.{TypeAgain, type_yields}
use Rattle.pg_law_canonical.proofs.Values.{ap₃, ValueAgain, TypedAgain, value_yields}
use Rattle.pg_law_canonical.proofs.LeftOutParts.{no_flags}

-- ---- values with their types

-- the parts of a value with its type
pub record AreParts (t : Typed) : Type 1 where
  pub ty : TypeAgain NESTING_LIMIT t.ty
  pub value : ValueAgain NESTING_LIMIT t.value

pub in_two : {A : Type 0} {before : List ℕ → Bool} {g : Gram A} {Q : A → Type 0} (text value more : List ℕ) → Again before g (text ++ ((32 ∷ value) ++ more)) Q
    → Again before g ((text ++ (32 ∷ value)) ++ more) Q
in_two text value more e = text_as (sym (append_assoc text (32 ∷ value) more)) e

pub same_typed : {t u : Ty} {v w : Val} → t ≡ u → v ≡ w → ◌≡◌ {A = Typed} (record { ty = t; value = v }) (record { ty = u; value = w })
same_typed p q = ap₂ (λ (a : Ty) (b : Val). let x : Typed = record { ty = a; value = b } in x) p q

abbrev pub IsNameText : List ℕ → Type 0
IsNameText s = list_all is_byte s ≡ true

pub same_name : {t : List ℕ} {u : List ℕ} → t ≡ u → ◌≡◌ {A = Name} (record { text = t; span = nowhere }) (record { text = u; span = nowhere })
same_name e = ap (λ (w : List ℕ). let n : Name = record { text = w; span = nowhere } in n) e

ap₄ : {A B C D E : Type 0} (f : A → B → C → D → E) {a a' : A} {b b' : B} {c c' : C} {d d' : D} → a ≡ a' → b ≡ b' → c ≡ c' → d ≡ d' → f a b c d ≡ f a' b' c' d'
ap₄ f {a} {a'} {b} {b'} {c} {c'} {d} {d'} p q r s = ap₃ (λ x y z. f x y z d) p q r ∙ ap (λ w. f a' b' c' w) s

abbrev pub Reads : Gram Op → Op → Type 1
Reads g o = Again stops g (op_text o) (λ p. plain_op p ≡ plain_op o)

-- ---- numbers

pub binary_row : (s : Span) (op : BinaryOp) (t : Ty) (a b : Val) → TypeAgain NESTING_LIMIT t → ValueAgain NESTING_LIMIT a → ValueAgain NESTING_LIMIT b → Reads binary (Binary s op t a b)
unfolding op_text typed_text pair_text
binary_row s op t a b e f k = then_text (binary_again op) (λ r i. refl)
    (λ o x. no_flags (then_text (spaced e) (λ r i. refl) (λ t2 y. then_text (spaced f) (λ r i. refl)
    (λ a2 z. mark_then comma (λ c _. last_text (spaced k) (λ b2 w. ap₄ (λ o t a b. Binary nowhere o t a b) x y z w))))))

pub icmp_row : (s : Span) (op : Compare) (t : Ty) (a b : Val) → TypeAgain NESTING_LIMIT t → ValueAgain NESTING_LIMIT a → ValueAgain NESTING_LIMIT b → Reads icmp (Icmp s op t a b)
unfolding op_text typed_text pair_text
icmp_row s op t a b e f k =
    then_text icmp_word (λ r i. refl) (λ o _. no_flags
    (then_text (spaced (predicate_again op)) (λ r i. refl)
    (λ p x. then_text (spaced e) (λ r i. refl) (λ t2 y. then_text (spaced f) (λ r i. refl)
    (λ a2 z. mark_then comma (λ c _. last_text (spaced k) (λ b2 w. ap₄ (λ o t a b. Icmp nowhere o t a b) x y z w)))))))

pub cast_row : (s : Span) (op : CastOp) (v : Typed) (t : Ty) → AreParts v → TypeAgain NESTING_LIMIT t → Reads cast (Cast s op v t)
unfolding op_text typed_text cast_text
cast_row s op v t e f =
    then_text (cast_again op) (λ r i. refl) (λ o x. no_flags
    (in_two (32 ∷ type_text v.ty) (val_text v.value) _ (then_text (spaced e.ty) (λ r i. refl)
    (λ t1 p1. then_text (spaced e.value) (λ r i. refl) (λ v1 q1. then_text (spaced to_word) (λ r i. refl)
    (λ c _. last_text (spaced f) (λ t2 z. ap₃ (λ o v t. Cast nowhere o v t) x (same_typed p1 q1) z)))))))

pub select_row : (s : Span) (c a b : Typed) → AreParts c → AreParts a → AreParts b → Reads select (Select s c a b)
unfolding op_text typed_text
select_row s c a b e f k =
    then_text select_word (λ r i. refl) (λ o _. in_two (32 ∷ type_text c.ty) (val_text c.value) _
    (then_text (spaced e.ty) (λ r i. refl) (λ t1 p1. then_text (spaced e.value) (λ r i. refl)
    (λ v1 q1. mark_then comma (λ m _. in_two (32 ∷ type_text a.ty) (val_text a.value) _
    (then_text (spaced f.ty) (λ r i. refl) (λ t2 p2. then_text (spaced f.value) (λ r i. refl)
    (λ v2 q2. mark_then comma (λ m2 _. then_text (spaced k.ty) (λ r i. refl)
    (λ t3 p3. last_text (spaced k.value) (λ v3 q3. ap₃ (λ c a b. Select nowhere c a b) (same_typed p1 q1) (same_typed p2 q2) (same_typed p3 q3))))))))))))

-- ---- the way through the blocks

abbrev pub IncomingAgain : Incoming → Type 1
IncomingAgain i = Again stops incoming (incoming_text i) (λ j. plain_incoming j ≡ plain_incoming i)

incoming_row : (v : Val) (b : Name) → ValueAgain NESTING_LIMIT v → IsNameText b.text → IncomingAgain (record { value = v; block = b })
unfolding incoming_text
incoming_row v b e h = mark_then open_square (λ o _. then_text (spaced e) (λ r i. refl)
    (λ v2 x. mark_then comma (λ c _. then_text (spaced (local_again b.text h)) (λ r i. refl)
    (λ n y. last_text (spaced close_square) (λ c _. ap₂ (λ a (w : List ℕ). record { value = a; block = record { text = w; span = nowhere } }) x y)))))

pub incoming_yields : Yields incoming IncomingAgain
incoming_yields = yields_then yields_one (λ o _. yields_then (value_yields NESTING_LIMIT)
    (λ v x. yields_then yields_one (λ c _. yields_then yields_one (λ n k. yields_then yields_one (λ c _. yields_give (incoming_row v (name_of n) x k.formed.bytes))))))

abbrev pub phi_rest : Token → Ty → Incoming → Gram Op
phi_rest o t i = many (one (is Comma) then (λ c. incoming)) then (λ more. give (Phi o.span t i more))

pub phi_row : (s : Span) (t : Ty) (i : Incoming) (all : List Incoming) → TypeAgain NESTING_LIMIT t → IncomingAgain i → Every IncomingAgain all → Reads phi (Phi s t i all)
unfolding op_text typed_text phi_text
phi_row s t i all e f h =
    then_text phi_word (λ r i. refl) (λ o _. then_text (spaced e) (λ r i. refl)
    (λ t2 x. then_text {h = phi_rest o t2} (spaced f) (commas_fit incoming_text all)
    (λ j y. last_text (commas_text incoming incoming_text plain_incoming all h) (λ js z. ap₃ (λ t i all. Phi nowhere t i all) x y z))))

pub br_row : (s : Span) (b : Name) → IsNameText b.text → Reads branch (Br s b)
unfolding op_text typed_text label_text
br_row s b h = then_text br_word (λ r i. refl) (λ o _. left_text
    (then_text (spaced label_word) (λ r i. refl) (λ l _. last_text (spaced (local_again b.text h)) (λ t e. ap (λ n. Br nowhere n) (same_name e)))))

pub cond_row : (s : Span) (c : Typed) (a b : Name) → AreParts c → IsNameText a.text → IsNameText b.text → Reads branch (CondBr s c a b)
unfolding op_text typed_text label_text
cond_row s c a b e h k = then_text br_word (λ r i. refl) (λ o _. right_text
    (in_two (32 ∷ type_text c.ty) (val_text c.value) _ (then_text (spaced e.ty) (λ r i. refl)
    (λ t1 p1. then_text (spaced e.value) (λ r i. refl) (λ v1 q1. mark_then comma
    (λ m _. then_text (spaced label_word) (λ r i. refl) (λ l _. then_text (spaced (local_again a.text h)) (λ r i. refl)
    (λ a2 y. mark_then comma (λ m2 _. then_text (spaced label_word) (λ r i. refl)
    (λ l2 _. last_text (spaced (local_again b.text k)) (λ b2 z. ap₃ (λ c a b. CondBr nowhere c a b) (same_typed p1 q1) (same_name y) (same_name z))))))))))))

abbrev pub CaseAgain : Case → Type 1
CaseAgain i = Again stops case_of (case_text i) (λ j. plain_case j ≡ plain_case i)

case_row : (v : Typed) (b : Name) → AreParts v → IsNameText b.text → CaseAgain (record { value = v; block = b })
unfolding case_text label_text typed_text
case_row v b e h = in_two (32 ∷ type_text v.ty) (val_text v.value) _
    (then_text (spaced e.ty) (λ r i. refl) (λ t1 p1. then_text (spaced e.value) (λ r i. refl)
    (λ v1 q1. mark_then comma (λ m _. then_text (spaced label_word) (λ r i. refl)
    (λ l _. last_text {f = λ n. record { value = record { ty = t1; value = v1 }; block = name_of n }} (spaced (local_again b.text h))
    (λ n y. ap₂ (λ (a : Typed) (w : List ℕ). record { value = a; block = record { text = w; span = nowhere } }) (same_typed p1 q1) y))))))

pub case_yields : Yields case_of CaseAgain
case_yields = yields_then (type_yields NESTING_LIMIT) (λ t x. yields_then (value_yields NESTING_LIMIT)
    (λ v y. yields_then yields_one (λ m _. yields_then yields_one
    (λ l _. yields_then yields_one (λ n k. yields_give (case_row (record { ty = t; value = v }) (name_of n) (record { ty = x; value = y }) k.formed.bytes))))))

cases_before : (all : List Case) (r : List ℕ) → stops ((flat_map case_text all ++ codes " ]") ++ r) ≡ true
unfolding case_text
cases_before [] r = refl
cases_before (i ∷ all) r = refl

case_head : (i : Case) (rest : List ℕ) → stops (case_text i ++ rest) ≡ true
unfolding case_text
case_head i rest = refl

pub switch_row : (s : Span) (v : Typed) (b : Name) (all : List Case) → AreParts v → IsNameText b.text → Every CaseAgain all → Reads switch (Switch s v b all)
unfolding op_text typed_text switch_text label_text
switch_row s v b all e h k =
    then_text switch_word (λ r i. refl) (λ o _. in_two (32 ∷ type_text v.ty) (val_text v.value) _
    (then_text (spaced e.ty) (λ r i. refl) (λ t1 p1. then_text (spaced e.value) (λ r i. refl)
    (λ v1 q1. mark_then comma (λ m _. then_text (spaced label_word) (λ r i. refl)
    (λ l _. then_text (spaced (local_again b.text h)) (λ r i. refl)
    (λ n y. mark_then (spaced open_square) (λ q _. then_text (many_text case_of case_text plain_case all (λ i r _. case_head i r) k) (λ r i. refl)
    (λ js z. last_text (spaced close_square) (λ q2 _. ap₃ (λ v b all. Switch nowhere v b all) (same_typed p1 q1) (same_name y) z))))))))))

pub ret_void_row : (s v : Span) → Reads return (RetVoid s v)
unfolding op_text typed_text
ret_void_row s v = then_text ret_word (λ r i. refl) (λ o _. left_text (last_text (spaced void_word) (λ v2 _. refl)))

pub ret_row : (s : Span) (v : Typed) → AreParts v → Reads return (Ret s v)
unfolding op_text typed_text
ret_row s v e = then_text ret_word (λ r i. refl) (λ o _. right_text
    (then_text (spaced e.ty) (λ r i. refl) (λ t1 p1. last_text (spaced e.value) (λ v1 q1. ap (λ v. Ret nowhere v) (same_typed p1 q1)))))

pub unreachable_row : (s : Span) → Reads unreachable (Unreachable s)
unfolding op_text typed_text
unreachable_row s = last_text unreachable_word (λ o _. refl)

-- ---- memory

pub alloca_row : (s : Span) (t : Ty) → TypeAgain NESTING_LIMIT t → Reads alloca (Alloca s t None)
unfolding op_text typed_text
alloca_row s t e = then_text alloca_word (λ r i. refl) (λ o _. then_text (spaced e) (λ r i. i) (λ t2 x. right_text (right_text (given (ap (λ t. Alloca nowhere t None) x)))))

pub alloca_count_row : (s : Span) (t u : Ty) (n : Literal) → TypeAgain NESTING_LIMIT t → TypeAgain NESTING_LIMIT u → is_decimal n.text ≡ true
    → Reads alloca (Alloca s t (Some (record { ty = u; count = n })))
unfolding op_text typed_text
alloca_count_row s t u n e f h =
    then_text alloca_word (λ r i. refl) (λ o _. then_text (spaced e) (λ r i. refl)
    (λ t2 x. left_text (mark_then comma (λ m _. then_text (spaced f) (λ r i. refl)
    (λ u2 y. left_text (end_text (spaced (int_text n.text h))
    (λ n2 z. right_text (given (ap₃ (λ t u (w : List ℕ). Alloca nowhere t (Some (record { ty = u; count = record { text = w; span = nowhere } }))) x y z)))))))))

pub load_row : (s : Span) (t : Ty) (p : Typed) → TypeAgain NESTING_LIMIT t → AreParts p → Reads load (Load s t p)
unfolding op_text typed_text
load_row s t p e f = then_text load_word (λ r i. refl) (λ o _. right_text
    (then_text (spaced e) (λ r i. refl) (λ t2 x. mark_then comma
    (λ m _. then_text (spaced f.ty) (λ r i. refl) (λ t1 p1. end_text (spaced f.value) (λ v1 q1. right_text (given (ap₂ (λ t p. Load nowhere t p) x (same_typed p1 q1)))))))))

pub store_row : (s : Span) (v p : Typed) → AreParts v → AreParts p → Reads store (Store s v p)
unfolding op_text typed_text
store_row s v p e f = then_text store_word (λ r i. refl) (λ o _. right_text
    (in_two (32 ∷ type_text v.ty) (val_text v.value) _ (then_text (spaced e.ty) (λ r i. refl)
    (λ t1 p1. then_text (spaced e.value) (λ r i. refl) (λ v1 q1. mark_then comma
    (λ m _. then_text (spaced f.ty) (λ r i. refl) (λ t2 p2. end_text (spaced f.value) (λ v2 q2. right_text (given (ap₂ (λ v p. Store nowhere v p) (same_typed p1 q1) (same_typed p2 q2)))))))))))

pub gep_row : (s : Span) (t : Ty) (p : Typed) (all : List Typed) → TypeAgain NESTING_LIMIT t → AreParts p → Every (TypedAgain NESTING_LIMIT) all → Reads gep (GetElementPtr s t p all)
unfolding op_text typed_text gep_op_text gep_text
gep_row s t p all e f h =
    then_text getelementptr_word (λ r i. refl) (λ o _. no_flags
    (then_text (spaced e) (λ r i. refl) (λ t2 x. mark_then comma
    (λ m _. in_two (32 ∷ type_text p.ty) (val_text p.value) _
    (then_text (spaced f.ty) (λ r i. refl) (λ t1 p1. then_text (spaced f.value) (commas_fit typed_text all)
    (λ v1 q1. last_text (commas_text typed_value typed_text plain_typed all h) (λ us z. ap₃ (λ t p all. GetElementPtr nowhere t p all) x (same_typed p1 q1) z))))))))
