-- The path of indices, one after the other.
use Rattle.std.proofs.Common.{◌≡◌, ℕ, zero, suc, ◌+◌, ◌<◌, ◌≤◌, List, [], ◌∷◌, ◌++◌, length, map, drop, get_or, cond, is_some, Option, Some, None, ℤ, refl}
use Rattle.std.proofs.Common.{sym, ap, ◌∙◌, arith}
use Rattle.std.proofs.lemmas.List.{append-nil}
use Rattle.pg_read_lex.specs.declared.token.Span.{Span}
use Rattle.pg_read_ast.specs.declared.values.TypedVal.{TypedVal}
use Rattle.pg_read_ast.specs.Syntax.{Ty, Typed, NamedType}
use Rattle.pg_read_ast.specs.Views.{typed_of}
use Rattle.pg_check_types.specs.Resolved.{ResolvedType, IntegerType, PointerType, VoidType, ArrayType, NoFields, MoreFields, resolved}
use Rattle.pg_check_rules.specs.Earliest.{earlier, earliest}
use Rattle.pg_check_rules.specs.Integers.{index_number}
use Rattle.pg_check_rules.specs.ValueConditions.{field_at, wrong_field, wrong_steps, wrong_indices}
use Rattle.pg_check_rules.proofs.Rows.{earliest_more}
use Rattle.pg_check_rules.specs.Places.{type_span, val_span}
use Rattle.pg_check_rules.proofs.Rows.{earlier_again, earlier_none}
use Rattle.pg_check_values.specs.Steps.{refused_field, step_place, step_type, step_places}

-- one index more
pub step_more : (t u : Option ResolvedType) (ks : List (Option ℤ)) (is : List TypedVal) (n : ℕ) (k c : Option ℤ) (i d : TypedVal)
    → length ks ≡ length is → n < length is → k ≡ get_or ks n c → i ≡ get_or is n d → u ≡ step_type t k
    → step_places t (drop n ks) (map typed_of (drop n is)) ≡ step_place t k (typed_of i) ++ step_places u (drop (n + 1) ks) (map typed_of (drop (n + 1) is))
unfolding step_places
step_more t u [] [] n k c i d e l f g h = absurd (omega (arith, l))
step_more t u [] (j ∷ is) n k c i d e l f g h = absurd (omega (arith, e))
step_more t u (m ∷ ks) [] n k c i d e l f g h = absurd (omega (arith, l))
step_more t u (m ∷ ks) (j ∷ is) zero k c i d e l f g h =
    ap (λ x. step_place t x (typed_of j) ++ step_places (step_type t x) ks (map typed_of is)) (sym f)
    ∙ ap (λ x. step_place t k (typed_of x) ++ step_places (step_type t k) ks (map typed_of is)) (sym g)
    ∙ ap (λ x. step_place t k (typed_of i) ++ step_places x ks (map typed_of is)) (sym h)
step_more t u (m ∷ ks) (j ∷ is) (suc n) k c i d e l f g h =
    let s : suc n + 1 ≡ suc (n + 1) = omega arith in
    step_more t u ks is n k c i d (omega (arith, e)) (omega (arith, l)) f g h
    ∙ ap (λ x. step_place t k (typed_of i) ++ step_places u (drop x (m ∷ ks)) (map typed_of (drop x (j ∷ is)))) (sym s)

no_places : (t : Option ResolvedType) (ks : List (Option ℤ)) → step_places t ks [] ≡ []
unfolding step_places
no_places t [] = refl
no_places t (k ∷ ks) = refl

dropped : {X : Type 0} (xs : List X) (n : ℕ) → length xs ≤ n → drop n xs ≡ []
dropped [] zero l = refl
dropped [] (suc n) l = refl
dropped (x ∷ xs) zero l = absurd (omega (arith, l))
dropped (x ∷ xs) (suc n) l = dropped xs n (omega (arith, l))

-- no index left
pub step_end : (t : Option ResolvedType) (ks : List (Option ℤ)) (is : List TypedVal) (n : ℕ) (o : Option Span) → length is ≤ n
    → earlier o (earliest (step_places t (drop n ks) (map typed_of (drop n is)))) ≡ o
unfolding earliest
step_end t ks is n o l =
    ap (λ xs. earlier o (earliest (step_places t (drop n ks) (map typed_of xs)))) (dropped is n l)
    ∙ ap (λ xs. earlier o (earliest xs)) (no_places t (drop n ks))
    ∙ earlier_none o

-- one index more, by the places found before it
pub step_found : (t u : Option ResolvedType) (ks : List (Option ℤ)) (is : List TypedVal) (n : ℕ) (k c : Option ℤ) (i d : TypedVal) (found own all whole : Option Span)
    → length ks ≡ length is → n < length is → k ≡ get_or ks n c → i ≡ get_or is n d → u ≡ step_type t k
    → own ≡ earliest (step_place t k (typed_of i)) → all ≡ earlier found own
    → earlier found (earliest (step_places t (drop n ks) (map typed_of (drop n is)))) ≡ whole
    → earlier all (earliest (step_places u (drop (n + 1) ks) (map typed_of (drop (n + 1) is)))) ≡ whole
step_found t u ks is n k c i d found own all whole e l f g h a b w =
    let rest = step_places u (drop (n + 1) ks) (map typed_of (drop (n + 1) is)) in
    ap (λ o. earlier o (earliest rest)) (b ∙ ap (λ o. earlier found o) a)
    ∙ sym (earlier_again found (earliest (step_place t k (typed_of i))) (earliest rest))
    ∙ ap (λ o. earlier found o) (sym (earliest_more (step_place t k (typed_of i)) rest))
    ∙ ap (λ xs. earlier found (earliest xs)) (sym (step_more t u ks is n k c i d e l f g h))
    ∙ w

-- the definition over indices as they are written
field_refused : (types : List NamedType) (t : ResolvedType) (i : Typed) → wrong_field types t i ≡ refused_field (field_at t (index_number types i)) i
field_refused types t i = by (field_at t (index_number types i))
  where
    by : (o : Option ResolvedType) → cond (is_some o) [] (val_span i.value ∷ []) ≡ refused_field o i
    by None = refl
    by (Some u) = refl

stopped : (types : List NamedType) (is : List Typed) → wrong_steps types None is ≡ []
stopped types [] = refl
stopped types (i ∷ is) = refl

ended : (types : List NamedType) (is : List Typed) → step_places None (map (index_number types) is) is ≡ []
unfolding step_places
ended types [] = refl
ended types (i ∷ is) = ended types is

pub steps_written : (types : List NamedType) (t : Option ResolvedType) (is : List Typed) → step_places t (map (index_number types) is) is ≡ wrong_steps types t is
unfolding step_places
steps_written types t [] = refl
steps_written types None (i ∷ is) = ended types is
steps_written types (Some (IntegerType w)) (i ∷ is) = ap (λ xs. type_span i.ty ∷ xs) (ended types is)
steps_written types (Some PointerType) (i ∷ is) = ap (λ xs. type_span i.ty ∷ xs) (ended types is)
steps_written types (Some VoidType) (i ∷ is) = ap (λ xs. type_span i.ty ∷ xs) (ended types is)
steps_written types (Some (ArrayType n e)) (i ∷ is) = steps_written types (Some e) is
steps_written types (Some NoFields) (i ∷ is) =
    ap (λ xs. refused_field (field_at NoFields (index_number types i)) i ++ xs) (ended types is)
    ∙ append-nil (refused_field (field_at NoFields (index_number types i)) i)
    ∙ sym (field_refused types NoFields i)
steps_written types (Some (MoreFields s t)) (i ∷ is) =
    ap (λ xs. refused_field (field_at (MoreFields s t) (index_number types i)) i ++ xs) (steps_written types (field_at (MoreFields s t) (index_number types i)) is)
    ∙ ap (λ xs. xs ++ wrong_steps types (field_at (MoreFields s t) (index_number types i)) is) (sym (field_refused types (MoreFields s t) i))

pub indices_written : (types : List NamedType) (t : Ty) (is : List TypedVal)
    → step_places (resolved types t) (drop 1 (map (index_number types) (map typed_of is))) (map typed_of (drop 1 is)) ≡ wrong_indices types t (map typed_of is)
unfolding wrong_indices step_places
indices_written types t [] = refl
indices_written types t (i ∷ is) = steps_written types (resolved types t) (map typed_of is)

count : {X Y : Type 0} (f : X → Y) (xs : List X) → length (map f xs) ≡ length xs
count f [] = refl
count f (x ∷ xs) = ap (λ n. suc n) (count f xs)

pub number_count : (types : List NamedType) (is : List TypedVal) → length (map (index_number types) (map typed_of is)) ≡ length is
number_count types is = count (index_number types) (map typed_of is) ∙ count typed_of is

-- the places of a path that is known, as the definition has them
pub indices_found : (types : List NamedType) (ty : Ty) (is : List TypedVal) (ks : List (Option ℤ)) (t : Option ResolvedType) (o : Option Span)
    → o ≡ earliest (step_places t (drop 1 ks) (map typed_of (drop 1 is))) → ks ≡ map (index_number types) (map typed_of is) → t ≡ resolved types ty
    → o ≡ earliest (wrong_indices types ty (map typed_of is))
indices_found types ty is ks t o e k r =
    e
    ∙ ap (λ xs. earliest (step_places t (drop 1 xs) (map typed_of (drop 1 is)))) k
    ∙ ap (λ u. earliest (step_places u (drop 1 (map (index_number types) (map typed_of is))) (map typed_of (drop 1 is)))) r
    ∙ ap (λ xs. earliest xs) (indices_written types ty is)
