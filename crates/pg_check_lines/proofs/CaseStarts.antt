-- Where the cases of a switch begin, by their numbers.
use Rattle.std.proofs.Common.{◌≡◌, ℕ, zero, suc, ◌+◌, ◌<◌, ◌≤◌, nat_lt, Bool, true, false, cond, ◌&&◌, ◌||◌, List, [], ◌∷◌, ◌++◌, length, map, take}
use Rattle.std.proofs.Common.{drop, get_or, Option, Some, None, refl, sym, ap, ◌∙◌, arith}
use Rattle.std.specs.List.{flat_map, list_any}
use Rattle.pg_read_lex.specs.declared.token.Span.{Span}
use Rattle.pg_read_ast.specs.Syntax.{Case}
use Rattle.pg_check_types.specs.Resolved.{ResolvedType}
use Rattle.pg_check_rules.specs.Conditions.{at_if}
use Rattle.pg_check_rules.specs.Earliest.{earlier, earliest}
use Rattle.pg_check_rules.specs.LineConditions.{same_number, repeats, repeated_case}
use Rattle.pg_check_rules.specs.Starts.{noted_start, is_before}
use Rattle.pg_check_rules.specs.Places.{val_span}
use Rattle.pg_check_rules.proofs.Doubles.{min_before, or_again, or_false}
use Rattle.pg_check_rules.proofs.Rows.{row_step}
use Rattle.pg_check_lines.specs.declared.cases.CasePlace.{CasePlace}
use Rattle.pg_check_lines.specs.Cases.{case_place, repeated, starts_behind, start_by}

pub not_noted : (known : Option ℕ) (start : ℕ) → noted_start known false start ≡ known
not_noted None start = refl
not_noted (Some p) start = refl

-- one case more
pub starts_step : (known : Option ℕ) (cs : List CasePlace) (i : ℕ) (c : CasePlace) (n : ℕ) → i < length cs → c ≡ get_or cs i c
    → starts_behind (noted_start known (same_number c.number (Some n)) c.span.start) (drop (i + 1) cs) n ≡ starts_behind known (drop i cs) n
unfolding starts_behind
starts_step known [] i c n l e = absurd (omega (arith, l))
starts_step known (d ∷ cs) zero c n l e = ap (λ (x : CasePlace). starts_behind (noted_start known (same_number x.number (Some n)) x.span.start) cs n) e
starts_step known (d ∷ cs) (suc i) c n l e =
    let s : suc i + 1 ≡ suc (i + 1) = omega arith in
    ap (λ k. starts_behind (noted_start known (same_number c.number (Some n)) c.span.start) (drop k (d ∷ cs)) n) s
    ∙ starts_step known cs i c n (omega (arith, l)) e

-- no case left
pub starts_done : (known : Option ℕ) (cs : List CasePlace) (i : ℕ) (n : ℕ) → length cs ≤ i → starts_behind known (drop i cs) n ≡ known
unfolding starts_behind
starts_done known [] zero n l = refl
starts_done known [] (suc i) n l = refl
starts_done known (d ∷ cs) zero n l = absurd (omega (arith, l))
starts_done known (d ∷ cs) (suc i) n l = starts_done known cs i n (omega (arith, l))

is_before_any : (known : Option ℕ) (all : List CasePlace) (n place : ℕ)
    → is_before (starts_behind known all n) place ≡ (is_before known place || list_any (λ (o : CasePlace). same_number o.number (Some n) && nat_lt o.span.start place) all)
unfolding starts_behind
is_before_any known [] n place = or_false (is_before known place)
is_before_any known (c ∷ cs) n place =
    is_before_any (noted_start known (same_number c.number (Some n)) c.span.start) cs n place
    ∙ by known (same_number c.number (Some n)) (list_any (λ (o : CasePlace). same_number o.number (Some n) && nat_lt o.span.start place) cs)
  where
    by : (known : Option ℕ) (same rest : Bool) → (is_before (noted_start known same c.span.start) place || rest) ≡ (is_before known place || ((same && nat_lt c.span.start place) || rest))
    by None true rest = refl
    by None false rest = refl
    by (Some p) true rest = ap (λ b. b || rest) (min_before p c.span.start place) ∙ or_again (nat_lt p place) (nat_lt c.span.start place) rest
    by (Some p) false rest = refl

-- a case without a number is equal to none
never_same : (o : Option ℕ) → false ≡ same_number o None
never_same None = refl
never_same (Some n) = refl

never : (all : List CasePlace) (place : ℕ) → false ≡ list_any (λ (o : CasePlace). same_number o.number None && nat_lt o.span.start place) all
never [] place = refl
never (c ∷ cs) place = never cs place ∙ ap (λ b. (b && nat_lt c.span.start place) || list_any (λ (o : CasePlace). same_number o.number None && nat_lt o.span.start place) cs)
    (never_same c.number)

-- another of a case's number is before it
pub repeated_is : (all : List CasePlace) (c : CasePlace) (starts : ℕ → Option ℕ) (known : Option ℕ) (test : Bool) (o : Option Span) → ((n : ℕ) → starts n ≡ starts_behind None all n)
    → known ≡ start_by starts c.number → test ≡ is_before known c.span.start → o ≡ earliest (at_if test c.span) → o ≡ earliest (repeated all c)
repeated_is all c starts known test o s k t e = e ∙ by test ∙ ap (λ b. earliest (cond b (c.span ∷ []) [])) (t ∙ ap (λ x. is_before x c.span.start) k ∙ among c.number)
  where
    by : (b : Bool) → earliest (at_if b c.span) ≡ earliest (cond b (c.span ∷ []) [])
    by true = refl
    by false = refl

    among : (number : Option ℕ) → is_before (start_by starts number) c.span.start ≡ list_any (λ (o : CasePlace). same_number o.number number && nat_lt o.span.start c.span.start) all
    among None = never all c.span.start
    among (Some n) = ap (λ x. is_before x c.span.start) (s n) ∙ is_before_any None all n c.span.start

any_place : (t : Option ResolvedType) (all : List Case) (c : Case)
    → list_any (λ (o : CasePlace). same_number o.number (case_place t c).number && nat_lt o.span.start (case_place t c).span.start) (map (case_place t) all)
    ≡ list_any (λ (o : Case). repeats t o c) all
any_place t [] c = refl
any_place t (o ∷ os) c = ap (λ b. repeats t o c || b) (any_place t os c)

-- the cases as they are written
pub cases_are : (t : Option ResolvedType) (all rest : List Case) → flat_map (repeated (map (case_place t) all)) (map (case_place t) rest) ≡ flat_map (repeated_case t all) rest
cases_are t all [] = refl
cases_are t all (c ∷ cs) =
    ap (λ b. cond b (val_span c.value.value ∷ []) [] ++ flat_map (repeated (map (case_place t) all)) (map (case_place t) cs)) (any_place t all c)
    ∙ ap (λ xs. repeated_case t all c ++ xs) (cases_are t all cs)

same_list : {X : Type 0} (xs : List X) → map (λ x. x) xs ≡ xs
same_list [] = refl
same_list (x ∷ xs) = ap (λ ys. x ∷ ys) (same_list xs)

-- one case more
pub place_step : (row : CasePlace → List Span) (cs : List CasePlace) (i : ℕ) (c : CasePlace) (found own all : Option Span) → i < length cs → c ≡ get_or cs i c
    → found ≡ earliest (flat_map row (take i cs)) → own ≡ earliest (row c) → all ≡ earlier found own → all ≡ earliest (flat_map row (take (i + 1) cs))
place_step row cs i c found own all l e a b h =
    row_step row (λ x. x) cs i c c found own all l e (a ∙ ap (λ xs. earliest (flat_map row xs)) (sym (same_list (take i cs)))) b h
    ∙ ap (λ xs. earliest (flat_map row xs)) (same_list (take (i + 1) cs))

-- the same, where the case is read from the list
same_place : (cs : List CasePlace) (i : ℕ) (d : CasePlace) → i < length cs → get_or cs i d ≡ get_or cs i (get_or cs i d)
same_place [] i d l = absurd (omega (arith, l))
same_place (c ∷ cs) zero d l = refl
same_place (c ∷ cs) (suc i) d l = same_place cs i d (omega (arith, l))

pub starts_at : (known : Option ℕ) (cs : List CasePlace) (i : ℕ) (d : CasePlace) (n : ℕ) → i < length cs
    → starts_behind (noted_start known (same_number (get_or cs i d).number (Some n)) (get_or cs i d).span.start) (drop (i + 1) cs) n ≡ starts_behind known (drop i cs) n
starts_at known cs i d n l = starts_step known cs i (get_or cs i d) n l (same_place cs i d l)

pub place_at : (row : CasePlace → List Span) (cs : List CasePlace) (i : ℕ) (d : CasePlace) (found own all : Option Span) → i < length cs
    → found ≡ earliest (flat_map row (take i cs)) → own ≡ earliest (row (get_or cs i d)) → all ≡ earlier found own → all ≡ earliest (flat_map row (take (i + 1) cs))
place_at row cs i d found own all l a b h = place_step row cs i (get_or cs i d) found own all l (same_place cs i d l) a b h
