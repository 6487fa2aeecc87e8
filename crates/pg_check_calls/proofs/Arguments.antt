-- The arguments of a call, each with its parameter.
use Rattle.std.proofs.Common.{◌≡◌, ℕ, zero, suc, ◌+◌, ◌<◌, ◌≤◌, min, List, [], ◌∷◌, ◌++◌, length, map, take, drop, get_or, nat_lt, true, cond, Option, Some}
use Rattle.std.proofs.Common.{refl, sym, ap, ◌∙◌, arith}
use Rattle.std.specs.List.{flat_map}
use Rattle.std.proofs.lemmas.List.{length-map}
use Rattle.std.proofs.lemmas.Bool.Decides.{nat_tests}
use Rattle.pg_read_lex.specs.declared.token.Span.{Span}
use Rattle.pg_read_ast.specs.declared.names.Name.{Name}
use Rattle.pg_read_ast.specs.Syntax.{Ty, Typed, NamedType}
use Rattle.pg_check_types.specs.Resolved.{resolved}
use Rattle.pg_check_types.specs.Kinds.{is_as}
use Rattle.pg_check_rules.specs.Earliest.{earlier, earliest}
use Rattle.pg_check_rules.specs.Written.{asks_typed}
use Rattle.pg_check_rules.specs.TypeConditions.{unmet}
use Rattle.pg_check_rules.specs.CallConditions.{argument_demands, wrong_number}
use Rattle.pg_check_rules.specs.Places.{type_span}
use Rattle.pg_check_rules.proofs.Rows.{earliest_more}
use Rattle.pg_check_values.proofs.JoinedRows.{flat_more, one_row}

-- one argument at a place
pub argument_there : {X : Type 0} (f : X → Typed) (xs : List X) (i : ℕ) (x : X) → i < length xs → x ≡ get_or xs i x → f x ∷ [] ≡ take 1 (drop i (map f xs))
argument_there f [] i x l e = absurd (omega (arith, l))
argument_there f (y ∷ xs) zero x l e = ap (λ z. f z ∷ []) e
argument_there f (y ∷ xs) (suc i) x l e = argument_there f xs i x (omega (arith, l)) e

-- fewer arguments than parameters
pub too_few : {X Y : Type 0} (g : X → Ty) (h : Y → Typed) (ps : List X) (vs : List Y) (n : Name) → length vs < length ps → Some n.span ≡ earliest (wrong_number (map g ps) (map h vs) n)
unfolding earliest
too_few g h ps vs n l =
    let e : length (map h vs) ≡ length vs = length-map vs h in
    let f : length (map g ps) ≡ length ps = length-map ps g in
    let k : length (map h vs) < length (map g ps) = omega (arith, e, f, l) in
    let t : nat_lt (length (map h vs)) (length (map g ps)) ≡ true = grind (arith, nat_tests) in
    ap (λ b. earliest (cond b (n.span ∷ []) (map (λ (a : Typed). type_span a.ty) (take 1 (drop (length (map g ps)) (map h vs)))))) (sym t)

-- ---- each with its parameter

pub demands_more : {X Y : Type 0} (types : List NamedType) (g : X → Ty) (h : Y → Typed) (ps : List X) (vs : List Y) (i : ℕ) (p : X) (a : Y)
    → i < length ps → i < length vs → p ≡ get_or ps i p → a ≡ get_or vs i a
    → argument_demands types (map g (take (i + 1) ps)) (map h (take (i + 1) vs)) ≡ argument_demands types (map g (take i ps)) (map h (take i vs))
    ++ (asks_typed (is_as (resolved types (g p))) (h a) ∷ [])
demands_more types g h [] vs i p a k l d e = absurd (omega (arith, k))
demands_more types g h (q ∷ ps) [] i p a k l d e = absurd (omega (arith, l))
demands_more types g h (q ∷ ps) (b ∷ vs) zero p a k l d e =
    ap (λ x. asks_typed (is_as (resolved types (g x))) (h b) ∷ []) (sym d) ∙ ap (λ y. asks_typed (is_as (resolved types (g p))) (h y) ∷ []) (sym e)
demands_more types g h (q ∷ ps) (b ∷ vs) (suc i) p a k l d e =
    let s : suc i + 1 ≡ suc (i + 1) = omega arith in
    ap (λ n. argument_demands types (map g (take n (q ∷ ps))) (map h (take n (b ∷ vs)))) s
    ∙ ap (λ ds. asks_typed (is_as (resolved types (g q))) (h b) ∷ ds) (demands_more types g h ps vs i p a (omega (arith, k)) (omega (arith, l)) d e)

-- one argument more
pub demands_step : {X Y : Type 0} (types : List NamedType) (g : X → Ty) (h : Y → Typed) (ps : List X) (vs : List Y) (i : ℕ) (p : X) (a : Y) (found own all : Option Span)
    → i < length ps → i < length vs → p ≡ get_or ps i p → a ≡ get_or vs i a
    → found ≡ earliest (flat_map (unmet types) (argument_demands types (map g (take i ps)) (map h (take i vs))))
    → own ≡ earliest (unmet types (asks_typed (is_as (resolved types (g p))) (h a))) → all ≡ earlier found own
    → all ≡ earliest (flat_map (unmet types) (argument_demands types (map g (take (i + 1) ps)) (map h (take (i + 1) vs))))
demands_step types g h ps vs i p a found own all k l d e x y z =
    let front = argument_demands types (map g (take i ps)) (map h (take i vs)) in
    let last = asks_typed (is_as (resolved types (g p))) (h a) in
    z
    ∙ ap (λ o. earlier o own) x
    ∙ ap (λ o. earlier (earliest (flat_map (unmet types) front)) o) (y ∙ one_row (unmet types) last)
    ∙ sym (earliest_more (flat_map (unmet types) front) (flat_map (unmet types) (last ∷ [])))
    ∙ ap (λ ss. earliest ss) (sym (flat_more (unmet types) front (last ∷ [])))
    ∙ ap (λ ds. earliest (flat_map (unmet types) ds)) (sym (demands_more types g h ps vs i p a k l d e))

-- no argument is left, or no parameter
pub demands_whole : {X Y : Type 0} (types : List NamedType) (g : X → Ty) (h : Y → Typed) (ps : List X) (vs : List Y) (i : ℕ) → min (length ps) (length vs) ≤ i
    → argument_demands types (map g (take i ps)) (map h (take i vs)) ≡ argument_demands types (map g ps) (map h vs)
demands_whole types g h [] vs zero l = refl
demands_whole types g h [] vs (suc i) l = refl
demands_whole types g h (q ∷ ps) [] zero l = refl
demands_whole types g h (q ∷ ps) [] (suc i) l = refl
demands_whole types g h (q ∷ ps) (b ∷ vs) zero l = absurd (omega (arith, l))
demands_whole types g h (q ∷ ps) (b ∷ vs) (suc i) l =
    ap (λ ds. asks_typed (is_as (resolved types (g q))) (h b) ∷ ds) (demands_whole types g h ps vs i (omega (arith, l)))
