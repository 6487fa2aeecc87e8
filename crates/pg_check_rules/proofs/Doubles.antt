-- Names that stand twice.
use Rattle.std.proofs.Common.{◌≡◌, ℕ, zero, suc, ◌+◌, ◌<◌, ◌≤◌, nat_lt, min, Bool, true, false, cond, ◌&&◌, ◌||◌, List, [], ◌∷◌, length, drop, get_or}
use Rattle.std.proofs.Common.{Option, Some, None, refl, ap, ◌∙◌, arith, Bor}
use Rattle.std.specs.List.{list_any}
use Rattle.std.specs.Str.{bytes_eq}
use Rattle.std.proofs.lemmas.Bool.Decides.{nat_tests}
use Rattle.pg_read_ast.specs.declared.names.Name.{Name}
use Rattle.pg_read_ast.specs.pg_read_lex.declared.token.Span.{Span}
use Rattle.pg_check_rules.specs.Names.{doubled}
use Rattle.pg_check_rules.specs.Conditions.{at_if}
use Rattle.pg_check_rules.specs.Earliest.{earliest}
use Rattle.pg_check_rules.specs.Starts.{names_behind, noted_start, starts_after, first_start, is_before}

-- a start that is put in
pub start_noted : (a b known : Option ℕ) (same : Bool) (start least : ℕ) → (same ≡ true → known ≡ a) → Some least ≡ noted_start known true start → b ≡ cond same (Some least) a
    → b ≡ noted_start a same start
start_noted a b known true start least n l e = e ∙ l ∙ ap (λ k. noted_start k true start) (n refl)
start_noted None b known false start least n l e = e
start_noted (Some p) b known false start least n l e = e

-- one name more
pub starts_step : (known : Option ℕ) (names : List (Bor Name)) (i : ℕ) (n d : Bor Name) (text : List ℕ) → i < length names → n ≡ get_or names i d
    → starts_after (noted_start known (bytes_eq n.now.text text) n.now.span.start) (names_behind (drop (i + 1) names)) text ≡ starts_after known (names_behind (drop i names)) text
unfolding starts_after
starts_step known [] i n d text l e = absurd (omega (arith, l))
starts_step known (m ∷ names) zero n d text l e = ap (λ x. starts_after (noted_start known (bytes_eq x.now.text text) x.now.span.start) (names_behind names) text) e
starts_step known (m ∷ names) (suc i) n d text l e =
    let s : suc i + 1 ≡ suc (i + 1) = omega arith in
    ap (λ k. starts_after (noted_start known (bytes_eq n.now.text text) n.now.span.start) (names_behind (drop k (m ∷ names))) text) s
    ∙ starts_step known names i n d text (omega (arith, l)) e

-- no name left
pub starts_done : (known : Option ℕ) (names : List (Bor Name)) (i : ℕ) (text : List ℕ) → length names ≤ i → starts_after known (names_behind (drop i names)) text ≡ known
unfolding starts_after
starts_done known [] zero text l = refl
starts_done known [] (suc i) text l = refl
starts_done known (m ∷ names) zero text l = absurd (omega (arith, l))
starts_done known (m ∷ names) (suc i) text l = starts_done known names i text (omega (arith, l))

pub min_before : (p s k : ℕ) → nat_lt (min p s) k ≡ (nat_lt p k || nat_lt s k)
min_before p s k = by (nat_lt p k) (nat_lt s k) (nat_lt (min p s) k) refl refl refl
  where
    by : (a b c : Bool) → nat_lt p k ≡ a → nat_lt s k ≡ b → nat_lt (min p s) k ≡ c → c ≡ (a || b)
    by true b true x y z = refl
    by true b false x y z = absurd (grind (arith, nat_tests))
    by false true true x y z = refl
    by false true false x y z = absurd (grind (arith, nat_tests))
    by false false true x y z = absurd (grind (arith, nat_tests))
    by false false false x y z = refl

pub or_false : (a : Bool) → a ≡ (a || false)
or_false true = refl
or_false false = refl

pub or_again : (a b c : Bool) → ((a || b) || c) ≡ (a || (b || c))
or_again true b c = refl
or_again false b c = refl

is_before_any : (known : Option ℕ) (all : List Name) (text : List ℕ) (place : ℕ)
    → is_before (starts_after known all text) place ≡ (is_before known place || list_any (λ (o : Name). bytes_eq o.text text && nat_lt o.span.start place) all)
unfolding starts_after
is_before_any known [] text place = or_false (is_before known place)
is_before_any known (n ∷ ns) text place =
    is_before_any (noted_start known (bytes_eq n.text text) n.span.start) ns text place
    ∙ by known (bytes_eq n.text text) (list_any (λ (o : Name). bytes_eq o.text text && nat_lt o.span.start place) ns)
  where
    by : (known : Option ℕ) (same rest : Bool) → (is_before (noted_start known same n.span.start) place || rest) ≡ (is_before known place || ((same && nat_lt n.span.start place) || rest))
    by None true rest = refl
    by None false rest = refl
    by (Some p) true rest = ap (λ b. b || rest) (min_before p n.span.start place) ∙ or_again (nat_lt p place) (nat_lt n.span.start place) rest
    by (Some p) false rest = refl

-- another of a name is before it
pub doubled_is : (all : List Name) (n : Name) (known : Option ℕ) (test : Bool) (o : Option Span) → known ≡ first_start all n.text → test ≡ is_before known n.span.start
    → o ≡ earliest (at_if test n.span) → o ≡ earliest (doubled all n)
unfolding doubled
doubled_is all n known test o k t e =
    e ∙ by test ∙ ap (λ b. earliest (cond b (n.span ∷ []) [])) (t ∙ ap (λ x. is_before x n.span.start) k ∙ is_before_any None all n.text n.span.start)
  where
    by : (b : Bool) → earliest (at_if b n.span) ≡ earliest (cond b (n.span ∷ []) [])
    by true = refl
    by false = refl
