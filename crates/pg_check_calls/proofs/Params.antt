-- The parameters of a callee and the types that a call writes.
use Rattle.std.proofs.Common.{◌≡◌, ℕ, zero, suc, ◌+◌, ◌-◌, ◌<◌, ◌≤◌, nat_le, ◌&&◌, Bool, true, false, List, [], ◌∷◌, length, map, drop, get_or, refl, sym}
use Rattle.std.proofs.Common.{ap, ◌∙◌, arith}
use Rattle.std.proofs.lemmas.Bool.Decides.{nat_tests}
use Rattle.pg_read_ast.specs.Syntax.{Ty, Dparam, ParamOf, Metadata, Dots, NamedType}
use Rattle.pg_check_rules.specs.CallConditions.{fits_params}
use Rattle.pg_check_calls.specs.Calls.{first_agrees, is_dots, is_only_dots}

-- the first of the parameters and the first written type
first_fits : (types : List NamedType) (ps : List Dparam) (t : Ty) (ts : List Ty) (dots : Bool)
    → fits_params types ps (t ∷ ts) dots ≡ first_agrees types ps t && fits_params types (drop 1 ps) ts dots
first_fits types [] t ts true = refl
first_fits types [] t ts false = refl
first_fits types (ParamOf p ∷ ps) t ts dots = refl
first_fits types (Metadata s ∷ ps) t ts dots = refl
first_fits types (Dots s ∷ []) t ts dots = refl
first_fits types (Dots s ∷ (p ∷ ps)) t ts dots = refl

drop_one : {X : Type 0} (xs : List X) (i : ℕ) → drop 1 (drop i xs) ≡ drop (i + 1) xs
drop_one [] zero = refl
drop_one [] (suc i) = let s : suc i + 1 ≡ suc (i + 1) = omega arith in ap (λ n. drop n []) (sym s)
drop_one (x ∷ xs) zero = refl
drop_one (x ∷ xs) (suc i) = let s : suc i + 1 ≡ suc (i + 1) = omega arith in drop_one xs i ∙ ap (λ n. drop n (x ∷ xs)) (sym s)

drop_at : {X : Type 0} (xs : List X) (i : ℕ) (x : X) → i < length xs → x ≡ get_or xs i x → drop i xs ≡ x ∷ drop (i + 1) xs
drop_at [] i x l e = absurd (omega (arith, l))
drop_at (y ∷ xs) zero x l e = ap (λ z. z ∷ xs) (sym e)
drop_at (y ∷ xs) (suc i) x l e = let s : suc i + 1 ≡ suc (i + 1) = omega arith in drop_at xs i x (omega (arith, l)) e ∙ ap (λ n. x ∷ drop n (y ∷ xs)) (sym s)

map_drop_one : {X Y : Type 0} (f : X → Y) (xs : List X) → map f (drop 1 xs) ≡ drop 1 (map f xs)
map_drop_one f [] = refl
map_drop_one f (x ∷ xs) = refl

-- the parameter at a place and the written type at it
pub fits_at : {X Y : Type 0} (types : List NamedType) (f : X → Dparam) (g : Y → Ty) (ps : List X) (ts : List Y) (i : ℕ) (t : Y) (dots : Bool) → i < length ts → t ≡ get_or ts i t
    → fits_params types (map f (drop i ps)) (map g (drop i ts)) dots ≡ first_agrees types (map f (drop i ps)) (g t) && fits_params types (map f (drop (i + 1) ps)) (map g (drop (i + 1) ts)) dots
fits_at types f g ps ts i t dots l e =
    ap (λ us. fits_params types (map f (drop i ps)) (map g us) dots) (drop_at ts i t l e)
    ∙ first_fits types (map f (drop i ps)) (g t) (map g (drop (i + 1) ts)) dots
    ∙ ap (λ qs. first_agrees types (map f (drop i ps)) (g t) && fits_params types qs (map g (drop (i + 1) ts)) dots) (sym (map_drop_one f (drop i ps)) ∙ ap (λ qs. map f qs) (drop_one ps i))

pub fits_step : {X Y : Type 0} (types : List NamedType) (f : X → Dparam) (g : Y → Ty) (ps : List X) (ts : List Y) (i : ℕ) (t : Y) (dots : Bool) → i < length ts → t ≡ get_or ts i t
    → true ≡ first_agrees types (map f (drop i ps)) (g t)
    → fits_params types (map f (drop i ps)) (map g (drop i ts)) dots ≡ fits_params types (map f (drop (i + 1) ps)) (map g (drop (i + 1) ts)) dots
fits_step types f g ps ts i t dots l e h =
    fits_at types f g ps ts i t dots l e ∙ ap (λ b. b && fits_params types (map f (drop (i + 1) ps)) (map g (drop (i + 1) ts)) dots) (sym h)

-- no written type is left
pub fits_end : {Y : Type 0} (types : List NamedType) (g : Y → Ty) (qs : List Dparam) (ts : List Y) (i : ℕ) (dots : Bool) → length ts ≤ i
    → fits_params types qs (map g (drop i ts)) dots ≡ fits_params types qs [] dots
fits_end types g qs [] zero dots l = refl
fits_end types g qs [] (suc i) dots l = refl
fits_end types g qs (t ∷ ts) zero dots l = absurd (omega (arith, l))
fits_end types g qs (t ∷ ts) (suc i) dots l = fits_end types g qs ts i dots (omega (arith, l))

-- ---- the end of the parameters

pub dots_end : (types : List NamedType) (qs : List Dparam) → is_only_dots qs ≡ fits_params types qs [] true
dots_end types [] = refl
dots_end types (ParamOf p ∷ []) = refl
dots_end types (Metadata s ∷ []) = refl
dots_end types (Dots s ∷ []) = refl
dots_end types (ParamOf p ∷ (q ∷ qs)) = refl
dots_end types (Metadata s ∷ (q ∷ qs)) = refl
dots_end types (Dots s ∷ (q ∷ qs)) = refl

pub none_left : {X : Type 0} (types : List NamedType) (f : X → Dparam) (xs : List X) (i : ℕ) → length xs ≤ i → true ≡ fits_params types (map f (drop i xs)) [] false
none_left types f [] zero l = refl
none_left types f [] (suc i) l = refl
none_left types f (x ∷ xs) zero l = absurd (omega (arith, l))
none_left types f (x ∷ xs) (suc i) l = none_left types f xs i (omega (arith, l))

more_params : (types : List NamedType) (q : Dparam) (qs : List Dparam) → false ≡ fits_params types (q ∷ qs) [] false
more_params types (ParamOf p) [] = refl
more_params types (Metadata s) [] = refl
more_params types (Dots s) [] = refl
more_params types (ParamOf p) (r ∷ qs) = refl
more_params types (Metadata s) (r ∷ qs) = refl
more_params types (Dots s) (r ∷ qs) = refl

pub some_left : {X : Type 0} (types : List NamedType) (f : X → Dparam) (xs : List X) (i : ℕ) → i < length xs → false ≡ fits_params types (map f (drop i xs)) [] false
some_left types f [] i l = absurd (omega (arith, l))
some_left types f (x ∷ xs) zero l = more_params types (f x) (map f xs)
some_left types f (x ∷ xs) (suc i) l = some_left types f xs i (omega (arith, l))

pub ends_here : {X : Type 0} (types : List NamedType) (f : X → Dparam) (xs : List X) (i : ℕ) → nat_le (length xs) i ≡ fits_params types (map f (drop i xs)) [] false
ends_here types f xs i = by (nat_le (length xs) i) refl
  where
    by : (b : Bool) → nat_le (length xs) i ≡ b → b ≡ fits_params types (map f (drop i xs)) [] false
    by true e = let l : length xs ≤ i = grind (arith, nat_tests) in none_left types f xs i l
    by false e = let l : i < length xs = grind (arith, nat_tests) in some_left types f xs i l

-- ---- dots alone

pub no_dots : {X : Type 0} (f : X → Dparam) (xs : List X) (i : ℕ) → length xs ≤ i → false ≡ is_only_dots (map f (drop i xs))
no_dots f [] zero l = refl
no_dots f [] (suc i) l = refl
no_dots f (x ∷ xs) zero l = absurd (omega (arith, l))
no_dots f (x ∷ xs) (suc i) l = no_dots f xs i (omega (arith, l))

pub more_dots : {X : Type 0} (f : X → Dparam) (xs : List X) (i : ℕ) → i < length xs → (length xs - i ≡ 1 → ⊥) → false ≡ is_only_dots (map f (drop i xs))
more_dots f [] i l h = absurd (omega (arith, l))
more_dots f (x ∷ []) zero l h = absurd (h (omega arith))
more_dots f (x ∷ (y ∷ xs)) zero l h = refl
more_dots f (x ∷ xs) (suc i) l h = more_dots f xs i (omega (arith, l)) (λ e. h (omega (arith, e)))

pub last_param : {X : Type 0} (f : X → Dparam) (xs : List X) (i : ℕ) (x : X) → i < length xs → length xs - i ≡ 1 → x ≡ get_or xs i x
    → is_dots (f x) ≡ is_only_dots (map f (drop i xs))
last_param f [] i x l m e = absurd (omega (arith, l))
last_param f (y ∷ []) zero x l m e = ap (λ z. is_dots (f z)) e
last_param f (y ∷ (z ∷ xs)) zero x l m e = absurd (omega (arith, m))
last_param f (y ∷ xs) (suc i) x l m e = last_param f xs i x (omega (arith, l)) (omega (arith, m)) e
