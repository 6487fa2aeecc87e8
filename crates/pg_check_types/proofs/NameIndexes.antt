-- Names that are looked up by their texts.
use Rattle.std.proofs.Common.{◌≡◌, ℕ, zero, suc, ◌+◌, ◌<◌, ◌≤◌, Bool, true, false, cond, List, [], ◌∷◌, ◌++◌, take, get_or, length, Option, Some, None, refl}
use Rattle.std.proofs.Common.{sym, ap, ◌∙◌, arith, Bor}
use Rattle.std.specs.Str.{bytes_eq}
use Rattle.std.specs.List.{position_from}
use Rattle.pg_check_types.specs.NameIndex.{first_place, noted, texts_of}

-- a place that is put where none was known
pub noted_new : (a b : Option ℕ) (same : Bool) (place : ℕ) → (same ≡ true → a ≡ None) → b ≡ cond same (Some place) a → b ≡ noted a same place
noted_new (Some p) b true place n e = let f : Some p ≡ None = n refl in cc
noted_new (Some p) b false place n e = e
noted_new None b true place n e = e
noted_new None b false place n e = e

position_more : (test : List ℕ → Bool) (at : ℕ) (ts : List (List ℕ)) (t : List ℕ) → position_from test at (ts ++ t ∷ []) ≡ noted (position_from test at ts) (test t) (at + length ts)
position_more test at [] t = ap (λ k. cond (test t) (Some k) None) (omega arith)
position_more test at (s ∷ ts) t = by (test s) (position_more test (at + 1) ts t)
  where
    by : (b : Bool) → position_from test (at + 1) (ts ++ t ∷ []) ≡ noted (position_from test (at + 1) ts) (test t) (at + 1 + length ts)
        → cond b (Some at) (position_from test (at + 1) (ts ++ t ∷ [])) ≡ noted (cond b (Some at) (position_from test (at + 1) ts)) (test t) (at + suc (length ts))
    by true h = refl
    by false h = let e : at + 1 + length ts ≡ at + suc (length ts) = omega arith in h ∙ ap (λ k. noted (position_from test (at + 1) ts) (test t) k) e

texts_more : (names : List (Bor (List ℕ))) (i : ℕ) (n d : Bor (List ℕ)) → i < length names → n ≡ get_or names i d
    → texts_of (take (i + 1) names) ≡ texts_of (take i names) ++ n.now ∷ []
texts_more [] i n d l e = absurd (omega (arith, l))
texts_more (m ∷ names) zero n d l e = ap (λ (x : Bor (List ℕ)). x.now ∷ []) (sym e)
texts_more (m ∷ names) (suc i) n d l e =
    let s : suc i + 1 ≡ suc (i + 1) = omega arith in
    ap (λ k. texts_of (take k (m ∷ names))) s ∙ ap (λ ts. m.now ∷ ts) (texts_more names i n d (omega (arith, l)) e)

texts_length : (names : List (Bor (List ℕ))) (i : ℕ) → i ≤ length names → length (texts_of (take i names)) ≡ i
texts_length names zero l = refl
texts_length [] (suc i) l = absurd (omega (arith, l))
texts_length (m ∷ names) (suc i) l = ap suc (texts_length names i (omega (arith, l)))

-- the places among one name more
pub places_more : (names : List (Bor (List ℕ))) (i : ℕ) (n d : Bor (List ℕ)) (text : List ℕ) → i < length names → n ≡ get_or names i d
    → first_place (texts_of (take (i + 1) names)) text ≡ noted (first_place (texts_of (take i names)) text) (bytes_eq n.now text) i
places_more names i n d text l e =
    let c : 0 + length (texts_of (take i names)) ≡ i = let k = texts_length names i (omega (arith, l)) in omega (arith, k) in
    ap (λ ts. first_place ts text) (texts_more names i n d l e)
    ∙ position_more (λ t. bytes_eq t text) 0 (texts_of (take i names)) n.now
    ∙ ap (λ k. noted (first_place (texts_of (take i names)) text) (bytes_eq n.now text) k) c
