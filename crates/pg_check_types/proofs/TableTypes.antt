-- The types of a table by their numbers.
use Rattle.std.proofs.Common.{◌≡◌, ℕ, zero, suc, ◌+◌, ◌<◌, ◌≤◌, Bool, true, false, ◌&&◌, nat_lt, List, [], ◌∷◌, ◌++◌, length, take, drop, Option, Some, None, IfSome}
use Rattle.std.proofs.Common.{slice_get, unwrap_or, Result, Ok, Err, IfOk, ◌⊎◌, inl, inr, refl, sym, ap, subst, ◌∙◌, append_assoc, length-append, length-take, take-append-drop}
use Rattle.std.proofs.Common.{arith}
use Rattle.std.specs.Option.{option_map}
use Rattle.std.proofs.lemmas.Bool.{ltb-true, lt-ltb}
use Rattle.std.proofs.lemmas.List.{take_more}
use Rattle.std.proofs.lemmas.Option.{slice_get_within, slice_get-get_or}
use Rattle.std.specs.Map.{keys_of}
use Rattle.pg_check_types.specs.declared.layout.Layout.{Layout}
use Rattle.pg_check_types.specs.declared.shape.Shape.{Shape}
use Rattle.pg_check_types.specs.declared.shape.Shape.TheVariants.{I1, I8, I16, I32, I64, Pointer, Void, Array, NoFields, MoreFields}
use Rattle.pg_check_types.specs.Resolved as resolved
use Rattle.pg_check_types.specs.Resolved.{ResolvedType}
use Rattle.pg_check_types.specs.Layout.{field_list}
use Rattle.pg_check_types.specs.Capped.{IsLayout}
use Rattle.pg_check_types.specs.Table.{type_at, type_of_shape, refers_below, types_from, types_of, IsTable, IsAbsent, IsAdded, IsBeginning, IsShorter, AreDistinct, Grows}
use Rattle.pg_check_types.proofs.Fronts.{field_count}

-- ---- lists

pub front_kept : {X : Type 0} (xs ys : List X) (i : ℕ) → i < length xs → slice_get (xs ++ ys) i ≡ slice_get xs i
front_kept [] ys i l = absurd (omega (arith, l))
front_kept (x ∷ xs) ys zero l = refl
front_kept (x ∷ xs) ys (suc i) l = front_kept xs ys i (omega (arith, l))

at_end : {X : Type 0} (xs ys : List X) (x : X) → slice_get (xs ++ x ∷ ys) (length xs) ≡ Some x
at_end [] ys x = refl
at_end (y ∷ xs) ys x = at_end xs ys x

pub both : (a b : Bool) → (a && b) ≡ true → (a ≡ true) × (b ≡ true)
both true b e = (refl, e)
both false b e = cc

append_nil : {X : Type 0} (xs : List X) → xs ++ [] ≡ xs
append_nil [] = refl
append_nil (x ∷ xs) = ap (λ ys. x ∷ ys) (append_nil xs)

pub some_same : {X : Type 0} {a b : X} → Some a ≡ Some b → a ≡ b
some_same {X} {a} {b} h = ap (λ (o : Option X). unwrap_or o a) h

-- ---- types behind others leave the meaning of a shape

type_kept : (types more : List ResolvedType) (t : ℕ) → t < length types → type_at (types ++ more) t ≡ type_at types t
type_kept types more t l = ap (λ o. unwrap_or o resolved.VoidType) (front_kept types more t l)

pub shape_kept : (types more : List ResolvedType) (s : Shape) → refers_below (length types) s ≡ true → type_of_shape (types ++ more) s ≡ type_of_shape types s
shape_kept types more I1 e = refl
shape_kept types more I8 e = refl
shape_kept types more I16 e = refl
shape_kept types more I32 e = refl
shape_kept types more I64 e = refl
shape_kept types more Pointer e = refl
shape_kept types more Void e = refl
shape_kept types more (Array n t) e = ap (λ u. resolved.ArrayType n u) (type_kept types more t (ltb-true t (length types) e))
shape_kept types more NoFields e = refl
shape_kept types more (MoreFields s t) e =
    let p = both (nat_lt s (length types)) (nat_lt t (length types)) e in
    ap (λ u. resolved.MoreFields u (type_at (types ++ more) t)) (type_kept types more s (ltb-true s (length types) p.0))
    ∙ ap (λ u. resolved.MoreFields (type_at types s) u) (type_kept types more t (ltb-true t (length types) p.1))

-- ---- the types of shapes in a row

pub types_grow : (types : List ResolvedType) (ss : List Shape) → (more : List ResolvedType) × (types_from types ss ≡ types ++ more)
unfolding types_from
types_grow types [] = ([], sym (append_nil types))
types_grow types (s ∷ ss) =
    let r = types_grow (types ++ type_of_shape types s ∷ []) ss in
    (type_of_shape types s ∷ r.0, r.1 ∙ append_assoc types (type_of_shape types s ∷ []) r.0)

types_append : (types : List ResolvedType) (ss rs : List Shape) → types_from types (ss ++ rs) ≡ types_from (types_from types ss) rs
unfolding types_from
types_append types [] rs = refl
types_append types (s ∷ ss) rs = types_append (types ++ type_of_shape types s ∷ []) ss rs

length_more : (types : List ResolvedType) (t : ResolvedType) → length (types ++ t ∷ []) ≡ length types + 1
length_more types t = length-append types (t ∷ [])

types_length : (types : List ResolvedType) (ss : List Shape) → length (types_from types ss) ≡ length types + length ss
unfolding types_from
types_length types [] = omega arith
types_length types (s ∷ ss) =
    let a = types_length (types ++ type_of_shape types s ∷ []) ss in
    let b = length_more types (type_of_shape types s) in
    omega (arith, a, b)

-- a shape whose parts stand before it has its type at its number
pub type_found : (types : List ResolvedType) (ss : List Shape) (j n : ℕ) (s : Shape) → n ≡ length types + j → slice_get ss j ≡ Some s → refers_below n s ≡ true
    → slice_get (types_from types ss) n ≡ Some (type_of_shape (types_from types ss) s)
unfolding types_from
type_found types [] j n s m e r = cc
type_found types (x ∷ ss) zero n s m e r =
    let k : n ≡ length types = omega (arith, m) in
    let same : x ≡ s = some_same e in
    let g = types_grow (types ++ type_of_shape types x ∷ []) ss in
    let h = g.1 ∙ append_assoc types (type_of_shape types x ∷ []) g.0 in
    let kept = shape_kept types (type_of_shape types x ∷ g.0) s (subst (λ i. refers_below i s ≡ true) k r) in
    ap (λ i. slice_get (types_from (types ++ type_of_shape types x ∷ []) ss) i) k
    ∙ ap (λ ts. slice_get ts (length types)) h
    ∙ at_end types g.0 (type_of_shape types x)
    ∙ ap (λ y. Some (type_of_shape types y)) same
    ∙ ap (λ t. Some t) (sym kept)
    ∙ ap (λ ts. Some (type_of_shape ts s)) (sym h)
type_found types (x ∷ ss) (suc j) n s m e r =
    let b = length_more types (type_of_shape types x) in
    type_found (types ++ type_of_shape types x ∷ []) ss j n s (omega (arith, m, b)) e r

-- ---- tables

keys_append : (es fs : List (Shape × Layout)) → keys_of (es ++ fs) ≡ keys_of es ++ keys_of fs
keys_append [] fs = refl
keys_append (e ∷ es) fs = ap (λ ks. e.0 ∷ ks) (keys_append es fs)

pub keys_length : (es : List (Shape × Layout)) → length (keys_of es) ≡ length es
keys_length [] = refl
keys_length (e ∷ es) = ap suc (keys_length es)

pub key_entry : (es : List (Shape × Layout)) (i : ℕ) (s : Shape) → slice_get (keys_of es) i ≡ Some s → (l : Layout) × (slice_get es i ≡ Some (s, l))
key_entry [] i s e = cc
key_entry (x ∷ es) zero s e = (x.1, ap (λ (o : Option Shape). option_map (λ t. (t, x.1)) o) e)
key_entry (x ∷ es) (suc i) s e = key_entry es i s e

key_of_entry : (es : List (Shape × Layout)) (i : ℕ) (s : Shape) (l : Layout) → slice_get es i ≡ Some (s, l) → slice_get (keys_of es) i ≡ Some s
key_of_entry [] i s l e = cc
key_of_entry (x ∷ es) zero s l e = ap (λ (o : Option (Shape × Layout)). option_map (λ p. p.0) o) e
key_of_entry (x ∷ es) (suc i) s l e = key_of_entry es i s l e

pub types_count : (es : List (Shape × Layout)) → length (types_of es) ≡ length es
types_count es = let a = types_length [] (keys_of es) in let b = keys_length es in omega (arith, a, b)

one_more : (es : List (Shape × Layout)) (s : Shape) (l : Layout) → types_of (es ++ (s, l) ∷ []) ≡ types_of es ++ type_of_shape (types_of es) s ∷ []
unfolding types_from
one_more es s l = ap (λ ks. types_from [] ks) (keys_append es ((s, l) ∷ [])) ∙ types_append [] (keys_of es) (s ∷ [])

pub added_grows : (es fs : List (Shape × Layout)) (s : Shape) (l : Layout) → IsAdded es fs s l → Grows (types_of es) (types_of fs)
added_grows es fs s l (inl e) = ([], ap (λ x. types_of x) e ∙ sym (append_nil (types_of es)))
added_grows es fs s l (inr e) = (type_of_shape (types_of es) s ∷ [], ap (λ x. types_of x) e.1 ∙ one_more es s l)

entry_cases : {X : Type 0} (es : List X) (x y : X) (i : ℕ) → slice_get (es ++ x ∷ []) i ≡ Some y → (slice_get es i ≡ Some y) ⊎ ((i ≡ length es) × (x ≡ y))
entry_cases [] x y zero e = inr (refl, some_same e)
entry_cases [] x y (suc i) e = cc
entry_cases (z ∷ es) x y zero e = inl e
entry_cases (z ∷ es) x y (suc i) e = behind (entry_cases es x y i e)
  where
    behind : (slice_get es i ≡ Some y) ⊎ ((i ≡ length es) × (x ≡ y)) → (slice_get es i ≡ Some y) ⊎ ((suc i ≡ suc (length es)) × (x ≡ y))
    behind (inl h) = inl h
    behind (inr h) = inr (ap suc h.0, h.1)

refers_more : (m n : ℕ) (s : Shape) → m ≤ n → refers_below m s ≡ true → refers_below n s ≡ true
refers_more m n I1 l e = refl
refers_more m n I8 l e = refl
refers_more m n I16 l e = refl
refers_more m n I32 l e = refl
refers_more m n I64 l e = refl
refers_more m n Pointer l e = refl
refers_more m n Void l e = refl
refers_more m n (Array c t) l e = let a : t < m = ltb-true t m e in lt-ltb t n (omega (arith, a, l))
refers_more m n NoFields l e = refl
refers_more m n (MoreFields s t) l e =
    let p = both (nat_lt s m) (nat_lt t m) e in
    let a : s < m = ltb-true s m p.0 in
    let b : t < m = ltb-true t m p.1 in
    ap (λ x. x && nat_lt t n) (lt-ltb s n (omega (arith, a, l))) ∙ lt-ltb t n (omega (arith, b, l))

distinct_more : (ks : List Shape) (s : Shape) → AreDistinct ks → IsAbsent ks s → AreDistinct (ks ++ s ∷ [])
distinct_more ks s d a i j u e f = by (entry_cases ks s u i e) (entry_cases ks s u j f)
  where
    by : (slice_get ks i ≡ Some u) ⊎ ((i ≡ length ks) × (s ≡ u)) → (slice_get ks j ≡ Some u) ⊎ ((j ≡ length ks) × (s ≡ u)) → i ≡ j
    by (inl p) (inl q) = d i j u p q
    by (inl p) (inr q) = absurd (a i (p ∙ ap (λ x. Some x) (sym q.1)))
    by (inr p) (inl q) = absurd (a j (q ∙ ap (λ x. Some x) (sym p.1)))
    by (inr p) (inr q) = p.0 ∙ sym q.0

last_table : (es : List (Shape × Layout)) (s : Shape) (l : Layout) → IsTable es → IsAbsent (keys_of es) s → refers_below (length es) s ≡ true
    → IsLayout l (type_of_shape (types_of es) s) → IfSome l.shorter (IsShorter (types_of es) (type_of_shape (types_of es) s) (length es)) → IsTable (es ++ (s, l) ∷ [])
last_table es s l t a r h b = record {
  refers = λ i u m e. refers_at i u m (entry_cases es (s, l) (u, m) i e);
  layouts = λ i u m e. layout_at i u m (entry_cases es (s, l) (u, m) i e);
  shorter = λ i u m e. shorter_at i u m (entry_cases es (s, l) (u, m) i e);
  distinct = subst (λ ks. AreDistinct ks) (sym (keys_append es ((s, l) ∷ []))) (distinct_more (keys_of es) s t.distinct a);
}
  where
    refers_at : (i : ℕ) (u : Shape) (m : Layout) → (slice_get es i ≡ Some (u, m)) ⊎ ((i ≡ length es) × (◌≡◌ {A = Shape × Layout} (s, l) (u, m))) → refers_below i u ≡ true
    refers_at i u m (inl e) = t.refers i u m e
    refers_at i u m (inr e) = subst (λ n. refers_below n u ≡ true) (sym e.0) (subst (λ (x : Shape × Layout). refers_below (length es) x.0 ≡ true) e.1 r)

    kept : (u : Shape) → refers_below (length es) u ≡ true → type_of_shape (types_of (es ++ (s, l) ∷ [])) u ≡ type_of_shape (types_of es) u
    kept u b = ap (λ ts. type_of_shape ts u) (one_more es s l) ∙ shape_kept (types_of es) (type_of_shape (types_of es) s ∷ []) u (subst (λ n. refers_below n u ≡ true) (sym (types_count es)) b)

    layout_at : (i : ℕ) (u : Shape) (m : Layout) → (slice_get es i ≡ Some (u, m)) ⊎ ((i ≡ length es) × (◌≡◌ {A = Shape × Layout} (s, l) (u, m)))
        → IsLayout m (type_of_shape (types_of (es ++ (s, l) ∷ [])) u)
    layout_at i u m (inl e) =
        let w = slice_get_within es i (u, m) e in
        let b = refers_more i (length es) u (omega (arith, w)) (t.refers i u m e) in
        subst (λ y. IsLayout m y) (sym (kept u b)) (t.layouts i u m e)
    layout_at i u m (inr e) =
        subst (λ (x : Shape × Layout). IsLayout x.1 (type_of_shape (types_of (es ++ (s, l) ∷ [])) x.0)) e.1 (subst (λ y. IsLayout l y) (sym (kept s r)) h)

    -- a way back leads to the same type as before
    back : (o : Option ℕ) (i : ℕ) (u : ResolvedType) → i ≤ length es → IfSome o (IsShorter (types_of es) u i) → IfSome o (IsShorter (types_of (es ++ (s, l) ∷ [])) u i)
    back None i u k p = tt
    back (Some n) i u k p =
        let c = types_count es in
        record {
          below = p.below;
          beginning = subst (λ x. IsBeginning x u) (sym (ap (λ ts. type_at ts n) (one_more es s l) ∙ type_kept (types_of es) (type_of_shape (types_of es) s ∷ []) n (omega (arith, c, k, p.below)))) p.beginning;
        }

    shorter_at : (i : ℕ) (u : Shape) (m : Layout) → (slice_get es i ≡ Some (u, m)) ⊎ ((i ≡ length es) × (◌≡◌ {A = Shape × Layout} (s, l) (u, m)))
        → IfSome m.shorter (IsShorter (types_of (es ++ (s, l) ∷ [])) (type_of_shape (types_of (es ++ (s, l) ∷ [])) u) i)
    shorter_at i u m (inl e) =
        let w = slice_get_within es i (u, m) e in
        let k = refers_more i (length es) u (omega (arith, w)) (t.refers i u m e) in
        subst (λ y. IfSome m.shorter (IsShorter (types_of (es ++ (s, l) ∷ [])) y i)) (sym (kept u k)) (back m.shorter i (type_of_shape (types_of es) u) (omega (arith, w)) (t.shorter i u m e))
    shorter_at i u m (inr e) =
        subst (λ n. IfSome m.shorter (IsShorter (types_of (es ++ (s, l) ∷ [])) (type_of_shape (types_of (es ++ (s, l) ∷ [])) u) n)) (sym e.0)
        (subst (λ (x : Shape × Layout). IfSome x.1.shorter (IsShorter (types_of (es ++ (s, l) ∷ [])) (type_of_shape (types_of (es ++ (s, l) ∷ [])) x.0) (length es))) e.1
        (subst (λ y. IfSome l.shorter (IsShorter (types_of (es ++ (s, l) ∷ [])) y (length es))) (sym (kept s r)) (back l.shorter (length es) (type_of_shape (types_of es) s) (omega arith) b)))

pub added_table : (es fs : List (Shape × Layout)) (s : Shape) (l : Layout) → IsTable es → refers_below (length es) s ≡ true → IsLayout l (type_of_shape (types_of es) s)
    → IfSome l.shorter (IsShorter (types_of es) (type_of_shape (types_of es) s) (length es)) → IsAdded es fs s l → IsTable fs
added_table es fs s l t r h b (inl e) = subst (λ x. IsTable x) (sym e) t
added_table es fs s l t r h b (inr e) = subst (λ x. IsTable x) (sym e.1) (last_table es s l t e.0 r h b)

-- the type at a key's number
pub table_found : (es : List (Shape × Layout)) (i : ℕ) (s : Shape) → IsTable es → slice_get (keys_of es) i ≡ Some s → slice_get (types_of es) i ≡ Some (type_of_shape (types_of es) s)
table_found es i s t e = let k = key_entry es i s e in type_found [] (keys_of es) i i s (omega arith) e (t.refers i s k.0 k.1)

pub added_found : (es fs : List (Shape × Layout)) (s : Shape) (l : Layout) (i : ℕ) → IsTable es → refers_below (length es) s ≡ true → IsLayout l (type_of_shape (types_of es) s)
    → IfSome l.shorter (IsShorter (types_of es) (type_of_shape (types_of es) s) (length es)) → IsAdded es fs s l
    → slice_get (keys_of fs) i ≡ Some s → slice_get (types_of fs) i ≡ Some (type_of_shape (types_of es) s)
added_found es fs s l i t r h w a e =
    let g = added_grows es fs s l a in
    let b = subst (λ n. refers_below n s ≡ true) (sym (types_count es)) r in
    table_found fs i s (added_table es fs s l t r h w a) e ∙ ap (λ ts. Some (type_of_shape ts s)) g.1 ∙ ap (λ y. Some y) (shape_kept (types_of es) g.0 s b)

pub if_ok : {X E : Type 0} {P Q : X → Type 0} (o : Result X E) → ((x : X) → P x → Q x) → IfOk o P → IfOk o Q
if_ok (Ok x) f h = f x h
if_ok (Err e) f h = tt

pub counted : (es : List (Shape × Layout)) (n : ℕ) → n < length (types_of es) → nat_lt n (length es) ≡ true
counted es n l = let a = types_count es in lt-ltb n (length es) (omega (arith, a, l))

-- what an entry says of the type at its number
pub entry_type : (es : List (Shape × Layout)) (n : ℕ) (s : Shape) (l : Layout) → IsTable es → slice_get es n ≡ Some (s, l) → type_of_shape (types_of es) s ≡ type_at (types_of es) n
entry_type es n s l t e = sym (ap (λ o. unwrap_or o resolved.VoidType) (table_found es n s t (key_of_entry es n s l e)))

pub entry_layout : (es : List (Shape × Layout)) (n : ℕ) (s : Shape) (l : Layout) → IsTable es → slice_get es n ≡ Some (s, l) → IsLayout l (type_at (types_of es) n)
entry_layout es n s l t e = subst (λ y. IsLayout l y) (entry_type es n s l t e) (t.layouts n s l e)

pub entry_shorter : (es : List (Shape × Layout)) (n : ℕ) (s : Shape) (l : Layout) → IsTable es → slice_get es n ≡ Some (s, l)
    → IfSome l.shorter (IsShorter (types_of es) (type_at (types_of es) n) n)
entry_shorter es n s l t e = subst (λ y. IfSome l.shorter (IsShorter (types_of es) y n)) (entry_type es n s l t e) (t.shorter n s l e)

-- a structure's fields stand before it
entry_there : {X : Type 0} (xs : List X) (n : ℕ) → n < length xs → (x : X) × (slice_get xs n ≡ Some x)
entry_there [] n l = absurd (omega (arith, l))
entry_there (x ∷ xs) zero l = (x, refl)
entry_there (x ∷ xs) (suc n) l = entry_there xs n (omega (arith, l))

fields_within : (es : List (Shape × Layout)) → IsTable es → (k n : ℕ) → n < k → n < length es → length (field_list (type_at (types_of es) n)) ≤ n
fields_within es t zero n l w = absurd (omega (arith, l))
fields_within es t (suc k) n l w =
    let p = entry_there es n w in
    subst (λ u. length (field_list u) ≤ n) (entry_type es n p.0.0 p.0.1 t p.1) (of_shape p.0.0 (t.refers n p.0.0 p.0.1 p.1) (λ a i j. fields_within es t k a i j))
  where
    of_shape : (s : Shape) → refers_below n s ≡ true → ((a : ℕ) → a < k → a < length es → length (field_list (type_at (types_of es) a)) ≤ a)
        → length (field_list (type_of_shape (types_of es) s)) ≤ n
    of_shape I1 r below = omega arith
    of_shape I8 r below = omega arith
    of_shape I16 r below = omega arith
    of_shape I32 r below = omega arith
    of_shape I64 r below = omega arith
    of_shape Pointer r below = omega arith
    of_shape Void r below = omega arith
    of_shape (Array c u) r below = omega arith
    of_shape NoFields r below = omega arith
    of_shape (MoreFields a b) r below =
        let q = both (nat_lt a n) (nat_lt b n) r in
        let i : a < n = ltb-true a n q.0 in
        let h = below a (omega (arith, i, l)) (omega (arith, i, w)) in
        omega (arith, field_count (type_at (types_of es) a) (type_at (types_of es) b), h, i)

pub fields_before : (es : List (Shape × Layout)) (n : ℕ) → IsTable es → n < length (types_of es) → length (field_list (type_at (types_of es) n)) ≤ n
fields_before es n t l = let c = types_count es in fields_within es t (n + 1) n (omega arith) (omega (arith, l, c))

-- ---- a table over another

pub back_kept : {X : Type 0} (xs ys : List X) (i j : ℕ) → i ≡ length xs + j → slice_get (xs ++ ys) i ≡ slice_get ys j
back_kept [] ys i j e = let f : i ≡ j = omega (arith, e) in ap (λ n. slice_get ys n) f
back_kept (x ∷ xs) ys zero j e = absurd (omega (arith, e))
back_kept (x ∷ xs) ys (suc i) j e = back_kept xs ys i j (omega (arith, e))

absent_both : (ks ls : List Shape) (s : Shape) → IsAbsent ks s → IsAbsent ls s → IsAbsent (ks ++ ls) s
absent_both [] ls s a b i e = b i e
absent_both (k ∷ ks) ls s a b zero e = a zero e
absent_both (k ∷ ks) ls s a b (suc i) e = absent_both ks ls s (λ j f. a (suc j) f) b i e

-- what is added to the further types is added to all
pub added_over : (below more new : List (Shape × Layout)) (s : Shape) (l : Layout) → IsAbsent (keys_of below) s → IsAdded more new s l → IsAdded (below ++ more) (below ++ new) s l
added_over below more new s l a (inl e) = inl (ap (λ x. below ++ x) e)
added_over below more new s l a (inr e) =
    inr (subst (λ ks. IsAbsent ks s) (sym (keys_append below more)) (absent_both (keys_of below) (keys_of more) s a e.0), ap (λ x. below ++ x) e.1 ∙ sym (append_assoc below more ((s, l) ∷ [])))

-- the same of a table that is seen as its entries
pub added_seen : (below more new es : List (Shape × Layout)) (s : Shape) (l : Layout) → below ++ more ≡ es → IsAbsent (keys_of below) s → IsAdded more new s l
    → IsAdded es (below ++ new) s l
added_seen below more new es s l e a h = subst (λ x. IsAdded x (below ++ new) s l) e (added_over below more new s l a h)

pub key_below : (below more : List (Shape × Layout)) (i : ℕ) (s : Shape) → slice_get (keys_of below) i ≡ Some s → slice_get (keys_of (below ++ more)) i ≡ Some s
key_below below more i s e =
    ap (λ ks. slice_get ks i) (keys_append below more) ∙ front_kept (keys_of below) (keys_of more) i (slice_get_within (keys_of below) i s e) ∙ e

pub key_above : (below more : List (Shape × Layout)) (i j : ℕ) (s : Shape) → i ≡ length below + j → slice_get (keys_of more) j ≡ Some s → slice_get (keys_of (below ++ more)) i ≡ Some s
key_above below more i j s n e =
    let k = keys_length below in
    ap (λ ks. slice_get ks i) (keys_append below more) ∙ back_kept (keys_of below) (keys_of more) i j (omega (arith, n, k)) ∙ e

-- ---- the entries of a table, one after another

pub taken_more : (es fs : List (Shape × Layout)) (i p : ℕ) (s : Shape) (l : Layout) → IsTable es → slice_get es i ≡ Some (s, l) → IsAdded (take i es) fs s l
    → slice_get (keys_of fs) p ≡ Some s → fs ≡ take (i + 1) es
taken_more es fs i p s l t e (inr a) k =
    a.1 ∙ ap (λ (x : Shape × Layout). take i es ++ x ∷ []) (sym (some_same (sym (slice_get-get_or es i (s, l) (slice_get_within es i (s, l) e)) ∙ e)))
    ∙ sym (take_more es i (s, l) (slice_get_within es i (s, l) e))
taken_more es fs i p s l t e (inl a) k =
    let f : slice_get (keys_of (take i es)) p ≡ Some s = ap (λ x. slice_get (keys_of x) p) (sym a) ∙ k in
    let w = slice_get_within (keys_of (take i es)) p s f in
    let n = keys_length (take i es) in
    let m = length-take i es in
    let g : slice_get (keys_of es) p ≡ Some s = ap (λ x. slice_get (keys_of x) p) (sym (take-append-drop i es)) ∙ key_below (take i es) (drop i es) p s f in
    let q = t.distinct p i s g (key_of_entry es i s l e) in
    absurd (omega (arith, w, n, m, q))

-- a table without types
pub no_types : (es : List (Shape × Layout)) → es ≡ [] → IsTable es
no_types es e = subst (λ x. IsTable x) (sym e) (record { refers = λ i s l f. cc; layouts = λ i s l f. cc; shorter = λ i s l f. cc; distinct = λ i j s f g. cc })
