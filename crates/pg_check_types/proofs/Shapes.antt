-- Shapes that are equal as keys.
use Rattle.std.proofs.Common.{◌≡◌, ℕ, ◌≤◌, Bool, cond, nat_lt, List, [], ◌∷◌, ◌++◌, length, true, false, true≢false, is_some, Option, Some, None, IfSome, slice_get}
use Rattle.std.proofs.Common.{get_or, position, refl, sym, ap, ◌∙◌, rules, arith}
use Rattle.std.specs.List.{position_or_len}
use Rattle.std.proofs.lemmas.Bool.{ltb-false}
use Rattle.std.proofs.lemmas.List.Sums.{fails_before_first}
use Rattle.std.proofs.lemmas.List.Quantifiers.{position-Some}
use Rattle.std.proofs.lemmas.Option.{slice_get-get_or, slice_get_within}
use Rattle.std.specs.Map.{keys_of}
use Rattle.pg_check_types.specs.declared.layout.Layout.{Layout}
use Rattle.pg_check_types.specs.declared.shape.Shape.{Shape}
use Rattle.pg_check_types.specs.declared.shape.Shape.TheVariants.{I1, I8, I16, I32, I64, Pointer, Void, Array, NoFields, MoreFields}
use Rattle.pg_check_types.specs.contracts.shape.ShapePartialEq.TheImpl as key
use Rattle.pg_check_types.specs.Table.{IsAbsent}
use Rattle.pg_check_types.proofs.TableTypes.{some_same}

pub same_key : (a b : Shape) → key.eq-value.it a b ≡ true → a ≡ b
same_key I1 I1 e = refl
same_key I1 _ e = search rules
same_key I8 I8 e = refl
same_key I8 _ e = search rules
same_key I16 I16 e = refl
same_key I16 _ e = search rules
same_key I32 I32 e = refl
same_key I32 _ e = search rules
same_key I64 I64 e = refl
same_key I64 _ e = search rules
same_key Pointer Pointer e = refl
same_key Pointer _ e = search rules
same_key Void Void e = refl
same_key Void _ e = search rules
same_key (Array a b) (Array x y) e = search rules
same_key (Array a b) _ e = search rules
same_key NoFields NoFields e = refl
same_key NoFields _ e = search rules
same_key (MoreFields a b) (MoreFields x y) e = search rules
same_key (MoreFields a b) _ e = search rules

pub found_shape : (xs : List Shape) (s : Shape) (r : Option ℕ) → r ≡ position (key.eq-value.it s) xs → IfSome r (λ i. slice_get xs i ≡ Some s)
found_shape xs s None e = tt
found_shape xs s (Some i) e =
    let p = position-Some (key.eq-value.it s) xs i s (sym e) in
    slice_get-get_or xs i s p.0 ∙ ap (λ x. Some x) (sym (same_key s (get_or xs i s) p.1))

pub none_of : {X : Type 0} (o : Option X) → is_some o ≡ false → o ≡ None
none_of None e = refl
none_of (Some x) e = absurd (true≢false e)

last_at : (es : List (Shape × Layout)) (s : Shape) (l : Layout) → slice_get (keys_of (es ++ (s, l) ∷ [])) (length es) ≡ Some s
last_at [] s l = refl
last_at (e ∷ es) s l = last_at es s l

-- the key of an entry that goes last
pub last_key : (es new : List (Shape × Layout)) (s : Shape) (l : Layout) (n : ℕ) → new ≡ es ++ (s, l) ∷ [] → n ≡ length es → slice_get (keys_of new) n ≡ Some s
last_key es new s l n e m = ap (λ x. slice_get (keys_of x) n) e ∙ ap (λ k. slice_get (keys_of (es ++ (s, l) ∷ [])) k) m ∙ last_at es s l

own_key : (s : Shape) → key.eq-value.it s s ≡ true
own_key I1 = search rules
own_key I8 = search rules
own_key I16 = search rules
own_key I32 = search rules
own_key I64 = search rules
own_key Pointer = search rules
own_key Void = search rules
own_key (Array n t) = search rules
own_key NoFields = search rules
own_key (MoreFields s t) = search rules

-- a shape that has no place is none of these
pub absent_shape : (xs : List Shape) (s : Shape) → None ≡ position (key.eq-value.it s) xs → IsAbsent xs s
absent_shape xs s e i f = by (nat_lt (position_or_len (key.eq-value.it s) xs) (length xs)) refl e
  where
    by : (b : Bool) → nat_lt (position_or_len (key.eq-value.it s) xs) (length xs) ≡ b → None ≡ cond b (Some (position_or_len (key.eq-value.it s) xs)) None → ⊥
    by true h g = cc
    by false h g =
        let w = slice_get_within xs i s f in
        let l : length xs ≤ position_or_len (key.eq-value.it s) xs = ltb-false (position_or_len (key.eq-value.it s) xs) (length xs) h in
        let no = fails_before_first (key.eq-value.it s) xs i s (omega (arith, w, l)) in
        let is : get_or xs i s ≡ s = some_same (sym (slice_get-get_or xs i s w) ∙ f) in
        true≢false (sym (own_key s) ∙ ap (λ x. key.eq-value.it s x) (sym is) ∙ no)
