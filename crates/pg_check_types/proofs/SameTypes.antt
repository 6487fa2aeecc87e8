-- Equal types have one number.
use Rattle.std.proofs.Common.{◌≡◌, ℕ, zero, suc, ◌<◌, ◌≤◌, Bool, true, false, true≢false, ◌&&◌, ◌==◌, nat_lt, List, [], ◌∷◌, length, Some, slice_get}
use Rattle.std.proofs.Common.{unwrap_or, refl, sym, ap, ◌∙◌, arith}
use Rattle.std.specs.Map.{keys_of}
use Rattle.std.proofs.lemmas.Bool.{ltb-true, eqb-true, eq-eqb}
use Rattle.pg_read_ast.specs.pg_num.declared.width.Width.{Width}
use Rattle.pg_read_ast.specs.pg_num.declared.width.Width.TheVariants.{W1, W8, W16, W32, W64}
use Rattle.pg_check_types.specs.declared.layout.Layout.{Layout}
use Rattle.pg_check_types.specs.declared.shape.Shape.{Shape}
use Rattle.pg_check_types.specs.declared.shape.Shape.TheVariants.{I1, I8, I16, I32, I64, Pointer, Void, Array, NoFields, MoreFields}
use Rattle.pg_check_types.specs.Resolved as resolved
use Rattle.pg_check_types.specs.Resolved.{ResolvedType, same_type, same_width}
use Rattle.pg_check_types.specs.Table.{type_at, type_of_shape, refers_below, types_of, IsTable}
use Rattle.pg_check_types.proofs.TableTypes.{table_found, both, key_entry, keys_length, types_count}

-- ---- numbers

key_at : (ks : List Shape) (a : ℕ) → a < length ks → (s : Shape) × (slice_get ks a ≡ Some s)
key_at [] a l = absurd (omega (arith, l))
key_at (k ∷ ks) zero l = (k, refl)
key_at (k ∷ ks) (suc a) l = key_at ks a (omega (arith, l))

-- the parts of a shape stand before it
parts_before : (es : List (Shape × Layout)) (i : ℕ) (s : Shape) → IsTable es → slice_get (keys_of es) i ≡ Some s → refers_below i s ≡ true
parts_before es i s t e = let k = key_entry es i s e in t.refers i s k.0 k.1

key_type : (es : List (Shape × Layout)) (a : ℕ) (s : Shape) → IsTable es → slice_get (keys_of es) a ≡ Some s → type_at (types_of es) a ≡ type_of_shape (types_of es) s
key_type es a s t e = ap (λ o. unwrap_or o resolved.VoidType) (table_found es a s t e)

module _ (es : List (Shape × Layout)) (table : IsTable es) where
  abbrev SameNumbers : ℕ → Type 0
  SameNumbers n = (i j : ℕ) → i < n → j < n → n ≤ length es → type_at (types_of es) i ≡ type_at (types_of es) j → i ≡ j

  same_shapes : (n : ℕ) → n < length es → SameNumbers n → (i j : ℕ) → i ≤ n → j ≤ n → (s t : Shape) → slice_get (keys_of es) i ≡ Some s
      → slice_get (keys_of es) j ≡ Some t → type_of_shape (types_of es) s ≡ type_of_shape (types_of es) t → i ≡ j
  same_shapes n l h i j a b I1 I1 e f same = table.distinct i j I1 e f
  same_shapes n l h i j a b I1 _ e f same = cc
  same_shapes n l h i j a b I8 I8 e f same = table.distinct i j I8 e f
  same_shapes n l h i j a b I8 _ e f same = cc
  same_shapes n l h i j a b I16 I16 e f same = table.distinct i j I16 e f
  same_shapes n l h i j a b I16 _ e f same = cc
  same_shapes n l h i j a b I32 I32 e f same = table.distinct i j I32 e f
  same_shapes n l h i j a b I32 _ e f same = cc
  same_shapes n l h i j a b I64 I64 e f same = table.distinct i j I64 e f
  same_shapes n l h i j a b I64 _ e f same = cc
  same_shapes n l h i j a b Pointer Pointer e f same = table.distinct i j Pointer e f
  same_shapes n l h i j a b Pointer _ e f same = cc
  same_shapes n l h i j a b Void Void e f same = table.distinct i j Void e f
  same_shapes n l h i j a b Void _ e f same = cc
  same_shapes n l h i j a b (Array c u) (Array d v) e f same =
      let counts : c ≡ d = cc in
      let elements : type_at (types_of es) u ≡ type_at (types_of es) v = cc in
      let x : u < i = ltb-true u i (parts_before es i (Array c u) table e) in
      let y : v < j = ltb-true v j (parts_before es j (Array d v) table f) in
      let numbers : u ≡ v = h u v (omega (arith, x, a)) (omega (arith, y, b)) (omega (arith, l)) elements in
      let shapes : Array c u ≡ Array d v = ap (λ k. Array k u) counts ∙ ap (λ k. Array d k) numbers in
      table.distinct i j (Array d v) (e ∙ ap (λ k. Some k) shapes) f
  same_shapes n l h i j a b (Array c u) _ e f same = cc
  same_shapes n l h i j a b NoFields NoFields e f same = table.distinct i j NoFields e f
  same_shapes n l h i j a b NoFields _ e f same = cc
  same_shapes n l h i j a b (MoreFields c u) (MoreFields d v) e f same =
      let fronts : type_at (types_of es) c ≡ type_at (types_of es) d = cc in
      let fields : type_at (types_of es) u ≡ type_at (types_of es) v = cc in
      let x = both (nat_lt c i) (nat_lt u i) (parts_before es i (MoreFields c u) table e) in
      let y = both (nat_lt d j) (nat_lt v j) (parts_before es j (MoreFields d v) table f) in
      let c-below : c < i = ltb-true c i x.0 in
      let u-below : u < i = ltb-true u i x.1 in
      let d-below : d < j = ltb-true d j y.0 in
      let v-below : v < j = ltb-true v j y.1 in
      let front_numbers : c ≡ d = h c d (omega (arith, c-below, a)) (omega (arith, d-below, b)) (omega (arith, l)) fronts in
      let field_numbers : u ≡ v = h u v (omega (arith, u-below, a)) (omega (arith, v-below, b)) (omega (arith, l)) fields in
      let shapes : MoreFields c u ≡ MoreFields d v = ap (λ k. MoreFields k u) front_numbers ∙ ap (λ k. MoreFields d k) field_numbers in
      table.distinct i j (MoreFields d v) (e ∙ ap (λ k. Some k) shapes) f
  same_shapes n l h i j a b (MoreFields c u) _ e f same = cc

  same_numbers : (n : ℕ) → SameNumbers n
  same_numbers zero i j a b l e = absurd (omega (arith, a))
  same_numbers (suc n) i j a b l e =
      let m = keys_length es in
      let p = key_at (keys_of es) i (omega (arith, a, l, m)) in
      let q = key_at (keys_of es) j (omega (arith, b, l, m)) in
      same_shapes n (omega (arith, l)) (same_numbers n) i j (omega (arith, a)) (omega (arith, b)) p.0 q.0 p.1 q.1
      (sym (key_type es i p.0 table p.1) ∙ e ∙ key_type es j q.0 table q.1)

  pub number_of_type : (i j : ℕ) → i < length (types_of es) → j < length (types_of es) → type_at (types_of es) i ≡ type_at (types_of es) j → i ≡ j
  number_of_type i j a b e =
      let m = types_count es in
      same_numbers (length es) i j (omega (arith, a, m)) (omega (arith, b, m)) (omega arith) e

-- ---- equal types

pub same_width_true : (v w : Width) → same_width v w ≡ true → v ≡ w
same_width_true W1 W1 e = refl
same_width_true W1 _ e = cc
same_width_true W8 W8 e = refl
same_width_true W8 _ e = cc
same_width_true W16 W16 e = refl
same_width_true W16 _ e = cc
same_width_true W32 W32 e = refl
same_width_true W32 _ e = cc
same_width_true W64 W64 e = refl
same_width_true W64 _ e = cc

own_width : (w : Width) → same_width w w ≡ true
own_width W1 = refl
own_width W8 = refl
own_width W16 = refl
own_width W32 = refl
own_width W64 = refl

pub same_type_true : (r s : ResolvedType) → same_type r s ≡ true → r ≡ s
unfolding same_type
same_type_true (resolved.IntegerType v) (resolved.IntegerType w) e = ap (λ u. resolved.IntegerType u) (same_width_true v w e)
same_type_true (resolved.IntegerType v) _ e = cc
same_type_true resolved.PointerType resolved.PointerType e = refl
same_type_true resolved.PointerType _ e = cc
same_type_true resolved.VoidType resolved.VoidType e = refl
same_type_true resolved.VoidType _ e = cc
same_type_true (resolved.ArrayType m t) (resolved.ArrayType n u) e =
    let p = both (m == n) (same_type t u) e in
    ap (λ k. resolved.ArrayType k t) (eqb-true m n p.0) ∙ ap (λ k. resolved.ArrayType n k) (same_type_true t u p.1)
same_type_true (resolved.ArrayType m t) _ e = cc
same_type_true resolved.NoFields resolved.NoFields e = refl
same_type_true resolved.NoFields _ e = cc
same_type_true (resolved.MoreFields s t) (resolved.MoreFields r u) e =
    let p = both (same_type s r) (same_type t u) e in
    ap (λ k. resolved.MoreFields k t) (same_type_true s r p.0) ∙ ap (λ k. resolved.MoreFields r k) (same_type_true t u p.1)
same_type_true (resolved.MoreFields s t) _ e = cc

own_type : (r : ResolvedType) → same_type r r ≡ true
unfolding same_type
own_type (resolved.IntegerType w) = own_width w
own_type resolved.PointerType = refl
own_type resolved.VoidType = refl
own_type (resolved.ArrayType n t) = ap (λ b. b && same_type t t) (eq-eqb n n refl) ∙ own_type t
own_type resolved.NoFields = refl
own_type (resolved.MoreFields s t) = ap (λ b. b && same_type t t) (own_type s) ∙ own_type t

-- types are equal exactly where their numbers are
pub same_by_number : (es : List (Shape × Layout)) (i j : ℕ) → IsTable es → i < length (types_of es) → j < length (types_of es)
    → (i == j) ≡ same_type (type_at (types_of es) i) (type_at (types_of es) j)
same_by_number es i j t a b = by (i == j) (same_type (type_at (types_of es) i) (type_at (types_of es) j)) refl refl
  where
    by : (x y : Bool) → (i == j) ≡ x → same_type (type_at (types_of es) i) (type_at (types_of es) j) ≡ y → x ≡ y
    by true true e f = refl
    by false false e f = refl
    by true false e f = absurd (true≢false (sym (own_type (type_at (types_of es) i)) ∙ ap (λ k. same_type (type_at (types_of es) i) (type_at (types_of es) k)) (eqb-true i j e) ∙ f))
    by false true e f = absurd (true≢false (sym (eq-eqb i j (number_of_type es t i j a b (same_type_true (type_at (types_of es) i) (type_at (types_of es) j) f))) ∙ e))
