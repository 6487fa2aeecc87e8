-- Sizes that are kept up to the limit.
use Rattle.std.proofs.Common.{◌≡◌, ℕ, zero, suc, ◌+◌, ◌*◌, ◌<◌, ◌≤◌, ◌⊎◌, inl, inr, min, max, length, refl, sym, ap, subst, ◌∙◌, arith}
use Rattle.std.proofs.lemmas.Bool.{cases_lt}
use Rattle.std.proofs.Math.Nat.{zero-mul, suc-mul, min-eq_left, min-eq_right}
use Rattle.pg_read_ast.specs.pg_num.declared.width.Width.{Width}
use Rattle.pg_read_ast.specs.pg_num.declared.width.Width.TheVariants.{W1, W8, W16, W32, W64}
use Rattle.pg_check_types.specs.declared.cap.TheConstants.{LAYOUT_CAP}
use Rattle.pg_check_types.specs.declared.layout.Layout.{Layout}
use Rattle.pg_check_types.specs.Resolved.{ResolvedType, IntegerType, PointerType, VoidType, ArrayType, NoFields, MoreFields}
use Rattle.pg_check_types.specs.Layout.{bytes_of, round_up, size_of, fields_end, alignment_of, field_list}
use Rattle.pg_check_types.specs.Capped.{capped, IsLayout}
use Rattle.pg_check_types.proofs.Fronts.{field_count}

-- a type that isn't an aggregate
scalar_layout : (l : Layout) (t : ResolvedType) (n : ℕ) → l.size ≡ n → l.fields_end ≡ 0 → l.alignment ≡ n → n ≡ capped (size_of t) → 0 ≡ capped (fields_end t)
    → n ≡ alignment_of t → l.fields ≡ length (field_list t) → IsLayout l t
scalar_layout l t n s e a x y z f = record { size = s ∙ x; fields_end = e ∙ y; alignment = a ∙ z; fields = f }

pub integer_layout : (l : Layout) (w : Width) → l.size ≡ bytes_of w → l.fields_end ≡ 0 → l.alignment ≡ bytes_of w → l.fields ≡ 0 → IsLayout l (IntegerType w)
unfolding size_of fields_end alignment_of
integer_layout l W1 s e a f = scalar_layout l (IntegerType W1) 1 s e a refl refl refl f
integer_layout l W8 s e a f = scalar_layout l (IntegerType W8) 1 s e a refl refl refl f
integer_layout l W16 s e a f = scalar_layout l (IntegerType W16) 2 s e a refl refl refl f
integer_layout l W32 s e a f = scalar_layout l (IntegerType W32) 4 s e a refl refl refl f
integer_layout l W64 s e a f = scalar_layout l (IntegerType W64) 8 s e a refl refl refl f

pub pointer_layout : (l : Layout) → l.size ≡ 8 → l.fields_end ≡ 0 → l.alignment ≡ 8 → l.fields ≡ 0 → IsLayout l PointerType
unfolding size_of fields_end alignment_of
pointer_layout l s e a f = record { size = s; fields_end = e; alignment = a; fields = f }

pub void_layout : (l : Layout) → l.size ≡ 0 → l.fields_end ≡ 0 → l.alignment ≡ 1 → l.fields ≡ 0 → IsLayout l VoidType
unfolding size_of fields_end alignment_of
void_layout l s e a f = record { size = s; fields_end = e; alignment = a; fields = f }

pub no_fields_layout : (l : Layout) → l.size ≡ 0 → l.fields_end ≡ 0 → l.alignment ≡ 1 → l.fields ≡ 0 → IsLayout l NoFields
unfolding size_of fields_end alignment_of
no_fields_layout l s e a f = record { size = s; fields_end = e; alignment = a; fields = f }

-- ---- arrays

min_times : (n s c : ℕ) → min (n * min s c) c ≡ min (n * s) c
min_times n s c = by_order n (cases_lt s c)
  where
    large : (k : ℕ) → c ≤ s → min (k * min s c) c ≡ min (k * s) c
    large zero l = ap (λ x. min x c) (zero-mul (min s c) ∙ sym (zero-mul s))
    large (suc k) l =
        let e : suc k * c ≡ k * c + c = suc-mul k c in
        let f : suc k * s ≡ k * s + s = suc-mul k s in
        let a : c ≤ suc k * c = omega (arith, e) in
        let b : c ≤ suc k * s = omega (arith, f, l) in
        ap (λ x. min (suc k * x) c) (min-eq_right l) ∙ min-eq_right a ∙ sym (min-eq_right b)

    by_order : (n : ℕ) → (s < c) ⊎ (c ≤ s) → min (n * min s c) c ≡ min (n * s) c
    by_order n (inl l) = let m : s ≤ c = omega (arith, l) in ap (λ x. min (n * x) c) (min-eq_left m)
    by_order n (inr l) = large n l

pub array_layout : (n : ℕ) (l r : Layout) → r.size ≡ capped (n * l.size) → r.fields_end ≡ 0 → r.alignment ≡ l.alignment → r.fields ≡ 0 → (t : ResolvedType) → IsLayout l t
    → IsLayout r (ArrayType n t)
unfolding size_of fields_end alignment_of
array_layout n l r s e a f t h = record { size = s ∙ ap (λ s. capped (n * s)) h.size ∙ min_times n (size_of t) LAYOUT_CAP; fields_end = e; alignment = a ∙ h.alignment; fields = f }

-- ---- structures

abbrev IsAlignment : ℕ → Type 0
IsAlignment a = (a ≡ 1) ⊎ ((a ≡ 2) ⊎ ((a ≡ 4) ⊎ (a ≡ 8)))

width_alignment : (w : Width) → IsAlignment (bytes_of w)
width_alignment W1 = inl refl
width_alignment W8 = inl refl
width_alignment W16 = inr (inl refl)
width_alignment W32 = inr (inr (inl refl))
width_alignment W64 = inr (inr (inr refl))

max_alignment : (a b : ℕ) → IsAlignment a → IsAlignment b → IsAlignment (max a b)
max_alignment a b x y = by_order (cases_lt a b)
  where
    by_order : (a < b) ⊎ (b ≤ a) → IsAlignment (max a b)
    by_order (inl l) = let e : max a b ≡ b = omega (arith, l) in subst (λ m. IsAlignment m) (sym e) y
    by_order (inr l) = let e : max a b ≡ a = omega (arith, l) in subst (λ m. IsAlignment m) (sym e) x

type_alignment : (t : ResolvedType) → IsAlignment (alignment_of t)
unfolding alignment_of
type_alignment (IntegerType w) = width_alignment w
type_alignment PointerType = inr (inr (inr refl))
type_alignment VoidType = inl refl
type_alignment (ArrayType n t) = type_alignment t
type_alignment NoFields = inl refl
type_alignment (MoreFields s t) = max_alignment (alignment_of s) (alignment_of t) (type_alignment s) (type_alignment t)

-- rounding up gives no less, and leaves the limit as it is
rounds_up : (n a : ℕ) → IsAlignment a → n ≤ round_up n a
rounds_up n a (inl e) = subst (λ b. n ≤ round_up n b) (sym e) (omega arith)
rounds_up n a (inr (inl e)) = subst (λ b. n ≤ round_up n b) (sym e) (omega arith)
rounds_up n a (inr (inr (inl e))) = subst (λ b. n ≤ round_up n b) (sym e) (omega arith)
rounds_up n a (inr (inr (inr e))) = subst (λ b. n ≤ round_up n b) (sym e) (omega arith)

limit_rounds : (a : ℕ) → IsAlignment a → round_up LAYOUT_CAP a ≡ LAYOUT_CAP
limit_rounds a (inl e) = ap (λ b. round_up LAYOUT_CAP b) e
limit_rounds a (inr (inl e)) = ap (λ b. round_up LAYOUT_CAP b) e
limit_rounds a (inr (inr (inl e))) = ap (λ b. round_up LAYOUT_CAP b) e
limit_rounds a (inr (inr (inr e))) = ap (λ b. round_up LAYOUT_CAP b) e

-- a further part at the next multiple of its alignment
min_placed : (x y a c : ℕ) → round_up c a ≡ c → x ≤ round_up x a → min (round_up (min x c) a + min y c) c ≡ min (round_up x a + y) c
min_placed x y a c r u = by_order (cases_lt x c)
  where
    by_order : (x < c) ⊎ (c ≤ x) → min (round_up (min x c) a + min y c) c ≡ min (round_up x a + y) c
    by_order (inl l) =
        let m : x ≤ c = omega (arith, l) in
        ap (λ z. min (round_up z a + min y c) c) (min-eq_left m) ∙ plus (round_up x a)
      where
        plus : (p : ℕ) → min (p + min y c) c ≡ min (p + y) c
        plus p = omega arith
    by_order (inr l) =
        let b : c ≤ round_up x a + y = omega (arith, l, u) in
        let d : c ≤ c + min y c = omega arith in
        ap (λ z. min (round_up z a + min y c) c) (min-eq_right l) ∙ ap (λ z. min (z + min y c) c) r ∙ min-eq_right d ∙ sym (min-eq_right b)

min_rounded : (x a c : ℕ) → round_up c a ≡ c → x ≤ round_up x a → min (round_up (min x c) a) c ≡ min (round_up x a) c
min_rounded x a c r u = by_order (cases_lt x c)
  where
    by_order : (x < c) ⊎ (c ≤ x) → min (round_up (min x c) a) c ≡ min (round_up x a) c
    by_order (inl l) = let m : x ≤ c = omega (arith, l) in ap (λ z. min (round_up z a) c) (min-eq_left m)
    by_order (inr l) =
        let b : c ≤ round_up x a = omega (arith, l, u) in
        let d : c ≤ c = omega arith in
        ap (λ z. min (round_up z a) c) (min-eq_right l) ∙ ap (λ z. min z c) r ∙ min-eq_right d ∙ sym (min-eq_right b)

placed : (x y a : ℕ) → IsAlignment a → capped (round_up (capped x) a + capped y) ≡ capped (round_up x a + y)
placed x y a h = min_placed x y a LAYOUT_CAP (limit_rounds a h) (rounds_up x a h)

rounded : (x a : ℕ) → IsAlignment a → capped (round_up (capped x) a) ≡ capped (round_up x a)
rounded x a h = min_rounded x a LAYOUT_CAP (limit_rounds a h) (rounds_up x a h)

pub field_layout : (f l r : Layout) → r.fields_end ≡ capped (round_up f.fields_end l.alignment + l.size) → r.alignment ≡ max f.alignment l.alignment
    → r.size ≡ capped (round_up r.fields_end r.alignment) → r.fields ≡ f.fields + 1
    → (s t : ResolvedType) → IsLayout f s → IsLayout l t → IsLayout r (MoreFields s t)
unfolding size_of fields_end alignment_of
field_layout f l r e a z n s t g h = record {
  size = z ∙ ap (λ n. capped (round_up n r.alignment)) ended ∙ ap (λ n. capped (round_up (capped (round_up (fields_end s) (alignment_of t) + size_of t)) n)) aligned
      ∙ rounded (round_up (fields_end s) (alignment_of t) + size_of t) (max (alignment_of s) (alignment_of t))
      (max_alignment (alignment_of s) (alignment_of t) (type_alignment s) (type_alignment t));
  fields_end = ended;
  alignment = aligned;
  fields = n ∙ ap (λ k. k + 1) g.fields ∙ sym (field_count s t);
}
  where
    aligned : r.alignment ≡ max (alignment_of s) (alignment_of t)
    aligned = a ∙ ap (λ n. max n l.alignment) g.alignment ∙ ap (λ n. max (alignment_of s) n) h.alignment

    ended : r.fields_end ≡ capped (round_up (fields_end s) (alignment_of t) + size_of t)
    ended = e ∙ ap (λ n. capped (round_up n l.alignment + l.size)) g.fields_end ∙ ap (λ n. capped (round_up (capped (fields_end s)) n + l.size)) h.alignment
        ∙ ap (λ n. capped (round_up (capped (fields_end s)) (alignment_of t) + n)) h.size ∙ placed (fields_end s) (size_of t) (alignment_of t) (type_alignment t)
