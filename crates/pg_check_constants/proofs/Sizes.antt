-- Types that keep within the limit of sizes, and what they are made of.
use Rattle.std.proofs.Common.{◌≡◌, ℕ, zero, suc, ◌+◌, ◌<◌, ◌≤◌, List, [], ◌∷◌, ◌++◌, length, drop, slice_get, Option, Some, None, IfSome, ℤ, pos, negsuc, sym}
use Rattle.std.proofs.Common.{subst, ◌∙◌, arith}
use Rattle.std.proofs.Math.Nat.{min-eq_left}
use Rattle.std.specs.List.{AllByRecursion}
use Rattle.pg_num.specs.declared.limits.TheConstants.{SIZE_LIMIT}
use Rattle.pg_num.specs.declared.width.Width.{Width}
use Rattle.pg_num.specs.declared.width.Width.TheVariants.{W1, W8, W16, W32, W64}
use Rattle.pg_check_types.specs.declared.cap.TheConstants.{LAYOUT_CAP}
use Rattle.pg_check_types.specs.Resolved.{ResolvedType, IntegerType, PointerType, VoidType, ArrayType, NoFields, MoreFields}
use Rattle.pg_check_types.specs.Layout.{bytes_of, alignment_of, size_of, fields_end, next_offset, field_list, size_or_none}
use Rattle.pg_check_types.specs.Capped.{capped}
use Rattle.pg_check_types.specs.Table.{type_at}
use Rattle.pg_check_types.specs.Known.{denoted, IsWithin}
use Rattle.pg_check_types.proofs.Alignments.{aligned, rounds_up, end_within}
use Rattle.pg_check_rules.specs.ValueConditions.{element_of, field_at}
use Rattle.pg_check_constants.specs.Indices.{type_within}
use Rattle.pg_check_constants.specs.Sizes.{AllFit, FieldsFit}

-- ---- widths

bytes_few : (w : Width) → bytes_of w ≤ SIZE_LIMIT
bytes_few W1 = omega arith
bytes_few W8 = omega arith
bytes_few W16 = omega arith
bytes_few W32 = omega arith
bytes_few W64 = omega arith

-- ---- sizes of a type and of its parts

-- a type that fits is no larger than types may be
pub own_size : (t : ResolvedType) → AllFit t → size_of t ≤ SIZE_LIMIT
unfolding AllFit size_of
own_size (IntegerType w) h = bytes_few w
own_size PointerType h = omega arith
own_size VoidType h = omega arith
own_size (ArrayType n t) h = h.0
own_size NoFields h = omega arith
own_size (MoreFields s t) h = h.0

pub size_fits : (o : Option ResolvedType) → IfSome o AllFit → size_or_none o ≤ SIZE_LIMIT
size_fits None h = omega arith
size_fits (Some t) h = own_size t h

pub own_end : (t : ResolvedType) → AllFit t → fields_end t ≤ SIZE_LIMIT
own_end t h = omega (arith, end_within t, own_size t h)

-- the fields before the last end before it
pub front_end : (s t : ResolvedType) → fields_end s ≤ fields_end (MoreFields s t)
unfolding fields_end
front_end s t = omega (arith, rounds_up (fields_end s) (alignment_of t) (aligned t))

-- where a field ends that comes behind those of another structure, that structure does too
pub end_small : (s t : ResolvedType) → next_offset s t + size_of t ≤ SIZE_LIMIT → fields_end s ≤ SIZE_LIMIT
end_small s t h = omega (arith, rounds_up (fields_end s) (alignment_of t) (aligned t), h)

-- so its end is kept exactly
pub end_kept : (s t : ResolvedType) (end : ℕ) → end ≡ capped (fields_end s) → next_offset s t + size_of t ≤ SIZE_LIMIT → end ≡ fields_end s
end_kept s t end e h = let l = end_small s t h in let m : fields_end s ≤ LAYOUT_CAP = omega (arith, l) in e ∙ min-eq_left m

-- ---- fields

pub all_joined : {X : Type 0} (P : X → Type 0) (xs ys : List X) → AllByRecursion P xs → AllByRecursion P ys → AllByRecursion P (xs ++ ys)
all_joined P [] ys h g = g
all_joined P (x ∷ xs) ys h g = (h.0, all_joined P xs ys h.1 g)

pub all_there : {X : Type 0} (P : X → Type 0) (xs : List X) (k : ℕ) → AllByRecursion P xs → IfSome (slice_get xs k) P
all_there P [] k h = tt
all_there P (x ∷ xs) zero h = h.0
all_there P (x ∷ xs) (suc k) h = all_there P xs k h.1

-- what is left of a list begins with one of its elements
pub all_left : {X : Type 0} (P : X → Type 0) (xs : List X) (k : ℕ) (x : X) (ys : List X) → AllByRecursion P xs → drop k xs ≡ x ∷ ys → P x
all_left P [] zero x ys h e = absurd cc
all_left P [] (suc k) x ys h e = absurd cc
all_left P (z ∷ zs) zero x ys h e =
    let same : z ≡ x = cc in
    subst P same h.0
all_left P (z ∷ zs) (suc k) x ys h e = all_left P zs k x ys h.1 e

pub each_field : (t : ResolvedType) → FieldsFit t → AllByRecursion AllFit (field_list t)
unfolding FieldsFit
each_field (IntegerType w) h = tt
each_field PointerType h = tt
each_field VoidType h = tt
each_field (ArrayType n t) h = tt
each_field NoFields h = tt
each_field (MoreFields s t) h = all_joined AllFit (field_list s) (t ∷ []) (each_field s h.0) (h.1, tt)

pub own_fields : (t : ResolvedType) → AllFit t → AllByRecursion AllFit (field_list t)
unfolding AllFit FieldsFit
own_fields (IntegerType w) h = tt
own_fields PointerType h = tt
own_fields VoidType h = tt
own_fields (ArrayType n t) h = tt
own_fields NoFields h = tt
own_fields (MoreFields s t) h = each_field (MoreFields s t) (h.1, h.2)

-- ---- elements, and the types into which indices go

pub element_fits : (t : ResolvedType) → AllFit t → IfSome (element_of (Some t)) AllFit
unfolding AllFit
element_fits (IntegerType w) h = tt
element_fits PointerType h = tt
element_fits VoidType h = tt
element_fits (ArrayType n t) h = h.1
element_fits NoFields h = tt
element_fits (MoreFields s t) h = tt

pub field_fits : (t : ResolvedType) (i : Option ℤ) → AllFit t → IfSome (field_at t i) AllFit
field_fits t None h = tt
field_fits t (Some (negsuc k)) h = tt
field_fits t (Some (pos k)) h = all_there AllFit (field_list t) k (own_fields t h)

pub inner_fits : (o : Option ResolvedType) (i : Option ℤ) → IfSome o AllFit → IfSome (type_within o i) AllFit
unfolding AllFit
inner_fits None i h = tt
inner_fits (Some (IntegerType w)) i h = tt
inner_fits (Some PointerType) i h = tt
inner_fits (Some VoidType) i h = tt
inner_fits (Some (ArrayType n t)) i h = h.1
inner_fits (Some NoFields) i h = tt
inner_fits (Some (MoreFields s t)) i h = field_fits (MoreFields s t) i h

-- ---- types by their numbers

pub at_number : (table : List ResolvedType) (number : ℕ) → number < length table → IfSome (slice_get table number) AllFit → AllFit (type_at table number)
at_number [] number l h = absurd (omega (arith, l))
at_number (t ∷ table) zero l h = h
at_number (t ∷ table) (suc number) l h = at_number table number (omega (arith, l)) h

pub some_fits : (table : List ResolvedType) (o : Option ℕ) (number : ℕ) → o ≡ Some number → IsWithin table o → IfSome (denoted table o) AllFit → AllFit (type_at table number)
some_fits table o number e l h = at_number table number (subst (λ q. IsWithin table q) e l) (subst (λ q. IfSome (denoted table q) AllFit) e h)

-- the elements of an array are no larger than types may be
pub element_size : (t e : ResolvedType) (n : ℕ) → AllFit t → ArrayType n e ≡ t → size_of e ≤ SIZE_LIMIT
unfolding AllFit
element_size t e n h s =
    let whole : AllFit (ArrayType n e) = subst AllFit (sym s) h in
    own_size e whole.1

-- what is written of a type that fits, by its number
pub written_fits : (o p : Option ResolvedType) → o ≡ p → IfSome p AllFit → IfSome o AllFit
written_fits o p e h = subst (λ q. IfSome q AllFit) (sym e) h

pub element_there : (table : List ResolvedType) (t : ResolvedType) (number : ℕ) → number < length table → slice_get table number ≡ element_of (Some t) → AllFit t
    → AllFit (type_at table number)
element_there table t number l e h = at_number table number l (subst (λ q. IfSome q AllFit) (sym e) (element_fits t h))
