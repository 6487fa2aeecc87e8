-- The bytes of constants, a layer at a time.
use Rattle.std.proofs.Common.{◌≡◌, ℕ, zero, suc, ◌+◌, ◌-◌, ◌<◌, ◌≤◌, List, [], ◌∷◌, ◌++◌, length, map, drop, replicate, get_or, slice_get, Some, None}
use Rattle.std.proofs.Common.{refl, sym, ap, ◌∙◌, arith, length-append, Vec, Global}
use Rattle.std.proofs.lemmas.List.{append_assoc, append-nil}
use Rattle.pg_read_lex.specs.declared.token.Span.{Span}
use Rattle.pg_read_ast.specs.declared.values.TypedConst.{TypedConst}
use Rattle.pg_read_ast.specs.declared.values.ConstNode.{ConstNode}
use Rattle.pg_read_ast.specs.declared.values.ConstNode.TheViews as node
use Rattle.pg_read_ast.specs.Syntax.{Val, ArrayConst, Consts, NoConsts, consts, Tree}
use Rattle.pg_read_ast.specs.Views.{const_of, typed_const_of}
use Rattle.pg_check_types.specs.Kinds.{kind_of}
use Rattle.pg_check_types.specs.Layout.{size_of, alignment_of, round_up, field_list}
use Rattle.pg_check_types.specs.Resolved.{ResolvedType, IntegerType, PointerType, VoidType, ArrayType, NoFields, MoreFields}
use Rattle.pg_check_rules.specs.ValueConditions.{element_of}
use Rattle.pg_check_rules.specs.Constants.{value_bytes, const_bytes, element_bytes, field_bytes, filled}
use Rattle.pg_check_types.specs.Table.{type_at}
use Rattle.pg_check_rules.proofs.ConstantViews.{array_view, struct_view}
use Rattle.pg_check_constants.specs.Initialisers.{kind_bytes, elements_at}

pub bytes_of_kind : (m : Tree) (t : ResolvedType) (v : Val) → kind_bytes m (kind_of t) (size_of t) v ≡ value_bytes m t v
bytes_of_kind m (IntegerType w) v = refl
bytes_of_kind m PointerType v = refl
bytes_of_kind m VoidType v = refl
bytes_of_kind m (ArrayType n t) v = refl
bytes_of_kind m NoFields v = refl
bytes_of_kind m (MoreFields s t) v = refl

-- ---- constants a layer at a time

-- ---- parts in a row

pub drop_next : {X : Type 0} (xs : List X) (k : ℕ) (x d : X) → k < length xs → x ≡ get_or xs k d → drop k xs ≡ x ∷ drop (k + 1) xs
drop_next [] k x d l e = absurd (omega (arith, l))
drop_next (y ∷ xs) zero x d l e = ap (λ z. z ∷ xs) (sym e)
drop_next (y ∷ xs) (suc k) x d l e =
    let more : suc k + 1 ≡ suc (k + 1) = omega arith in
    drop_next xs k x d (omega (arith, l)) e ∙ ap (λ n. x ∷ drop n (y ∷ xs)) (sym more)

pub drop_end : {X : Type 0} (xs : List X) (k : ℕ) → length xs ≤ k → drop k xs ≡ []
drop_end [] zero l = refl
drop_end [] (suc k) l = refl
drop_end (x ∷ xs) zero l = absurd (omega (arith, l))
drop_end (x ∷ xs) (suc k) l = drop_end xs k (omega (arith, l))

-- ---- elements of an array

pub elements_are : (m : Tree) (t : ResolvedType) (s : Span) (cs : Consts) → elements_at m (element_of (Some t)) cs ≡ const_bytes m t (ArrayConst s cs)
unfolding const_bytes
elements_are m (IntegerType w) s cs = refl
elements_are m PointerType s cs = refl
elements_are m VoidType s cs = refl
elements_are m (ArrayType n t) s cs = refl
elements_are m NoFields s cs = refl
elements_are m (MoreFields t u) s cs = refl

number_found : (table : List ResolvedType) (number : ℕ) → number < length table → slice_get table number ≡ Some (type_at table number)
number_found [] number l = absurd (omega (arith, l))
number_found (u ∷ table) zero l = refl
number_found (u ∷ table) (suc number) l = number_found table number (omega (arith, l))

-- the elements of an array, whose type has a number
pub array_is : (m : Tree) (t : ResolvedType) (n : ConstNode) (s : Span) (v : Vec TypedConst Global) (ps : List TypedConst) (table : List ResolvedType) (number : ℕ)
    → n ≡ node.Array s v → ps ≡ v.items → number < length table → slice_get table number ≡ element_of (Some t)
    → element_bytes m (type_at table number) (consts (map typed_const_of ps)) ≡ const_bytes m t (const_of n)
array_is m t n s v ps table number e i l h =
    ap (λ xs. element_bytes m (type_at table number) (consts (map typed_const_of xs))) i
    ∙ ap (λ o. elements_at m o (consts (map typed_const_of v.items))) (sym (number_found table number l) ∙ h)
    ∙ elements_are m t s (consts (map typed_const_of v.items))
    ∙ ap (λ x. const_bytes m t x) (sym (ap const_of e ∙ array_view s v))

-- what isn't an array has no elements
pub no_array : (m : Tree) (t : ResolvedType) (n : ConstNode) (s : Span) (v : Vec TypedConst Global) (front : List ℕ) → n ≡ node.Array s v → None ≡ element_of (Some t)
    → front ≡ front ++ const_bytes m t (const_of n)
no_array m t n s v front e h =
    sym (append-nil front)
    ∙ ap (λ o. front ++ elements_at m o (consts (map typed_const_of v.items))) h
    ∙ ap (λ bs. front ++ bs) (elements_are m t s (consts (map typed_const_of v.items)))
    ∙ ap (λ x. front ++ const_bytes m t x) (sym (ap const_of e ∙ array_view s v))

-- one element more
pub element_step : (m : Tree) (t : ResolvedType) (front : List ℕ) (ps : List TypedConst) (k : ℕ) (p d : TypedConst) → k < length ps → p ≡ get_or ps k d
    → (front ++ const_bytes m t (typed_const_of p).value) ++ element_bytes m t (consts (map typed_const_of (drop (k + 1) ps))) ≡ front
    ++ element_bytes m t (consts (map typed_const_of (drop k ps)))
unfolding element_bytes
element_step m t front ps k p d l e =
    append_assoc front (const_bytes m t (typed_const_of p).value) (element_bytes m t (consts (map typed_const_of (drop (k + 1) ps))))
    ∙ ap (λ xs. front ++ element_bytes m t (consts (map typed_const_of xs))) (sym (drop_next ps k p d l e))

-- no element left
pub elements_end : (m : Tree) (t : ResolvedType) (front : List ℕ) (ps : List TypedConst) (k : ℕ) → length ps ≤ k
    → front ≡ front ++ element_bytes m t (consts (map typed_const_of (drop k ps)))
unfolding element_bytes
elements_end m t front ps k l = sym (append-nil front) ∙ ap (λ xs. front ++ element_bytes m t (consts (map typed_const_of xs))) (sym (drop_end ps k l))

-- ---- fields of a structure

-- fields, and zeros up to the size
pub struct_is : (m : Tree) (t : ResolvedType) (n : ConstNode) (s : Span) (v : Vec TypedConst Global) (ps : List TypedConst) (old all : List ℕ) (size start : ℕ)
    → n ≡ node.Struct s v → ps ≡ v.items → size ≡ size_of t → start ≡ length old → all ≡ old ++ field_bytes m 0 (field_list t) (consts (map typed_const_of ps))
    → all ++ replicate (size - (length all - start)) 0 ≡ old ++ const_bytes m t (const_of n)
unfolding const_bytes
struct_is m t n s v ps old all size start e i z b h =
    let own = field_bytes m 0 (field_list t) (consts (map typed_const_of ps)) in
    let count : length all ≡ length old + length own = ap (λ xs. length xs) h ∙ length-append old own in
    let rest : length all - start ≡ length own = omega (arith, count, b) in
    ap (λ k. all ++ replicate (size - k) 0) rest
    ∙ ap (λ k. all ++ replicate (k - length own) 0) z
    ∙ ap (λ xs. xs ++ replicate (size_of t - length own) 0) h
    ∙ append_assoc old own (replicate (size_of t - length own) 0)
    ∙ ap (λ xs. old ++ filled (size_of t) (field_bytes m 0 (field_list t) (consts (map typed_const_of xs)))) i
    ∙ ap (λ x. old ++ const_bytes m t x) (sym (ap const_of e ∙ struct_view s v))

-- one field more
pub field_step : (m : Tree) (at next : ℕ) (t : ResolvedType) (front before after : List ℕ) (ts : List ResolvedType) (ps : List TypedConst) (k : ℕ) (p d : TypedConst)
    → k < length ps → p ≡ get_or ps k d → drop k ts ≡ t ∷ drop (k + 1) ts
    → next ≡ round_up at (alignment_of t) + size_of t
    → before ≡ front ++ replicate (round_up at (alignment_of t) - at) 0
    → after ≡ before ++ const_bytes m t (typed_const_of p).value
    → after ++ field_bytes m next (drop (k + 1) ts) (consts (map typed_const_of (drop (k + 1) ps))) ≡ front ++ field_bytes m at (drop k ts) (consts (map typed_const_of (drop k ps)))
unfolding field_bytes
field_step m at next t front before after ts ps k p d l e h a b c =
    let zeros = replicate (round_up at (alignment_of t) - at) 0 in
    let own = const_bytes m t (typed_const_of p).value in
    let rest = field_bytes m (round_up at (alignment_of t) + size_of t) (drop (k + 1) ts) (consts (map typed_const_of (drop (k + 1) ps))) in
    ap (λ n. after ++ field_bytes m n (drop (k + 1) ts) (consts (map typed_const_of (drop (k + 1) ps)))) a
    ∙ ap (λ xs. xs ++ rest) (c ∙ ap (λ xs. xs ++ own) b)
    ∙ append_assoc (front ++ zeros) own rest
    ∙ append_assoc front zeros (own ++ rest)
    ∙ ap (λ xs. front ++ field_bytes m at (t ∷ drop (k + 1) ts) (consts (map typed_const_of xs))) (sym (drop_next ps k p d l e))
    ∙ ap (λ us. front ++ field_bytes m at us (consts (map typed_const_of (drop k ps)))) (sym h)

no_parts : (m : Tree) (at : ℕ) (ts : List ResolvedType) → field_bytes m at ts NoConsts ≡ []
unfolding field_bytes
no_parts m at [] = refl
no_parts m at (t ∷ ts) = refl

-- no part left
pub parts_end : (m : Tree) (at : ℕ) (front : List ℕ) (ts : List ResolvedType) (ps : List TypedConst) (k : ℕ) → length ps ≤ k
    → front ≡ front ++ field_bytes m at (drop k ts) (consts (map typed_const_of (drop k ps)))
parts_end m at front ts ps k l =
    sym (append-nil front)
    ∙ ap (λ bs. front ++ bs) (sym (no_parts m at (drop k ts)))
    ∙ ap (λ xs. front ++ field_bytes m at (drop k ts) (consts (map typed_const_of xs))) (sym (drop_end ps k l))

-- no field left
pub fields_end : (m : Tree) (at : ℕ) (front : List ℕ) (ts : List ResolvedType) (ps : List TypedConst) (k : ℕ) → drop k ts ≡ []
    → front ≡ front ++ field_bytes m at (drop k ts) (consts (map typed_const_of (drop k ps)))
unfolding field_bytes
fields_end m at front ts ps k h =
    sym (append-nil front) ∙ ap (λ us. front ++ field_bytes m at us (consts (map typed_const_of (drop k ps)))) (sym h)
