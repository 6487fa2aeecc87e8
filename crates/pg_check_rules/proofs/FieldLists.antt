-- The fields of a structure, from the last to the first, and the one that an index chooses.
use Rattle.std.proofs.Common.{◌≡◌, ℕ, zero, suc, ◌+◌, ◌<◌, ◌≤◌, List, [], ◌∷◌, ◌++◌, length, map, reverse, slice_get, unwrap_or, is_some, Option, Some, None, IfSome}
use Rattle.std.proofs.Common.{ℤ, pos, negsuc, refl, sym, ap, subst, ◌∙◌, append_assoc, length-append, arith}
use Rattle.std.specs.Option.{option_map}
use Rattle.std.proofs.lemmas.List.{reverse-append, map-append, append-nil}
use Rattle.pg_check_types.specs.Resolved.{ResolvedType, IntegerType, PointerType, VoidType, ArrayType, NoFields, MoreFields}
use Rattle.pg_check_types.specs.Layout.{field_list, field_offsets, next_offset, size_of, fields_end, alignment_of}
use Rattle.pg_check_types.specs.Table.{type_at, without_last, IsBeginning}
use Rattle.pg_check_types.specs.Known.{denoted, IsWithin}
use Rattle.pg_check_types.proofs.Alignments.{aligned, rounds_up}
use Rattle.pg_check_types.proofs.Fronts.{field_count}
use Rattle.pg_check_rules.specs.ValueConditions.{field_at}
use Rattle.pg_check_rules.specs.Constants.{offset_at}
use Rattle.pg_check_rules.specs.declared.fields.LastField.{LastField}
use Rattle.pg_check_rules.specs.Fields.{HasNoFields, IsLast, IsChosen, AreFields, FieldsBehind, field_type, place_of_index}

pub in_table : (table : List ResolvedType) (t : ℕ) → t < length table → slice_get table t ≡ Some (type_at table t)
in_table [] t l = absurd (omega (arith, l))
in_table (u ∷ table) zero l = refl
in_table (u ∷ table) (suc t) l = in_table table t (omega (arith, l))

-- no field is behind a whole type
pub none_behind : (table : List ResolvedType) (t : ResolvedType) → FieldsBehind table t t []
none_behind table t = append-nil (map (λ u. Some u) (field_list t))

-- one field more
pub one_behind : (table : List ResolvedType) (t : ResolvedType) (rest : ℕ) (last : LastField) (fields : List ℕ)
    → IsLast table rest last → FieldsBehind table (type_at table rest) t fields → FieldsBehind table (type_at table last.front) t (fields ++ last.field ∷ [])
one_behind table t rest last fields l b =
    let s = type_at table last.front in
    let u = type_at table last.field in
    let turned : reverse (fields ++ last.field ∷ []) ≡ last.field ∷ reverse fields = reverse-append fields (last.field ∷ []) in
    ap (λ fs. map (λ u. Some u) (field_list s) ++ map (field_type table) fs) turned
    ∙ ap (λ o. map (λ u. Some u) (field_list s) ++ o ∷ map (field_type table) (reverse fields)) (in_table table last.field l.within)
    ∙ sym (append_assoc (map (λ u. Some u) (field_list s)) (Some u ∷ []) (map (field_type table) (reverse fields)))
    ∙ ap (λ us. us ++ map (field_type table) (reverse fields)) (sym (map-append (λ u. Some u) (field_list s) (u ∷ [])))
    ∙ ap (λ r. map (λ u. Some u) (field_list r) ++ map (field_type table) (reverse fields)) (sym l.whole)
    ∙ b

-- all fields
pub all_behind : (table : List ResolvedType) (t : ResolvedType) (rest : ℕ) (fields : List ℕ)
    → HasNoFields (type_at table rest) → FieldsBehind table (type_at table rest) t fields → AreFields table t (reverse fields)
all_behind table t rest fields n b = ap (λ us. map (λ u. Some u) us ++ map (field_type table) (reverse fields)) (sym n) ∙ b

-- ---- the field at a place, as the last of a structure of first fields

past_end : {X : Type 0} (xs : List X) (k : ℕ) → length xs ≤ k → slice_get xs k ≡ None
past_end [] k l = refl
past_end (x ∷ xs) zero l = absurd (omega (arith, l))
past_end (x ∷ xs) (suc k) l = past_end xs k (omega (arith, l))

kept_before : {X : Type 0} (xs ys : List X) (k : ℕ) (x : X) → slice_get xs k ≡ Some x → slice_get (xs ++ ys) k ≡ Some x
kept_before [] ys k x e = cc
kept_before (z ∷ xs) ys zero x e = e
kept_before (z ∷ xs) ys (suc k) x e = kept_before xs ys k x e

at_end : {X : Type 0} (xs : List X) (x : X) → slice_get (xs ++ x ∷ []) (length xs) ≡ Some x
at_end [] x = refl
at_end (z ∷ xs) x = at_end xs x

offset_count : (t : ResolvedType) → length (field_offsets t) ≡ length (field_list t)
offset_count (IntegerType w) = refl
offset_count PointerType = refl
offset_count VoidType = refl
offset_count (ArrayType n t) = refl
offset_count NoFields = refl
offset_count (MoreFields s t) =
    length-append (field_offsets s) (next_offset s t ∷ []) ∙ ap (λ n. n + 1) (offset_count s) ∙ sym (length-append (field_list s) (t ∷ []))

field_there : (n : ℕ) (f u t : ResolvedType) → MoreFields f u ≡ without_last n t → slice_get (field_list t) (length (field_list f)) ≡ Some u
field_there zero f u t e = ap (λ x. slice_get (field_list x) (length (field_list f))) (sym e) ∙ at_end (field_list f) u
field_there (suc n) f u (MoreFields s v) e = kept_before (field_list s) (v ∷ []) (length (field_list f)) u (field_there n f u s e)
field_there (suc n) f u (IntegerType w) e = cc
field_there (suc n) f u PointerType e = cc
field_there (suc n) f u VoidType e = cc
field_there (suc n) f u (ArrayType m t) e = cc
field_there (suc n) f u NoFields e = cc

offset_there : (n : ℕ) (f u t : ResolvedType) → MoreFields f u ≡ without_last n t → slice_get (field_offsets t) (length (field_list f)) ≡ Some (next_offset f u)
offset_there zero f u t e =
    ap (λ x. slice_get (field_offsets x) (length (field_list f))) (sym e)
    ∙ ap (λ k. slice_get (field_offsets (MoreFields f u)) k) (sym (offset_count f))
    ∙ at_end (field_offsets f) (next_offset f u)
offset_there (suc n) f u (MoreFields s v) e =
    kept_before (field_offsets s) (next_offset s v ∷ []) (length (field_list f)) (next_offset f u) (offset_there n f u s e)
offset_there (suc n) f u (IntegerType w) e = cc
offset_there (suc n) f u PointerType e = cc
offset_there (suc n) f u VoidType e = cc
offset_there (suc n) f u (ArrayType m t) e = cc
offset_there (suc n) f u NoFields e = cc

field_ends : (n : ℕ) (f u t : ResolvedType) → MoreFields f u ≡ without_last n t → next_offset f u + size_of u ≤ fields_end t
unfolding fields_end
field_ends zero f u t e = subst (λ x. next_offset f u + size_of u ≤ fields_end x) e (omega arith)
field_ends (suc n) f u (MoreFields s v) e =
    omega (arith, field_ends n f u s e, rounds_up (fields_end s) (alignment_of v) (aligned v))
field_ends (suc n) f u (IntegerType w) e = cc
field_ends (suc n) f u PointerType e = cc
field_ends (suc n) f u VoidType e = cc
field_ends (suc n) f u (ArrayType m t) e = cc
field_ends (suc n) f u NoFields e = cc

-- a structure of one field more than those before a place ends with the field at that place
last_chosen : (table : List ResolvedType) (t : ResolvedType) (number place : ℕ) (last : LastField) → number < length table
    → IsBeginning (type_at table number) t → length (field_list (type_at table number)) ≡ place + 1 → IsLast table number last
    → IsChosen table t (Some (pos place)) last
last_chosen table t number place last w f c l =
    let s = type_at table last.front in
    let u = type_at table last.field in
    let e : MoreFields s u ≡ without_last f.0 t = sym l.whole ∙ f.1 in
    let n : length (field_list s) + 1 ≡ place + 1 = sym (field_count s u) ∙ ap (λ x. length (field_list x)) (sym l.whole) ∙ c in
    let k : length (field_list s) ≡ place = omega (arith, n) in
    record {
      front = omega (arith, l.below, w);
      field = l.within;
      chosen = ap (λ i. slice_get (field_list t) i) (sym k) ∙ field_there f.0 s u t e;
      offset = ap (λ o. unwrap_or o 0) (ap (λ i. slice_get (field_offsets t) i) (sym k) ∙ offset_there f.0 s u t e);
      ends = field_ends f.0 s u t e;
    }

pub chosen_if : (table : List ResolvedType) (t : ResolvedType) (number place : ℕ) (o : Option LastField) → number < length table
    → IsBeginning (type_at table number) t → length (field_list (type_at table number)) ≡ place + 1 → IfSome o (IsLast table number)
    → IfSome o (IsChosen table t (Some (pos place)))
chosen_if table t number place None w f c l = tt
chosen_if table t number place (Some last) w f c l = last_chosen table t number place last w f c l

-- one that has a field has a last one
pub some_last : (t : ResolvedType) (place : ℕ) → length (field_list t) ≡ place + 1 → HasNoFields t → ⊥
some_last t place c n = let e : length (field_list t) ≡ 0 = ap (λ xs. length xs) n in omega (arith, c, e)

-- a place behind all fields has none
pub none_at : (t : ResolvedType) (place : ℕ) → length (field_list t) ≤ place → field_at t (Some (pos place)) ≡ None
none_at t place l = past_end (field_list t) place l

-- ---- what is chosen, if anything is

abbrev pub field_of : Option LastField → Option ℕ
field_of o = option_map (λ (l : LastField). l.field) o

-- the type of the field that is chosen
pub chosen_type : (table : List ResolvedType) (t : ResolvedType) (i : Option ℤ) (o : Option LastField) → IfSome o (IsChosen table t i) → (o ≡ None → field_at t i ≡ None)
    → (denoted table (field_of o) ≡ field_at t i) × IsWithin table (field_of o) × (is_some (field_of o) ≡ is_some (field_at t i))
chosen_type table t i None s n = let e = n refl in (sym e, tt, ap (λ o. is_some o) (sym e))
chosen_type table t i (Some last) s n = (in_table table last.field s.field ∙ sym s.chosen, s.field, ap (λ o. is_some o) (sym s.chosen))

-- the place that an index chooses
pub place_is : (i : Option ℤ) (k : ℕ) → place_of_index i ≡ Some k → i ≡ Some (pos k)
place_is None k e = cc
place_is (Some (negsuc j)) k e = cc
place_is (Some (pos j)) k e = ap (λ o. option_map (λ n. pos n) o) e

pub no_place : (t : ResolvedType) (i : Option ℤ) → place_of_index i ≡ None → field_at t i ≡ None
no_place t None e = refl
no_place t (Some (negsuc j)) e = refl
no_place t (Some (pos j)) e = cc

behind_all : {X : Type 0} (xs : List X) (k : ℕ) → slice_get xs k ≡ None → length xs ≤ k
behind_all [] k e = omega arith
behind_all (x ∷ xs) zero e = cc
behind_all (x ∷ xs) (suc k) e = let l = behind_all xs k e in omega (arith, l)

-- where none is chosen, none begins
pub no_offset : (t : ResolvedType) (i : Option ℤ) → field_at t i ≡ None → 0 ≡ offset_at t i
no_offset t None e = refl
no_offset t (Some (negsuc k)) e = refl
no_offset t (Some (pos k)) e =
    let l = behind_all (field_list t) k e in
    sym (ap (λ o. unwrap_or o 0) (past_end (field_offsets t) k (omega (arith, l, offset_count t))))
