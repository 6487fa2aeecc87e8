-- Values within values.
use Rattle.std.proofs.Common.{◌≡◌, List, [], ◌∷◌, ◌++◌, map, refl, sym, ap, ◌∙◌, Vec, Global}
use Rattle.std.specs.List.{flat_map}
use Rattle.std.proofs.lemmas.List.{append_assoc}
use Rattle.std.specs.declared.boxed.Box.{Box}
use Rattle.pg_read_lex.specs.declared.token.Span.{Span}
use Rattle.pg_read_ast.specs.declared.types.TypeNode.{TypeNode}
use Rattle.pg_read_ast.specs.declared.values.TypedVal.{TypedVal}
use Rattle.pg_read_ast.specs.declared.values.ValNode.{ValNode}
use Rattle.pg_read_ast.specs.declared.values.ValNode.TheViews.{GetElementPtr}
use Rattle.pg_read_ast.specs.Syntax.{Typed, vals, NamedType}
use Rattle.pg_read_ast.specs.Views.{ty_of, val_of, typed_of}
use Rattle.pg_read_ast.proofs.Folded.{gep_view}
use Rattle.pg_check_types.specs.Resolved.{is_integer, is_pointer}
use Rattle.pg_check_rules.specs.Written.{Use, typed_list, inner_uses, index_uses, with_inner, constant_at, own_types, own_demands, asks, asks_typed, isnt_void}
use Rattle.pg_check_rules.specs.TypeConditions.{unmet}
use Rattle.pg_check_rules.specs.ValueConditions.{wrong_indices, inner_indices}
use Rattle.pg_check_values.specs.Uses.{integer_row}
use Rattle.pg_check_values.proofs.EarliestPlaces.{flat_map_more, flat_map_map}

pub list_of_vals : (vs : List Typed) → typed_list (vals vs) ≡ vs
list_of_vals [] = refl
list_of_vals (v ∷ vs) = ap (λ us. v ∷ us) (list_of_vals vs)

index_rows : {Y : Type 0} (f : Use → List Y) (is : List Typed) → flat_map f (index_uses (vals is)) ≡ flat_map (λ (t : Typed). flat_map f (with_inner (constant_at t.ty t.value))) is
unfolding index_uses
index_rows f [] = refl
index_rows f (t ∷ is) =
    ap (λ zs. f (constant_at t.ty t.value) ++ zs)
    (flat_map_more f (inner_uses t.value) (index_uses (vals is)) ∙ ap (λ zs. flat_map f (inner_uses t.value) ++ zs) (index_rows f is))
    ∙ sym (append_assoc (f (constant_at t.ty t.value)) (flat_map f (inner_uses t.value)) (flat_map (λ (u : Typed). flat_map f (with_inner (constant_at u.ty u.value))) is))

-- the values within a getelementptr: its pointer, those within that, and then its indices
pub gep_rows : {Y : Type 0} (f : Use → List Y) (s : Span) (t u : TypeNode) (b : Box ValNode Global) (v : Vec TypedVal Global)
    → flat_map f (inner_uses (val_of (GetElementPtr s t u b v)))
    ≡ (f (constant_at (ty_of u) (val_of b.value)) ++ flat_map f (inner_uses (val_of b.value))) ++ flat_map (λ (t : Typed). flat_map f (with_inner (constant_at t.ty t.value))) (map typed_of v.items)
unfolding inner_uses
gep_rows f s t u b v =
    let own = f (constant_at (ty_of u) (val_of b.value)) in
    let within = flat_map f (inner_uses (val_of b.value)) in
    ap (λ x. flat_map f (inner_uses x)) (gep_view s t u b v)
    ∙ ap (λ zs. own ++ zs) (flat_map_more f (inner_uses (val_of b.value)) (index_uses (vals (map typed_of v.items))))
    ∙ ap (λ zs. own ++ (within ++ zs)) (index_rows f (map typed_of v.items))
    ∙ sym (append_assoc own within (flat_map (λ (t : Typed). flat_map f (with_inner (constant_at t.ty t.value))) (map typed_of v.items)))

-- the types that a getelementptr writes
pub gep_types : (s : Span) (t u : TypeNode) (b : Box ValNode Global) (v : Vec TypedVal Global)
    → own_types (val_of (GetElementPtr s t u b v)) ≡ ty_of t ∷ ty_of u ∷ map (λ (i : Typed). i.ty) (map typed_of v.items)
gep_types s t u b v =
    ap (λ x. own_types x) (gep_view s t u b v)
    ∙ ap (λ is. ty_of t ∷ ty_of u ∷ map (λ (i : Typed). i.ty) is) (list_of_vals (map typed_of v.items))

-- what a getelementptr asks of its types
pub gep_demands : (types : List NamedType) (s : Span) (t u : TypeNode) (b : Box ValNode Global) (v : Vec TypedVal Global)
    → flat_map (unmet types) (own_demands (val_of (GetElementPtr s t u b v)))
    ≡ unmet types (asks isnt_void (ty_of t)) ++ (unmet types (asks is_pointer (ty_of u)) ++ flat_map (integer_row types) (map typed_of v.items))
gep_demands types s t u b v =
    ap (λ x. flat_map (unmet types) (own_demands x)) (gep_view s t u b v)
    ∙ ap (λ is. flat_map (unmet types) (asks isnt_void (ty_of t) ∷ asks is_pointer (ty_of u) ∷ map (asks_typed is_integer) is)) (list_of_vals (map typed_of v.items))
    ∙ ap (λ zs. unmet types (asks isnt_void (ty_of t)) ++ (unmet types (asks is_pointer (ty_of u)) ++ zs)) (flat_map_map (unmet types) (asks_typed is_integer) (map typed_of v.items))

-- the indices of a getelementptr
pub gep_indices : (types : List NamedType) (s : Span) (t u : TypeNode) (b : Box ValNode Global) (v : Vec TypedVal Global)
    → inner_indices types (val_of (GetElementPtr s t u b v)) ≡ wrong_indices types (ty_of t) (map typed_of v.items)
gep_indices types s t u b v =
    ap (λ x. inner_indices types x) (gep_view s t u b v) ∙ ap (λ is. wrong_indices types (ty_of t) is) (list_of_vals (map typed_of v.items))
