-- Constants of types that keep within the limit of sizes, part by part.
use Rattle.std.proofs.Common.{◌≡◌, ℕ, ◌+◌, ◌<◌, ◌≤◌, List, ◌∷◌, length, map, drop, get_or, sym, ap, ◌∙◌, subst, arith, Vec, Global}
use Rattle.pg_read_lex.specs.declared.token.Span.{Span}
use Rattle.pg_num.specs.declared.limits.TheConstants.{SIZE_LIMIT}
use Rattle.std.specs.declared.boxed.Box.{Box}
use Rattle.pg_read_ast.specs.declared.types.TypeNode.{TypeNode}
use Rattle.pg_read_ast.specs.declared.values.TypedVal.{TypedVal}
use Rattle.pg_read_ast.specs.declared.values.ValNode.{ValNode}
use Rattle.pg_read_ast.specs.declared.values.ValNode.TheViews.{GetElementPtr}
use Rattle.pg_read_ast.specs.declared.values.TypedConst.{TypedConst}
use Rattle.pg_read_ast.specs.declared.values.ConstNode.{ConstNode}
use Rattle.pg_read_ast.specs.declared.values.ConstNode.TheViews as node
use Rattle.pg_read_ast.specs.declared.values.ConstNode as plain
use Rattle.pg_read_ast.specs.Syntax.{consts, NamedType}
use Rattle.pg_read_ast.specs.Views.{ty_of, val_of, const_of, typed_const_of}
use Rattle.pg_read_ast.proofs.Folded.{gep_view}
use Rattle.pg_check_types.specs.Resolved.{ResolvedType}
use Rattle.pg_check_types.specs.Layout.{alignment_of, round_up, size_of, field_list}
use Rattle.pg_check_constants.specs.Sizes.{AllFit, TypeFits, ValFits, ConstFits, PartsFit}
use Rattle.pg_check_constants.proofs.ConstantBytes.{drop_next}
use Rattle.pg_check_rules.proofs.ConstantViews.{val_view, array_view, struct_view}
use Rattle.pg_check_types.proofs.Alignments.{end_from, end_is, end_behind}
use Rattle.pg_check_constants.proofs.Sizes.{own_end, own_fields, all_left}

-- a value
pub value_fits : (types : List NamedType) (n : ConstNode) (v : ValNode) → n ≡ plain.Val v → ConstFits types (const_of n) → ValFits types (val_of v)
unfolding ConstFits
value_fits types n v e h = subst (λ c. ConstFits types c) (ap const_of e ∙ val_view v) h

-- the pointer that constant indices move, and the type into which they go
pub gep_fits : (types : List NamedType) (n : ValNode) (s : Span) (t u : TypeNode) (b : Box ValNode Global) (v : Vec TypedVal Global) → n ≡ GetElementPtr s t u b v
    → ValFits types (val_of n) → TypeFits types (ty_of t) × ValFits types (val_of b.value)
unfolding ValFits
gep_fits types n s t u b v e h = subst (λ x. ValFits types x) (ap val_of e ∙ gep_view s t u b v) h

-- the elements of an array
pub elements_fit : (types : List NamedType) (n : ConstNode) (s : Span) (v : Vec TypedConst Global) (ps : List TypedConst) → n ≡ node.Array s v → ps ≡ v.items
    → ConstFits types (const_of n) → PartsFit types (consts (map typed_const_of ps))
unfolding ConstFits
elements_fit types n s v ps e i h =
    subst (λ xs. PartsFit types (consts (map typed_const_of xs))) (sym i) (subst (λ c. ConstFits types c) (ap const_of e ∙ array_view s v) h)

-- the fields of a structure
pub fields_fit : (types : List NamedType) (n : ConstNode) (s : Span) (v : Vec TypedConst Global) (ps : List TypedConst) → n ≡ node.Struct s v → ps ≡ v.items
    → ConstFits types (const_of n) → PartsFit types (consts (map typed_const_of ps))
unfolding ConstFits
fields_fit types n s v ps e i h =
    subst (λ xs. PartsFit types (consts (map typed_const_of xs))) (sym i) (subst (λ c. ConstFits types c) (ap const_of e ∙ struct_view s v) h)

-- the part that is read next, and those behind it
pub parts_next : (types : List NamedType) (ps : List TypedConst) (k : ℕ) (p d : TypedConst) → k < length ps → p ≡ get_or ps k d
    → PartsFit types (consts (map typed_const_of (drop k ps))) → ConstFits types (typed_const_of p).value × PartsFit types (consts (map typed_const_of (drop (k + 1) ps)))
unfolding PartsFit
parts_next types ps k p d l e h = subst (λ xs. PartsFit types (consts (map typed_const_of xs))) (drop_next ps k p d l e) h

-- ---- where fields end

pub end_first : (t : ResolvedType) → AllFit t → end_from 0 (field_list t) ≤ SIZE_LIMIT
end_first t h = omega (arith, end_is t, own_end t h)

-- the field that is laid next ends within the limit, and so do those behind it
pub padding_fits : (at k : ℕ) (ts : List ResolvedType) (t : ResolvedType) (rest : List ResolvedType) → drop k ts ≡ t ∷ rest → end_from at (drop k ts) ≤ SIZE_LIMIT
    → round_up at (alignment_of t) + size_of t ≤ SIZE_LIMIT
padding_fits at k ts t rest e h =
    let next = end_behind (round_up at (alignment_of t) + size_of t) rest in
    let same : end_from at (drop k ts) ≡ end_from (round_up at (alignment_of t) + size_of t) rest = ap (λ us. end_from at us) e in
    omega (arith, next, same, h)

pub end_step : (at next k : ℕ) (ts : List ResolvedType) (t : ResolvedType) (rest : List ResolvedType) → drop k ts ≡ t ∷ rest → next ≡ round_up at (alignment_of t) + size_of t
    → end_from at (drop k ts) ≤ SIZE_LIMIT → end_from next rest ≤ SIZE_LIMIT
end_step at next k ts t rest e n h =
    let same : end_from at (drop k ts) ≡ end_from (round_up at (alignment_of t) + size_of t) rest = ap (λ us. end_from at us) e in
    let moved : end_from next rest ≡ end_from (round_up at (alignment_of t) + size_of t) rest = ap (λ a. end_from a rest) n in
    omega (arith, same, moved, h)

pub field_there : (t u : ResolvedType) (k : ℕ) (rest : List ResolvedType) → AllFit t → drop k (field_list t) ≡ u ∷ rest → AllFit u
field_there t u k rest h e = all_left AllFit (field_list t) k u rest (own_fields t h) e
