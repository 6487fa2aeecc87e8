-- Constants within constants.
use Rattle.std.proofs.Common.{◌≡◌, ℕ, List, [], ◌∷◌, map, refl, sym, ap, ◌∙◌, Vec, Global}
use Rattle.std.specs.declared.boxed.Box.{Box}
use Rattle.pg_read_lex.specs.declared.token.Span.{Span}
use Rattle.pg_num.specs.Pointers.{moved_by}
use Rattle.pg_read_ast.specs.declared.types.TypeNode.{TypeNode}
use Rattle.pg_read_ast.specs.declared.values.TypedVal.{TypedVal}
use Rattle.pg_read_ast.specs.declared.values.ValNode.{ValNode}
use Rattle.pg_read_ast.specs.declared.values.ValNode.TheViews.{GetElementPtr}
use Rattle.pg_read_ast.specs.Syntax.{Typed, vals, NamedType, Tree}
use Rattle.pg_read_ast.specs.Views.{ty_of, val_of, typed_of}
use Rattle.pg_read_ast.proofs.Folded.{gep_view}
use Rattle.pg_check_rules.specs.Written.{typed_list}
use Rattle.pg_check_rules.specs.Constants.{index_scales, moves, pointer_word}

pub list_of_vals : (vs : List Typed) → typed_list (vals vs) ≡ vs
list_of_vals [] = refl
list_of_vals (v ∷ vs) = ap (λ us. v ∷ us) (list_of_vals vs)

-- the word of a pointer that constant indices move
pub moved_word_is : (m : Tree) (types : List NamedType) (word : ℕ) (s : Span) (t u : TypeNode) (b : Box ValNode Global) (v : Vec TypedVal Global) (is : List TypedVal)
    → types ≡ m.types → word ≡ pointer_word m (val_of b.value) → is ≡ v.items
    → moved_by word (moves types (index_scales types (ty_of t) (map typed_of is)) (map typed_of is)) ≡ pointer_word m (val_of (GetElementPtr s t u b v))
unfolding pointer_word
moved_word_is m types word s t u b v is e w i =
    ap (λ ts. moved_by word (moves ts (index_scales ts (ty_of t) (map typed_of is)) (map typed_of is))) e
    ∙ ap (λ x. moved_by x (moves m.types (index_scales m.types (ty_of t) (map typed_of is)) (map typed_of is))) w
    ∙ ap (λ xs. moved_by (pointer_word m (val_of b.value)) (moves m.types (index_scales m.types (ty_of t) (map typed_of xs)) (map typed_of xs))) i
    ∙ ap (λ xs. moved_by (pointer_word m (val_of b.value)) (moves m.types (index_scales m.types (ty_of t) xs) xs)) (sym (list_of_vals (map typed_of v.items)))
    ∙ ap (λ x. pointer_word m x) (sym (gep_view s t u b v))
