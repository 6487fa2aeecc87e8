use Rattle.std.proofs.Common.{◌≡◌, ℕ, ◌+◌, ◌<◌, List, [], ◌∷◌, ◌++◌, length, map, take, get_or, refl, sym, ap, ◌∙◌}
use Rattle.std.proofs.lemmas.List.{map-append, take_more, take_all}
use denote.Ref.{Bor}
use Rattle.pg_read_ast.specs.declared.names.Name.{Name}
use Rattle.pg_read_ast.specs.declared.nodes.TypeItem.{TypeItem}
use Rattle.pg_read_ast.specs.Syntax.{NamedType}
use Rattle.pg_read_ast.specs.Views.{type_item_of}
use Rattle.pg_check_rules.specs.Starts.{names_behind}
use Rattle.pg_check_rules.specs.Conditions.{type_names}
use Rattle.pg_check_heads.proofs.type_items.item_names.Goals as goal

-- the name of one item more
name_more : (items : List TypeItem) (i : ℕ) (x d : TypeItem) (found pushed : List (Bor Name)) (one : Bor Name) → i < length items → x ≡ get_or items i d
    → names_behind found ≡ type_names (map type_item_of (take i items)) → one.now ≡ x.name → pushed ≡ found ++ one ∷ []
    → names_behind pushed ≡ type_names (map type_item_of (take (i + 1) items))
name_more items i x d found pushed one l e h o p =
    ap (λ ns. names_behind ns) p
    ∙ map-append (λ (n : Bor Name). n.now) found (one ∷ [])
    ∙ ap (λ ns. ns ++ one.now ∷ []) h
    ∙ ap (λ n. type_names (map type_item_of (take i items)) ++ n ∷ []) (o ∙ ap (λ (t : TypeItem). t.name) e)
    ∙ sym (map-append (λ (t : NamedType). t.name) (map type_item_of (take i items)) (type_item_of (get_or items i d) ∷ []))
    ∙ ap (λ ts. type_names ts) (sym (map-append type_item_of (take i items) (get_or items i d ∷ [])))
    ∙ ap (λ ts. type_names (map type_item_of ts)) (sym (take_more items i d l))

pub loop-item-preserved : goal.loop-item-preserved
loop-item-preserved c =
    name_more c.args.items.now c.loop-item.item-index c.item-item.result _ c.loop-item.names.items _ _ c.loop-item-test.true c.item-item.is c.loop-item.invariant refl c.in_ok-push.ensures.items

pub returns : goal.returns
returns c = c.loop-item.invariant ∙ ap (λ ts. type_names (map type_item_of ts)) (take_all c.loop-item.item-index c.args.items.now c.loop-item-test.false)
