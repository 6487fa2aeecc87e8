use Rattle.std.proofs.Common.{◌≡◌, [], length, map, sym, ap, subst, ◌∙◌, rules}
use Rattle.pg_read_ast.specs.declared.names.Name.{Name}
use Rattle.pg_read_ast.specs.declared.types.TypeNode.{roll-TypeNode}
use Rattle.pg_read_ast.specs.declared.types.TypeNode as plain
use Rattle.pg_read_ast.specs.declared.types.TypeNode.TheOpen as opened
use Rattle.pg_read_ast.specs.declared.types.TypeNode.TheFolds.{fold-roll-TypeNode, fold_out-TypeNode}
use Rattle.pg_read_ast.specs.declared.types.TypeNode.TheViews.{the_lemmas}
use Rattle.pg_read_ast.specs.Syntax.{Ty, Named}
use Rattle.pg_read_ast.specs.Views.{ty_of, ty_step, type_item_of}
use Rattle.pg_check_rules.specs.declared.fault.CheckKind.TheVariants.{WrongType}
use Rattle.pg_check_rules.specs.Earliest.{earliest, only, joined, IsFirstIn}
use Rattle.pg_check_rules.specs.Conditions.{at_if, meets}
use Rattle.pg_check_heads.specs.Circles.{circle_at}
use Rattle.pg_check_heads.proofs.KnownPlaces.{no_more, behind_known}
use Rattle.pg_check_heads.proofs.circles.circle_at.Goals as goal

named_view : (n : Name) → ty_of (plain.Named n) ≡ Named n
unfolding roll-TypeNode denote.Hole.Carrier.roll
named_view n = fold-roll-TypeNode Ty ty_step (opened.Named n)

pub returns-then-is_behind : goal.returns-then-is_behind
returns-then-is_behind c = λ p text k t.
    let types = map type_item_of c.args.ranked.now.items.now in
    let name = c.in-Named.name in
    subst (λ y. IsFirstIn (joined p (only WrongType (circle_at types text y))) c.args.known) (sym (ap ty_of c.in-Named.is ∙ named_view name))
    (behind_known p WrongType c.args.known name.span (meets (length types) types text name.text) (sym c.is_behind.ensures ∙ c.if-is_behind.true) k)

pub returns-in_ok-back-in-Named : goal.returns-in_ok-back-in-Named
returns-in_ok-back-in-Named c = λ p text k t.
    let types = map type_item_of c.args.ranked.now.items.now in
    let name = c.in-Named.name in
    let places = at_if (meets (length types) types text name.text) name.span in
    subst (λ y. IsFirstIn (joined p (only WrongType (circle_at types text y))) c.earlier_refusal.result) (sym (ap ty_of c.in-Named.is ∙ named_view name))
    (c.earlier_refusal.ensures p (only WrongType places) k
    (c.refusal_at-circle.ensures places (c.place_if.ensures ∙ ap (λ b. earliest (at_if b name.span)) (c.in_ok-back-in-Named.ensures text t))))

pub returns-in_default : goal.returns-in_default
unfolding roll-TypeNode denote.Hole.Carrier.roll
returns-in_default c = λ p text k t.
    let types = map type_item_of c.args.ranked.now.items.now in
    let none : circle_at types text (ty_of c.args.ty.now) ≡ [] = search (rules, the_lemmas, c.in_default.not-Named, fold-roll-TypeNode, fold_out-TypeNode) in
    no_more p WrongType (circle_at types text (ty_of c.args.ty.now)) c.args.known none k
