use Rattle.std.proofs.Common.{map, take, [], refl, sym, subst}
use Rattle.std.specs.List.{flat_map}
use Rattle.pg_read_ast.specs.Views.{type_item_of}
use Rattle.pg_check_rules.specs.Nodes.{ty_behind, tys_behind}
use Rattle.pg_check_rules.specs.declared.fault.CheckKind.TheVariants.{WrongType}
use Rattle.pg_check_rules.specs.Earliest.{only, joined, IsFirstIn}
use Rattle.pg_check_rules.proofs.Rows.{row_last, row_whole}
use Rattle.pg_check_heads.specs.Circles.{circle_at}
use Rattle.pg_check_heads.proofs.KnownPlaces.{no_more, more_places}
use Rattle.pg_check_heads.proofs.circles.circles_among.Goals as goal

pub loop-ty-init : goal.loop-ty-init
loop-ty-init c = λ p text k t. no_more p WrongType [] c.args.known refl k

pub loop-ty-preserved : goal.loop-ty-preserved
loop-ty-preserved c = λ p text k t.
    let row = circle_at (map type_item_of c.args.ranked.now.items.now) text in
    let front = flat_map row (tys_behind (take c.loop-ty.ty-index c.args.all.now)) in
    subst (λ ss. IsFirstIn (joined p (only WrongType ss)) c.in_ok-found.found)
    (sym (row_last row ty_behind c.args.all.now c.loop-ty.ty-index c.ty-item.result c.ty-item.result c.loop-ty-test.true c.ty-item.is))
    (more_places p WrongType front (row (ty_behind c.ty-item.result)) c.in_ok-found.found
    (c.in_ok-found.ensures (joined p (only WrongType front)) text (c.loop-ty.invariant p text k t) t))

pub returns : goal.returns
returns c = λ p text k t.
    row_whole (λ xs. IsFirstIn (joined p (only WrongType (flat_map (circle_at (map type_item_of c.args.ranked.now.items.now) text) (tys_behind xs)))) c.loop-ty.found) c.args.all.now
    c.loop-ty.ty-index
    c.loop-ty-test.false
    (c.loop-ty.invariant p text k t)
