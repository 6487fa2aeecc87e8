use Rattle.std.proofs.Common.{◌≡◌, Some, slice_get, refl, ◌∙◌, subst}
use Rattle.pg_slice_passes.proofs.RowsOfFootprints.{added_again, added_kept}
use Rattle.pg_slice_passes.proofs.footprints.Footprints.push.Goals as goal

pub returns-then-is_kept : goal.returns-then-is_kept
returns-then-is_kept c =
    added_again c.args.footprint c.args.owner c.guess-number.result c.args.self.now _ c.requires
    (subst (λ l. slice_get l c.guess-number.result ≡ Some c.args.footprint) c.as_slice-4.ensures.value (c.is_kept.ensures c.if-is_kept.true)) refl c.in_ok-add_number.ensures

pub returns : goal.returns
returns c =
    added_kept c.args.footprint c.args.owner c.len-number.result c.args.self.now _ c.requires (c.len-number.ensures ∙ c.args.self.now.kept.ok.0) c.in_ok-push.ensures.items c.in_ok-add_number-2.ensures
