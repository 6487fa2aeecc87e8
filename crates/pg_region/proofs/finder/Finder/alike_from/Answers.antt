use Rattle.std.proofs.Common.{◌≡◌, ◌∙◌, Bool, List, true, ap}
use Rattle.std.proofs.Math.ListN.{set}
use Rattle.pg_region.specs.Finders.{FinderParts}
use Rattle.pg_region.proofs.AlikeBranches.{kept_first}
use Rattle.pg_region.proofs.finder.Finder.alike_from.Goals as goal

pub returns : goal.returns
returns c =
    let loud : c.in_ok-marks.marks.items ≡ c.args.self.now.loud =
    c.in_ok-marks.ensures.items_if_clones_equal (λ x y e. e) ∙ c.as_slice.ensures.value ∙ ap (λ (f : FinderParts). f.loud) c.self.view_is in
    let marks : c.put.new.set.items ≡ set c.args.self.now.loud c.args.block true = c.put.ensures.items ∙ ap (λ (l : List Bool). set l c.args.block true) loud in
    λ x e. rw marks (kept_first c.args.self.now c.requires.ranks c.args.block c.args.join c.args.before.now c.requires.near c.requires.reach c.requires.ranked c.in_ok-set.set.items c.in_ok-set.ensures)
