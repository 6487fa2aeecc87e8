use Rattle.std.proofs.Common.{◌≤◌, ◌+◌, ◌++◌, map, drop, sym, ap, subst, ◌∙◌, rules}
use Rattle.pg_num.specs.declared.limits.TheConstants.{SIZE_LIMIT}
use Rattle.pg_num.specs.declared.layout.TheConstants.{GLOBALS_END}
use Rattle.std.specs.List.{enumerate_from}
use Rattle.pg_read_ast.specs.Views.{global_of, tree_of}
use Rattle.pg_ir.specs.WellFormed.{granules_for}
use Rattle.pg_ir.specs.declared.function.GlobalInfo.{GlobalInfo}
use Rattle.pg_check_rules.specs.Constants.{start_granule}
use Rattle.pg_check_constants.specs.Initialisers.{info_from}
use Rattle.pg_check_constants.proofs.GlobalRows.{row_of, row_step, rows_end, start_first, start_step}
use Rattle.pg_check_constants.specs.Sizes.{GlobalsFit}
use Rattle.pg_check_constants.proofs.GlobalSizes.{one_fits, size_small, start_within}
use Rattle.pg_check_constants.proofs.global_rows.infos.Goals as goal

pub info_from-requires : goal.info_from-requires
info_from-requires c =
    let m = tree_of c.args.globals.now.symbols.tree.now in
    record {
      fits =
          one_fits m.types c.args.variables.now c.loop-item.item-index c.item-item.result _
          (subst (λ gs. GlobalsFit m.types (map global_of gs)) (sym c.requires.variables) c.requires.fits) c.loop-item-test.true c.item-item.is;
    }

pub granule_behind-start-requires-clause-start : goal.granule_behind-start-requires-clause-start
granule_behind-start-requires-clause-start c =
    let m = tree_of c.args.globals.now.symbols.tree.now in
    subst (λ n. n ≤ GLOBALS_END) (sym c.loop-item.invariant.start) (start_within m c.loop-item.item-index c.requires.fits)

pub granule_behind-start-requires-clause-size : goal.granule_behind-start-requires-clause-size
granule_behind-start-requires-clause-size c =
    let m = tree_of c.args.globals.now.symbols.tree.now in
    let gs = c.args.variables.now in
    let g = c.item-item.result in
    subst (λ (x : GlobalInfo). x.size ≤ SIZE_LIMIT) (sym c.in_ok-row.ensures.info)
    (size_small m.types (global_of g) (one_fits m.types gs c.loop-item.item-index g _
    (subst (λ vs. GlobalsFit m.types (map global_of vs)) (sym c.requires.variables) c.requires.fits) c.loop-item-test.true c.item-item.is))

pub loop-item-init : goal.loop-item-init
loop-item-init c =
    let m = tree_of c.args.globals.now.symbols.tree.now in
    record { whole = search rules; start = start_first m }

pub loop-item-preserved : goal.loop-item-preserved
loop-item-preserved c =
    let m = tree_of c.args.globals.now.symbols.tree.now in
    let gs = c.args.variables.now in
    let i = c.loop-item.item-index in
    let g = c.item-item.result in
    record {
      whole =
          ap (λ xs. xs ++ map (row_of m) (enumerate_from (i + 1) (map global_of (drop (i + 1) gs)))) c.in_ok-push.ensures.items
          ∙ row_step m c.loop-item.rows.items gs i g _ c.in_ok-row.row c.loop-item-test.true c.item-item.is
          (c.in_ok-row.ensures.info ∙ ap (λ n. info_from m n (global_of g)) c.loop-item.invariant.start)
          ∙ c.loop-item.invariant.whole;
      start =
          c.granule_behind-start.ensures
          ∙ ap (λ n. n + granules_for c.in_ok-row.row.size) c.loop-item.invariant.start
          ∙ ap (λ (x : GlobalInfo). start_granule m i + granules_for x.size) c.in_ok-row.ensures.info
          ∙ start_step m gs i g _ (ap (λ xs. map global_of xs) (sym c.requires.variables)) c.loop-item-test.true c.item-item.is;
    }

pub returns : goal.returns
returns c = record {
  rows =
      let m = tree_of c.args.globals.now.symbols.tree.now in
      rows_end m c.loop-item.rows.items c.args.variables.now c.loop-item.item-index c.loop-item-test.false
      ∙ c.loop-item.invariant.whole
      ∙ ap (λ xs. map (row_of m) (enumerate_from 0 (map global_of xs))) c.requires.variables;
}
