use Rattle.std.proofs.Common.{◌≡◌, ◌++◌, map, drop}
use Rattle.std.specs.List.{enumerate_from}
use Rattle.pg_read_ast.specs.Views.{global_of, tree_of}
use Rattle.pg_check_rules.specs.Constants.{start_granule}
use Rattle.pg_check_constants.proofs.GlobalRows.{row_of}
use Rattle.pg_check_constants.proofs.global_rows.infos.Given as goal

abbrev pub invariant-loop-item : goal.invariant-loop-item
invariant-loop-item l =
    let m = tree_of l.globals.symbols.tree.now in
    record {
      whole : l.rows.items ++ map (row_of m) (enumerate_from l.item-index (map global_of (drop l.item-index l.variables))) ≡ map (row_of m) (enumerate_from 0 (map global_of l.variables));
      start : l.start ≡ start_granule m l.item-index;
    }
