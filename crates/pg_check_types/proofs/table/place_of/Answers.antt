use Rattle.std.proofs.Common.{sym, ◌∙◌, inr}
use Rattle.indexmap.proofs.CallerLemmas.{insert_entry-new}
use Rattle.pg_check_types.proofs.Shapes.{found_shape, none_of, last_key, absent_shape}
use Rattle.pg_check_types.proofs.table.place_of.Goals as goal

pub returns-in-Some-clause-found : goal.returns-in-Some-clause-found
returns-in-Some-clause-found c = found_shape _ c.args.shape _ c.in-Some.ensures.index

pub returns-in_ok-insert-in-None-clause-found : goal.returns-in_ok-insert-in-None-clause-found
returns-in_ok-insert-in-None-clause-found c =
    last_key _ _ c.args.shape c.args.layout c.len-count.result
    (c.in_ok-insert-in-None.ensures.entries ∙ insert_entry-new _ c.args.shapes.now c.args.shape c.args.layout (none_of _ (sym c.in-None.ensures.found))) c.len-count.ensures.len

pub returns-in_ok-insert-in-None-clause-entries : goal.returns-in_ok-insert-in-None-clause-entries
returns-in_ok-insert-in-None-clause-entries c =
    inr (
      absent_shape _ c.args.shape c.in-None.ensures.index,
      c.in_ok-insert-in-None.ensures.entries
          ∙ insert_entry-new _ c.args.shapes.now c.args.shape c.args.layout (none_of _ (sym c.in-None.ensures.found)),
    )
