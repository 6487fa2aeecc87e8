use Rattle.std.proofs.Common.{◌∙◌, ◌≤◌, length, sym, subst, arith}
use Rattle.std.proofs.lemmas.List.{take_all}
use Rattle.pg_check_types.specs.Table.{IsTable, IsAdded}
use Rattle.pg_check_types.proofs.TableTypes.{taken_more}
use Rattle.pg_check_types.proofs.table.TypeTable.to_map.Goals as goal

pub loop-number-preserved : goal.loop-number-preserved
loop-number-preserved c =
    let shape = c.entry-shape.result.0 in
    let layout = c.entry-shape.result.1 in
    taken_more c.args.self.now c.place_of.new.shapes.entries c.loop-number.number _ shape layout c.len-number-end.ensures.table c.entry-shape.ensures.entry
    (subst (λ x. IsAdded x c.place_of.new.shapes.entries shape layout) c.loop-number.invariant c.place_of.ensures.entries)
    c.in_ok-place_of.ensures.found

pub returns-clause-types : goal.returns-clause-types
returns-clause-types c =
    let all : length c.args.self.now ≤ c.loop-number.number = omega (arith, c.len-number-end.ensures.length, c.loop-number-test.false) in
    c.loop-number.invariant ∙ take_all c.loop-number.number c.args.self.now all

pub returns-clause-table : goal.returns-clause-table
returns-clause-table c =
    let all : length c.args.self.now ≤ c.loop-number.number = omega (arith, c.len-number-end.ensures.length, c.loop-number-test.false) in
    subst (λ x. IsTable x) (sym (c.loop-number.invariant ∙ take_all c.loop-number.number c.args.self.now all)) c.len-number-end.ensures.table
