use Rattle.std.proofs.Common.{◌≡◌, ℕ, sym, subst, arith, length}
use Rattle.pg_ir.specs.Edges.{values_along}
use Rattle.pg_ir.specs.Tables.{AreEntered, HasRow}
use Rattle.pg_ir.proofs.GrowingTables.{front_refl, values_front, values_end, entered_set}
use Rattle.pg_ir.proofs.parts.Parts.row_of.Goals as goal

pub returns-in-Some-clause-front : goal.returns-in-Some-clause-front
returns-in-Some-clause-front c = front_refl _

pub returns-in-Some-clause-row : goal.returns-in-Some-clause-row
unfolding AreEntered
returns-in-Some-clause-row c = c.requires c.args.to _ c.in-Some.ensures

pub returns-clause-front : goal.returns-clause-front
returns-clause-front c = values_front _ _ _ c.in_ok-push_row.ensures

pub returns-clause-entered : goal.returns-clause-entered
returns-clause-entered c =
    let here = values_end c.args.self.now c.args.from c.args.to c.args.values.now.items c.push_row.new.values.items _ c.phis_of.ensures c.in_ok-push_row.ensures in
    let e : length c.args.values.now.items ≡ c.len-row.result = omega (arith, c.len-row.ensures) in
    subst (AreEntered c.args.self.now c.push_row.new.values.items) (sym c.keep_row.ensures)
    (entered_set c.args.self.now c.args.values.now.items c.push_row.new.values.items c.args.entered.now c.args.to (record { from = c.args.from; row = c.len-row.result }) c.requires
    (values_front _ _ _ c.in_ok-push_row.ensures)
    (subst (λ (n : ℕ). HasRow (values_along c.args.self.now c.args.from c.args.to) c.push_row.new.values.items n) e here))

pub returns-clause-row : goal.returns-clause-row
returns-clause-row c =
    let e : length c.args.values.now.items ≡ c.len-row.result = omega (arith, c.len-row.ensures) in
    subst (λ (n : ℕ). HasRow (values_along c.args.self.now c.args.from c.args.to) c.push_row.new.values.items n) e
    (values_end c.args.self.now c.args.from c.args.to c.args.values.now.items c.push_row.new.values.items _ c.phis_of.ensures c.in_ok-push_row.ensures)
