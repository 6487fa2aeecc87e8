use Rattle.std.proofs.Common.{◌≡◌, ◌∙◌, ℕ, ◌+◌, ◌<◌, arith, ap, length, take, drop}
use Rattle.std.proofs.lemmas.Option.{slice_get_within}
use Rattle.pg_ir.specs.Edges.{values_along}
use Rattle.pg_ir.proofs.GrowingTables.{edge_read, count_read}
use Rattle.pg_ir.proofs.program.Program.values_along.Goals as goal

pub overflow_add-left : goal.overflow_add-left
overflow_add-left c =
    let r = edge_read c.args.self.now _ _ _ _ _ c.args.from.0 c.args.edge.target c.args.edge.to.0 c.index-left.result.now c.self.view_is c.self.invariant c.requires.from c.index-left.ensures
    c.requires.target in
    let l : c.index-left.result.now.edges + c.args.edge.target < length c.self.inside.tables.edges.items = slice_get_within c.self.inside.tables.edges.items _ r.place r.is in
    omega (arith, l, c.self.inside.tables.edges.small)

pub row_at-requires : goal.row_at-requires
row_at-requires c =
    let r = edge_read c.args.self.now _ _ _ _ _ c.args.from.0 c.args.edge.target c.args.edge.to.0 c.index-left.result.now c.self.view_is c.self.invariant c.requires.from c.index-left.ensures
    c.requires.target in
    let count : c.index-entered.result.now.phis ≡ length (values_along c.args.self.now c.args.from.0 c.args.edge.to.0) =
    count_read c.args.self.now _ _ _ _ _ c.args.from.0 c.args.edge.to.0 c.index-entered.result.now c.self.view_is c.self.invariant c.requires.to c.index-entered.ensures in
    rw (c.deref.ensures.value, c.deref-2.ensures.value) (rw r.is (omega (arith, r.within, count)))

pub returns : goal.returns
returns c =
    let r = edge_read c.args.self.now _ _ _ _ _ c.args.from.0 c.args.edge.target c.args.edge.to.0 c.index-left.result.now c.self.view_is c.self.invariant c.requires.from c.index-left.ensures
    c.requires.target in
    let count : c.index-entered.result.now.phis ≡ length (values_along c.args.self.now c.args.from.0 c.args.edge.to.0) =
    count_read c.args.self.now _ _ _ _ _ c.args.from.0 c.args.edge.to.0 c.index-entered.result.now c.self.view_is c.self.invariant c.requires.to c.index-entered.ensures in
    let got = rw (c.deref.ensures.value, c.deref-2.ensures.value) at c.row_at.ensures in
    record { values = got r.place r.is ∙ ap (λ (n : ℕ). take n (drop r.place c.self.inside.tables.values.items)) count ∙ r.read }
