use Rattle.std.proofs.Common.{◌≡◌, ℕ, ◌+◌, ◌<◌, arith, sym, subst, List, [], ◌∷◌, ◌++◌, length, length-append}
use Rattle.std.specs.Prelude.{slice_get}
use Rattle.std.proofs.lemmas.Option.{slice_get_within}
use Rattle.pg_ir.specs.Edges.{successors}
use Rattle.pg_ir.specs.Tables.{IsRow}
use Rattle.pg_ir.proofs.GrowingTables.{front_refl, front_trans, values_front, rows_pushed}
use Rattle.pg_ir.proofs.parts.Parts.push_edges.Goals as goal

pub loop-k-init : goal.loop-k-init
loop-k-init c = record {
  entered = c.requires;
  edges = front_refl _;
  values = front_refl _;
  count = omega arith;
  rows = λ j t l e. absurd (omega arith);
}

pub loop-k-preserved : goal.loop-k-preserved
loop-k-preserved c =
    let p = c.args.self.now in
    let start = length c.args.edges.now.items in
    let pushed : c.push.new.self.items ≡ c.loop-k.edges.items ++ c.in_ok-row.row ∷ [] = c.in_ok-push.ensures.items in
    let rows = rows_pushed p c.args.from start c.loop-k.k c.in_ok-row.row
    (successors p c.args.from) c.loop-k.values.items c.row_of.new.values.items c.loop-k.edges.items c.loop-k.invariant.rows c.loop-k.invariant.count c.in_ok-row.ensures.front c.target.result
    c.target.ensures c.in_ok-row.ensures.row in
    record {
      entered = c.in_ok-row.ensures.entered;
      edges = front_trans _ _ _ c.loop-k.invariant.edges (values_front _ _ _ pushed);
      values = front_trans _ _ _ c.loop-k.invariant.values c.in_ok-row.ensures.front;
      count = rw pushed (omega (arith, length-append c.loop-k.edges.items (c.in_ok-row.row ∷ []), c.loop-k.invariant.count));
      rows = λ j t l e. subst (λ (xs : List ℕ). IsRow p c.row_of.new.values.items c.args.from t (slice_get xs (start + j))) (sym pushed) (rows j t l e);
    }

pub returns-clause-rows : goal.returns-clause-rows
returns-clause-rows c = λ k t e.
    let l : k < length (successors c.args.self.now c.args.from) = slice_get_within (successors c.args.self.now c.args.from) k t e in
    c.loop-k.invariant.rows k t (omega (arith, l, c.loop-k-test.false, c.target_count-k-end.ensures)) e
