use Rattle.std.proofs.Common.{◌≡◌, ℕ, arith, subst, length}
use Rattle.pg_ir.specs.declared.tables.BlockTable.{BlockTable}
use Rattle.pg_ir.specs.Edges.{successors}
use Rattle.pg_ir.specs.Tables.{FitsTable, HaveRows, HasCases, block_cases}
use Rattle.pg_ir.proofs.GrowingTables.{tables_pushed}
use Rattle.pg_ir.proofs.parts.Parts.push_block.Goals as goal

pub returns-clause-tables : goal.returns-clause-tables
returns-clause-tables c =
    let p = c.args.self.now in
    let old = c.args.tables.now in
    let b = c.len-block.result in
    let table : BlockTable = record { phis = c.phi_count.result; edges = c.len.result; cases = c.len-2.result } in
    let block : b ≡ length old.blocks.items = omega (arith, c.len-block.ensures) in
    let edges : length old.edges.items ≡ c.len.result = omega (arith, c.len.ensures) in
    let cases : length old.cases.items ≡ c.len-2.result = omega (arith, c.len-2.ensures) in
    let here : FitsTable p c.push_edges.new.edges.items c.push_edges.new.values.items c.push_cases.new.rows.items b table = record {
      count = c.phi_count.ensures;
      edges = subst (λ (n : ℕ). HaveRows p c.push_edges.new.values.items b c.push_edges.new.edges.items n (successors p b)) edges c.in_ok-push_edges.ensures.rows;
      switch = subst (HasCases (block_cases p b) c.push_cases.new.rows.items) cases (rw c.block_cases.ensures at c.in_ok-push_cases.ensures.table);
    } in
    rw c.in_ok-push.ensures.items
    (tables_pushed p old.edges.items c.push_edges.new.edges.items old.values.items c.push_edges.new.values.items old.cases.items c.push_cases.new.rows.items old.blocks.items table
    c.requires.tables c.in_ok-push_edges.ensures.edges c.in_ok-push_edges.ensures.values c.in_ok-push_cases.ensures.front
    (subst (λ (n : ℕ). FitsTable p c.push_edges.new.edges.items c.push_edges.new.values.items c.push_cases.new.rows.items n table) block here))
