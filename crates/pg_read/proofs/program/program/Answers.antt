use Rattle.std.proofs.Common.{ℕ, drop, sym, ◌∙◌, arith}
use Rattle.pg_read_grammar.specs.ReaderItems.{begins_next_item, next_item_at, items_end_at, program_at}
use Rattle.pg_read.specs.ItemStates.{items_of}
use Rattle.pg_read_ast.specs.declared.nodes.Module.{Module}
use Rattle.pg_read_ast.specs.Views.{tree_of}
use Rattle.pg_read_grammar.proofs.Loops.{runs_next, runs_stop, runs_fails, reads_on}
use Rattle.pg_read.proofs.program.program.Goals as goal

pub returns-in-Err : goal.returns-in-Err
returns-in-Err c = let i = c.reading.invariant in
    runs_fails begins_next_item next_item_at items_end_at (items_of c.reading.items) c.args.text.now.tokens.now 0 c.reading.place (program_at c.args.text.now.tokens.now) c.in-Err.error i.1
    (sym c.item_next.ensures ∙ c.reading-test.true) (omega arith) c.in-Err.ensures.read

pub reading-preserved : goal.reading-preserved
reading-preserved c = let i = c.reading.invariant in let o = c.in-Ok.ensures.read in (
  o.2,
  runs_next begins_next_item next_item_at items_end_at (items_of c.reading.items) (items_of c.in-Ok.next) c.args.text.now.tokens.now c.reading.place c.in-Ok.to
      (program_at c.args.text.now.tokens.now) i.1 (sym c.item_next.ensures ∙ c.reading-test.true) o.0 c.in-Ok.ensures.on o.2,
)

pub returns : goal.returns
returns c = let i = c.reading.invariant in
    reads_on c.items_end.result (λ (x : Module × ℕ). tree_of x.0) (λ (x : Module × ℕ). x.1) c.args.text.now.tokens.now 0 c.reading.place
    (items_end_at (items_of c.reading.items) (drop c.reading.place c.args.text.now.tokens.now)) (program_at c.args.text.now.tokens.now) c.items_end.ensures
    (runs_stop begins_next_item next_item_at items_end_at (items_of c.reading.items) (drop c.reading.place c.args.text.now.tokens.now) (program_at c.args.text.now.tokens.now) i.1
    (sym c.item_next.ensures ∙ c.reading-test.false)) (omega arith)
