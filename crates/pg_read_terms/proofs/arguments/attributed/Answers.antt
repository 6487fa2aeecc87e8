use Rattle.std.proofs.Common.{ℕ, drop, sym, ◌∙◌, arith}
use Rattle.pg_read_grammar.specs.declared.token.ReadError.TheVariants.{Refused}
use Rattle.pg_read_grammar.specs.Reader.{begins_pending, pending_at, settled_at, attributed_at}
use Rattle.pg_read_terms.specs.Pending.{pending_of}
use Rattle.pg_read_ast.specs.declared.values.ValNode.{ValNode}
use Rattle.pg_read_ast.specs.Views.{val_of}
use Rattle.pg_read_grammar.proofs.Loops.{runs_next, runs_stop, runs_fails, reads_on}
use Rattle.pg_read_terms.proofs.arguments.attributed.Goals as goal

pub returns-in-Err : goal.returns-in-Err
returns-in-Err c = let i = c.items.invariant in
    runs_fails begins_pending pending_at settled_at (pending_of c.items.state) c.args.text.now.tokens.now c.args.at c.items.place (attributed_at (drop c.args.at c.args.text.now.tokens.now))
    (Refused c.in-Err.refusal) i.2 (sym c.pending_next.ensures ∙ c.items-test.true) i.0 c.in-Err.ensures.read

pub items-preserved : goal.items-preserved
items-preserved c = let i = c.items.invariant in let o = c.in-Ok.ensures.read in (
  omega (arith, i.0, o.1),
  o.2,
  runs_next begins_pending pending_at settled_at (pending_of c.items.state) (pending_of c.in-Ok.next) c.args.text.now.tokens.now c.items.place c.in-Ok.to
      (attributed_at (drop c.args.at c.args.text.now.tokens.now)) i.2 (sym c.pending_next.ensures ∙ c.items-test.true) o.0 c.in-Ok.ensures.on o.2,
)

pub returns : goal.returns
returns c = let i = c.items.invariant in
    reads_on c.settled.result (λ (x : ValNode × ℕ). val_of x.0) (λ (x : ValNode × ℕ). x.1) c.args.text.now.tokens.now c.args.at c.items.place
    (settled_at (pending_of c.items.state) (drop c.items.place c.args.text.now.tokens.now)) (attributed_at (drop c.args.at c.args.text.now.tokens.now)) c.settled.ensures
    (runs_stop begins_pending pending_at settled_at (pending_of c.items.state) (drop c.items.place c.args.text.now.tokens.now) (attributed_at (drop c.args.at c.args.text.now.tokens.now)) i.2
    (sym c.pending_next.ensures ∙ c.items-test.false)) i.0
