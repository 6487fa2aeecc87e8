use Rattle.std.proofs.Common.{drop, map, arith, sym, ◌∙◌}
use Rattle.pg_read_grammar.specs.ReaderItems.{behind_void_at}
use Rattle.pg_read_ast.specs.Views.{block_of}
use Rattle.pg_read.specs.BodyParts.{behind_gep_at, behind_cast_at}
use Rattle.pg_read_grammar.proofs.Loops.{reads_on}
use Rattle.pg_read.proofs.VoidGroups.{gep_grouped, cast_grouped}
use Rattle.pg_read.proofs.next.behind_void.Goals as goal

pub returns-then-next_is-2-clause-read : goal.returns-then-next_is-2-clause-read
returns-then-next_is-2-clause-read c = let n = sym c.next_is.ensures ∙ c.if-next_is.false in let m = sym c.next_is-2.ensures ∙ c.if-next_is-2.true in
    let bs = map block_of c.args.blocks.items in let r = c.args.line in let ts = drop c.args.at c.args.text.now.tokens.now in
    reads_on c.behind_gep.result _ _ c.args.text.now.tokens.now c.args.at c.args.at (behind_gep_at bs r.name r.word r.void ts) (behind_void_at bs r.name r.word r.void ts) c.behind_gep.ensures.read
    (rw n (rw m (sym (gep_grouped bs r.name r.word r.void ts)))) (omega arith)

pub returns-then-next_is-3-clause-read : goal.returns-then-next_is-3-clause-read
returns-then-next_is-3-clause-read c = let n = sym c.next_is.ensures ∙ c.if-next_is.false in let m = sym c.next_is-2.ensures ∙ c.if-next_is-2.false in let k =
    sym c.next_is-3.ensures ∙ c.if-next_is-3.true in
    let bs = map block_of c.args.blocks.items in let r = c.args.line in let ts = drop c.args.at c.args.text.now.tokens.now in
    reads_on c.behind_cast.result _ _ c.args.text.now.tokens.now c.args.at c.args.at (behind_cast_at bs r.name r.word r.void ts) (behind_void_at bs r.name r.word r.void ts) c.behind_cast.ensures.read
    (rw n (rw m (rw k (sym (cast_grouped bs r.name r.word r.void ts))))) (omega arith)
