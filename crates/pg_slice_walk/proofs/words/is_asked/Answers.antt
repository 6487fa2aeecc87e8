use Rattle.std.proofs.Common.{sym, ◌∙◌}
use Rattle.pg_slice_walk.proofs.WordsBack.{some_found, write_asked}
use Rattle.pg_slice_walk.proofs.words.is_asked.Goals as goal

pub returns : goal.returns
returns c = λ q.
    let z = some_found c.byte_in-found.result (sym c.is_some.ensures ∙ q) c.byte_in-found.ensures.some in
    write_asked c.args.demanded.now c.args.write c.start-from.result z.0 c.start-from.ensures z.1.0 z.1.1 z.1.2
