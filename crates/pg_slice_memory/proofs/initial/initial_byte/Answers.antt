use Rattle.std.proofs.Common.{sym, ◌∙◌, ◌+◌, drop}
use Rattle.pg_run_memory.specs.Initial.{initial_byte}
use Rattle.pg_run_memory.proofs.InitialBytes.{initial_more}
use Rattle.pg_slice_memory.proofs.initial.initial_byte.Goals as goal

pub returns-in-Some : goal.returns-in-Some
returns-in-Some c =
    let gs = c.args.p.now.globals in
    let k = c.loop-g.g in
    sym (sym c.loop-g.invariant ∙ initial_more gs k c.global.result.now c.args.byte c.global.ensures.at ∙ c.in-Some.ensures.some (initial_byte (drop (k + 1) gs)))

pub loop-g-preserved : goal.loop-g-preserved
loop-g-preserved c =
    let gs = c.args.p.now.globals in
    let k = c.loop-g.g in
    sym (c.in_default.ensures.none (initial_byte (drop (k + 1) gs))) ∙ sym (initial_more gs k c.global.result.now c.args.byte c.global.ensures.at) ∙ c.loop-g.invariant
