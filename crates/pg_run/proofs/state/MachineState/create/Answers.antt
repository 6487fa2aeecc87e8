use Rattle.std.proofs.Common.{◌<◌, sym, ◌∙◌, arith}
use Rattle.pg_run_trace.specs.pg_num.declared.limits.TheConstants.{THREAD_LIMIT}
use Rattle.pg_run_trace.specs.pg_ir.declared.request.Request.TheVariants as requests
use Rattle.pg_run.proofs.Completed.{refused}
use Rattle.pg_run.proofs.Steps.{room}
use Rattle.pg_run.proofs.state.MachineState.create.Goals as goal

pub returns-in-Some-clause-answer : goal.returns-in-Some-clause-answer
returns-in-Some-clause-answer c = refused c.args.p.now c.args.self.now c.args.t.0 (requests.Create c.args.at c.args.function c.args.argument) c.in-Some.name (sym c.check.ensures ∙ c.in-Some.is)

pub new-requires-clause-thread : goal.new-requires-clause-thread
new-requires-clause-thread c =
    let below = room c.args.self.now.sync c.args.t.0 c.args.function c.args.argument c.args.at (sym c.check.ensures ∙ c.in_default.is) in
    omega (arith, below, c.count.ensures, c.requires.threads)

pub overflow_cast-count : goal.overflow_cast-count
overflow_cast-count c =
    let below = room c.args.self.now.sync c.args.t.0 c.args.function c.args.argument c.args.at (sym c.check.ensures ∙ c.in_default.is) in
    let few : c.count.result < THREAD_LIMIT = omega (arith, below, c.count.ensures, c.requires.threads) in
    omega (arith, few)
