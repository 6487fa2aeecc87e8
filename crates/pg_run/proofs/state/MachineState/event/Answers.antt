use Rattle.std.proofs.Common.{◌≡◌, rules, refl, ◌∙◌}
use Rattle.pg_run_trace.specs.pg_ir.declared.request.Request.TheVariants as requests
use Rattle.pg_run.specs.Texts.{printed_by}
use Rattle.pg_run.proofs.Completed.{out_first, putchar_first}
use Rattle.pg_run.proofs.state.MachineState.event.Goals as goal

pub returns-in_ok-print-in-Out-clause-answer : goal.returns-in_ok-print-in-Out-clause-answer
returns-in_ok-print-in-Out-clause-answer c =
    let text : c.as_bytes.result.now ≡ printed_by (requests.Out c.in-Out.value c.in-Out.ends_line) = search rules in
    c.settle.ensures ∙ out_first c.args.p.now c.args.self.now c.print.new.self c.args.t.0 c.in-Out.value c.in-Out.ends_line c.args.r.now c.as_bytes.result.now c.in-Out.is text
    c.in_ok-print-in-Out.ensures.printed

pub returns-in_ok-print-in-Putchar-clause-answer : goal.returns-in_ok-print-in-Putchar-clause-answer
returns-in_ok-print-in-Putchar-clause-answer c =
    c.settle-in-Putchar.ensures ∙ putchar_first c.args.p.now c.args.self.now c.print-in-Putchar.new.self c.args.t.0 c.in-Putchar.value c.args.r.now
    (printed_by (requests.Putchar c.in-Putchar.value)) c.in-Putchar.is refl c.in_ok-print-in-Putchar.ensures.printed
