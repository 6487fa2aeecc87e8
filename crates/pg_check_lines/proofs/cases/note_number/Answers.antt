use Rattle.std.proofs.Common.{◌==◌, ap, ◌∙◌}
use borrow.Author.Tests.{eqb-true}
use Rattle.pg_check_rules.proofs.Doubles.{start_noted}
use Rattle.pg_check_lines.specs.Cases.{start_of}
use Rattle.pg_check_lines.proofs.cases.note_number.Goals as goal

pub returns : goal.returns
returns c = λ n.
    start_noted (start_of c.args.starts.now n) (start_of c.insert.new.self n) c.copied-known.result (c.args.number == n) c.args.start c.earlier_start.result
    (λ e. c.copied-known.ensures ∙ c.get.ensures.value ∙ ap (λ k. start_of c.args.starts.now k) (eqb-true c.args.number n e))
    c.earlier_start.ensures
    (c.in_ok-insert.ensures.updates.0 n)
