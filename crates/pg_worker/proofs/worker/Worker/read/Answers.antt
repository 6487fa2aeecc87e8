use Rattle.std.proofs.Common.{ℕ, FitsSigned, rules, subst, ap, ◌∙◌, to_z-of_z, w64}
use Rattle.pg_seats.specs.pg_num.Inputs.{input_at}
use Rattle.pg_worker.specs.Standing.{IsResumed, run_in, table_in}
use Rattle.pg_worker.proofs.PlainSteps.{read_at}
use Rattle.pg_worker.proofs.worker.Worker.read.Goals as goal

pub returns-clause-at : goal.returns-clause-at
returns-clause-at c =
    let fits : FitsSigned w64 c.args.index = search rules in
    read_at (run_in c.args.shared.now) (table_in c.args.shared.now) c.args.self.now c.requires.at c.requires.left c.requires.turn c.args.index c.requires.next c.resume.new.self
    (subst (λ (n : ℕ). IsResumed c.args.shared.now.program.now n c.args.self.now c.resume.new.self) (c.number_at-number.ensures ∙ ap (input_at c.args.shared.now.input.now) (to_z-of_z fits)) c.resume.ensures.resumed)
    c.resume.ensures.seat
