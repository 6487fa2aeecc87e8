use Rattle.std.proofs.Common.{◌<◌, arith, subst}
use Rattle.std.proofs.lemmas.List.Elements.{All-from_get_or}
use Rattle.pg_commands.specs.Verdicts.{IsVerdict}
use Rattle.pg_commands.proofs.programs.load.Goals as goal

-- the program of a text of bytes can run
pub returns-in-Accepted : goal.returns-in-Accepted
returns-in-Accepted c =
    let text = c.args.text.now in
    let accepted = subst (IsVerdict text) c.in-Accepted.is c.in_ok-program.ensures in
    let bytes = All-from_get_or (λ b. b < 256) text 0 (λ i _. omega (arith, c.type_inv.text i)) in
    (accepted, λ input small. c.an_accepted_program_can_run.ensures text c.in-Accepted.program input bytes accepted small)
