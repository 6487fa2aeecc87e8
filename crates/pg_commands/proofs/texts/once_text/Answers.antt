use Rattle.std.proofs.Common.{◌≡◌, ◌++◌, ◌∙◌, sym, rules}
use Rattle.pg_session_book.specs.pg_run.Rotation.{rotation_of}
use Rattle.pg_commands.specs.EndLines.{end_line}
use Rattle.pg_commands.proofs.GuidedTexts.{once_is}
use Rattle.pg_commands.proofs.texts.once_text.Goals as goal

pub returns : goal.returns
returns c =
    let p = c.args.program.now in
    let input = c.args.input.now in
    let q = c.args.quantum in
    let law = c.the_guided_run_of_once_exits.ensures in
    let can = c.requires.can_run in
    let r = rotation_of p input q in
    let written : c.extend_from_slice.new.self.items ≡ r.state.printed ++ end_line r.trace r.end = search rules in
    written ∙ sym (once_is p q input (λ value e. record { end = law.end p input q value can e; printed = law.printed p input q value can e; turns = law.turns p input q value can e }))
