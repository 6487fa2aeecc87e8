use Rattle.std.proofs.Common.{IsUtf8, ap, sym, subst, ◌∙◌, arith}
use Rattle.serde_json.specs.Read.{read}
use Rattle.pg_session_texts.proofs.json_reply.compact.Goals as goal

pub returns-clause-json : goal.returns-clause-json
returns-clause-json c =
    let is = c.in_ok-text.ensures.text c.requires.whole in
    let shallow = c.requires.shallow in
    (subst IsUtf8 is c.in_ok-text.ensures.utf8, ap read (sym is) ∙ c.in_ok-text.ensures.reads_back (omega (arith, shallow)))
