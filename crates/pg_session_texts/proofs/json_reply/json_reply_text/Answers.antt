use Rattle.std.proofs.Common.{ap, subst, ◌∙◌}
use Rattle.serde_json.specs.Written.{compact_text}
use Rattle.pg_session_texts.specs.JsonReplies.{IsJson, reply_value}
use Rattle.pg_session_texts.proofs.json_reply.json_reply_text.Goals as goal

pub returns-clause-json : goal.returns-clause-json
returns-clause-json c =
    let same = c.in_ok-value.ensures ∙ ap (reply_value c.args.kind.now c.args.output.now) c.copied.ensures in
    subst (λ d. IsJson (compact_text d) d) same c.in_ok-text.ensures.json
