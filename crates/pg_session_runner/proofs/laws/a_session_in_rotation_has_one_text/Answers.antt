use Rattle.std.proofs.Common.{List, ap, sym, ◌∙◌}
use Rattle.std.specs.Prelude.{flat_map}
use Rattle.pg_session.specs.Sessions.{Answer, answer_text}
use Rattle.pg_session_runner.proofs.OneText.{kept_alike, one_session}
use Rattle.pg_session_runner.proofs.laws.a_session_in_rotation_has_one_text.Goals as goal

pub returns : goal.returns
returns c form p quantum first inputs text other can h i =
    h.whole ∙ ap (λ (xs : List Answer). flat_map (answer_text form) xs)
    (one_session p quantum inputs can first first (kept_alike first) h.answers i.answers h.kept i.kept h.session i.session)
    ∙ sym i.whole
