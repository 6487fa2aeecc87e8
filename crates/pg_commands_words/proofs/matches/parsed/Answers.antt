use Rattle.std.proofs.Common.{◌∙◌, ap, map, string_bytes}
use Rattle.std.proofs.lemmas.Result.{IfErr-weaker}
use Rattle.clap.specs.Takes.{takes}
use Rattle.pg_commands_words.proofs.matches.parsed.Goals as goal

pub returns-clause-refused : goal.returns-clause-refused
returns-clause-refused c =
    let parse = c.try_get_matches_from in
    IfErr-weaker parse.result _ _ (λ e h t. h (ap (λ x. takes x (map string_bytes c.args.words.now)) c.in_ok-program.ensures ∙ t)) parse.ensures.passes
