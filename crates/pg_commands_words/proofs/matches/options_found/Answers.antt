-- Each text is that of its row.
use Rattle.std.proofs.Common.{◌∙◌, ap, codes}
use Rattle.clap.specs.Words.{found_of}
use Rattle.clap.proofs.WalkLemmas.{first_value-rows}
use Rattle.pg_commands_words.specs.Clap.{is_set}
use Rattle.pg_commands_words.proofs.Rows.{same-given}
use Rattle.pg_commands_words.proofs.matches.options_found.Goals as goal

pub returns : goal.returns
returns c =
    let found = found_of c.args.found.now in
    same-given (c.get_str.ensures ∙ first_value-rows found (codes "quantum")) (c.get_str-2.ensures ∙ first_value-rows found (codes "seed"))
    (c.is_set.ensures ∙ ap is_set (c.get_str-3.ensures ∙ first_value-rows found (codes "free"))) (c.get_str-4.ensures ∙ first_value-rows found (codes "book"))
    (c.is_set-2.ensures ∙ ap is_set (c.get_str-5.ensures ∙ first_value-rows found (codes "only"))) (c.is_set-3.ensures ∙ ap is_set (c.get_str-6.ensures ∙ first_value-rows found (codes "json")))
