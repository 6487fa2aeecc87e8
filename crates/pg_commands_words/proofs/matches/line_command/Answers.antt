-- One option after another.
use Rattle.std.proofs.Common.{◌∙◌, ap, codes, true, false}
use Rattle.pg_commands_words.specs.Clap.{with_option, with_words}
use Rattle.pg_commands_words.proofs.matches.line_command.Goals as goal

pub returns-clause-app : goal.returns-clause-app
returns-clause-app c =
    c.in_ok-command-7.ensures.app ∙ ap with_words (c.in_ok-command-6.ensures.app ∙ ap (with_option (codes "json") false)
    (c.in_ok-command-5.ensures.app ∙ ap (with_option (codes "only") false) (c.in_ok-command-4.ensures.app ∙ ap (with_option (codes "book") true)
    (c.in_ok-command-3.ensures.app ∙ ap (with_option (codes "free") false) (c.in_ok-command-2.ensures.app ∙ ap (with_option (codes "seed") true)
    (c.in_ok-command.ensures.app ∙ ap (with_option (codes "quantum") true) c.new-command.ensures.app))))))
