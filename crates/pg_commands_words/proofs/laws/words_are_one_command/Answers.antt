use Rattle.pg_commands_words.proofs.Meanings.{one-command}
use Rattle.pg_commands_words.proofs.laws.words_are_one_command.Goals as goal

pub returns : goal.returns
returns c = one-command
