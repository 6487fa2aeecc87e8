use Rattle.pg_commands_words.proofs.parse.show_with.Goals as goal

pub returns-in-None-clause-none : goal.returns-in-None-clause-none
returns-in-None-clause-none c = λ file way numbers h. (rw c.in-None.is at c.in_ok-file.ensures.none) file numbers h.1
