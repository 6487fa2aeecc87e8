use Rattle.std.proofs.Common.{◌≡◌, map, take, Some}
use Rattle.pg_commands_words.specs.Values.{number_of}
use Rattle.pg_commands_words.proofs.values.numbers.Given as goal

abbrev pub invariant-loop-word : goal.invariant-loop-word
invariant-loop-word l = map number_of (map (λ word. word.now) (take l.word-index l.words)) ≡ map Some l.numbers.items
