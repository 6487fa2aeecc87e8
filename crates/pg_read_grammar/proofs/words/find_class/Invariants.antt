use Rattle.std.proofs.Common.{◌≡◌, drop, map}
use Rattle.pg_read_grammar.specs.Words.{class_in, row_of}
use Rattle.pg_read_grammar.proofs.words.find_class.Given as goal

abbrev pub invariant-loop-row : goal.invariant-loop-row
invariant-loop-row l = class_in (map row_of (drop l.row-index l.rows)) l.word ≡ class_in (map row_of l.rows) l.word
