use Rattle.std.proofs.Common.{sym, ap, ◌∙◌, map}
use Rattle.std.proofs.lemmas.List.{drop_all}
use Rattle.pg_read_grammar.specs.Words.{class_in, row_of}
use Rattle.pg_read_grammar.proofs.words.find_class.Goals as goal

pub returns : goal.returns
returns c = ap (λ xs. class_in (map row_of xs) c.args.word.now) (sym (drop_all c.loop-row.row-index c.args.rows.now c.loop-row-test.false)) ∙ c.loop-row.invariant
