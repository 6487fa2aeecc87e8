-- A word that is no number, and one more number.
use Rattle.std.proofs.Common.{◌∙◌, FitsSigned, w64, rules, to_z-of_z, ap, sym}
use Rattle.pg_commands_words.specs.Values.{number_of}
use Rattle.pg_commands_words.proofs.Mapped.{mapped-more, mapped-none}
use Rattle.pg_commands_words.proofs.values.numbers.Goals as goal

pub returns-in-None-clause-none : goal.returns-in-None-clause-none
returns-in-None-clause-none c = mapped-none number_of (λ word. word.now) _ _ _ c.loop-word-test.true
    (ap number_of (sym c.as_bytes.ensures.value) ∙ sym c.digits_in_i64.ensures ∙ c.in-None.is)

pub loop-word-preserved : goal.loop-word-preserved
loop-word-preserved c =
    let fits : FitsSigned w64 c.in-Some.number = search rules in
    let read = ap number_of (sym c.as_bytes.ensures.value) ∙ sym c.digits_in_i64.ensures ∙ c.in-Some.is in
    rw (c.in_ok-push-in-Some.ensures.items, to_z-of_z fits) (mapped-more number_of (λ word. word.now) _ _ _ _ _ c.loop-word-test.true c.loop-word.invariant read)
