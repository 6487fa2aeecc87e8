use Rattle.std.proofs.Common.{ap, ◌∙◌}
use Rattle.pg_check_types.specs.NameIndex.{known_place}
use Rattle.pg_check_rules.proofs.Doubles.{doubled_is}
use Rattle.pg_check_rules.proofs.starts.doubled.Goals as goal

pub returns : goal.returns
returns c = λ all k.
    doubled_is all c.args.name.now c.copied-known.result c.is_before.result c.place_if.result
    (c.copied-known.ensures ∙ c.get.ensures.value ∙ ap (λ t. known_place c.args.starts.now t) c.as_slice-text.ensures ∙ k c.args.name.now.text)
    c.is_before.ensures
    c.place_if.ensures
