use Rattle.std.proofs.Common.{ap, ◌∙◌}
use Rattle.std.specs.Str.{bytes_eq}
use Rattle.std.proofs.lemmas.Slice.Eq.{bytes_eq-Decides}
use Rattle.pg_check_types.specs.NameIndex.{known_place}
use Rattle.pg_check_rules.proofs.Doubles.{start_noted}
use Rattle.pg_check_rules.proofs.starts.note_start.Goals as goal

pub returns : goal.returns
returns c = λ text.
    start_noted (known_place c.args.starts.now text) (known_place c.insert.new.self text) c.copied-known.result (bytes_eq c.args.name.now text) c.args.start c.earlier_start.result
    (λ e. c.copied-known.ensures ∙ c.get.ensures.value ∙ ap (λ t. known_place c.args.starts.now t) ((bytes_eq-Decides c.args.name.now text).0 e))
    c.earlier_start.ensures
    (c.in_ok-insert.ensures.updates.0 (record { ref_ptr = c.args.name.ref_ptr; now = text }))
