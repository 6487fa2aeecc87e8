use Rattle.std.proofs.Common.{sym, ap, ◌∙◌}
use Rattle.std.specs.Str.{bytes_eq}
use Rattle.std.proofs.lemmas.Slice.Eq.{bytes_eq-Decides}
use Rattle.pg_check_types.specs.NameIndex.{known_place}
use Rattle.pg_check_types.proofs.NameIndexes.{noted_new}
use Rattle.pg_check_types.proofs.names.note_place.Goals as goal

pub returns-in_ok-insert-in-None : goal.returns-in_ok-insert-in-None
returns-in_ok-insert-in-None c = λ text.
    noted_new (known_place c.args.places.now text) (known_place c.insert.new.self text) (bytes_eq c.args.name.now text) c.args.place
    (λ e. ap (λ t. known_place c.args.places.now t) (sym ((bytes_eq-Decides c.args.name.now text).0 e)) ∙ sym c.in-None.ensures.value)
    (c.in_ok-insert-in-None.ensures.updates.0 (record { ref_ptr = c.args.name.ref_ptr; now = text }))
