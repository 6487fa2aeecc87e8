-- The key has the name's bytes, so the insert sets the name's count.
use Rattle.std.proofs.Common.{◌≡◌, ◌∙◌, ap, string_bytes}
use Rattle.std.proofs.lemmas.Map.Text.{btree_map_updates_text}
use Rattle.std.proofs.lemmas.Result.{IfOk-at_ok}
use Rattle.pg_io.specs.Faults.{raised}
use Rattle.pg_io.specs.Shelves.{count_of, counts_in}
use Rattle.pg_io.proofs.CountedNames.{set_here, set_elsewhere}
use Rattle.pg_io.proofs.counts.raise.Goals as goal

here : (c : goal.In_ok-insert) → count_of (counts_in c.insert.new.self.entries) c.args.name.now ≡ c.raised-count.result
here c =
    let key_is_name = IfOk-at_ok (λ s. string_bytes s ≡ c.args.name.now) c.in_ok-key.was c.from_str.ensures.ok in
    let sets = btree_map_updates_text (string_bytes c.in_ok-key.key) c.args.counts.now c.insert.new.self _ c.in_ok-insert.ensures.updates in
    set_here c.args.counts.now c.insert.new.self c.args.name.now _ (rw key_is_name at sets)

pub returns-clause-named : goal.returns-clause-named
returns-clause-named c = here c ∙ (c.raised-count.ensures.value ∙ ap (λ n. raised n) c.count_of.ensures)

pub returns-clause-never_falls : goal.returns-clause-never_falls
returns-clause-never_falls c = rw (here c, ← c.count_of.ensures) c.raised-count.ensures.never_falls

pub returns-clause-rose : goal.returns-clause-rose
returns-clause-rose c = rw (here c, ← c.count_of.ensures) c.raised-count.ensures.rose

pub returns-clause-others : goal.returns-clause-others
returns-clause-others c =
    let key_is_name = IfOk-at_ok (λ s. string_bytes s ≡ c.args.name.now) c.in_ok-key.was c.from_str.ensures.ok in
    let sets = btree_map_updates_text (string_bytes c.in_ok-key.key) c.args.counts.now c.insert.new.self _ c.in_ok-insert.ensures.updates in
    set_elsewhere c.args.counts.now c.insert.new.self c.args.name.now _ (rw key_is_name at sets)
