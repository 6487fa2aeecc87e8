use Rattle.std.proofs.Common.{◌≡◌, ◌+◌, Some, slice_get, ap, subst}
use Rattle.std.specs.Map.{keys_of}
use Rattle.pg_check_types.specs.Table.{IsTable}
use Rattle.pg_check_types.proofs.TableTypes.{added_seen, added_table, added_found, added_grows, key_below, key_above, table_found}
use Rattle.pg_check_types.proofs.Shapes.{found_shape, absent_shape}
use Rattle.pg_check_types.proofs.table.TypeTable.add.Goals as goal

pub invariant_of-self : goal.invariant_of-self
invariant_of-self c =
    added_table c.args.self.now _ c.args.shape c.args.layout (subst (λ x. IsTable x) c.self.view_is c.self.invariant) c.requires.refers c.requires.layout c.requires.shorter
    (added_seen c.self.inside.below.now.entries c.self.inside.more.entries c.place_of.new.shapes.entries c.args.self.now c.args.shape c.args.layout c.self.view_is
    (absent_shape _ c.args.shape c.in-None.ensures.index) c.place_of.ensures.entries)

pub invariant_of-self-in-None : goal.invariant_of-self-in-None
invariant_of-self-in-None c =
    added_table c.args.self.now _ c.args.shape c.args.layout (subst (λ x. IsTable x) c.self.view_is c.self.invariant) c.requires.refers c.requires.layout c.requires.shorter
    (added_seen c.self.inside.below.now.entries c.self.inside.more.entries c.place_of.new.shapes.entries c.args.self.now c.args.shape c.args.layout c.self.view_is
    (absent_shape _ c.args.shape c.in-None.ensures.index) c.place_of.ensures.entries)

pub returns-in_err-place-in-None-clause-grows : goal.returns-in_err-place-in-None-clause-grows
returns-in_err-place-in-None-clause-grows c =
    added_grows c.args.self.now _ c.args.shape c.args.layout
    (added_seen c.self.inside.below.now.entries c.self.inside.more.entries c.place_of.new.shapes.entries c.args.self.now c.args.shape c.args.layout c.self.view_is
    (absent_shape _ c.args.shape c.in-None.ensures.index) c.place_of.ensures.entries)

pub returns-in_ok-place-in-None-clause-grows : goal.returns-in_ok-place-in-None-clause-grows
returns-in_ok-place-in-None-clause-grows c =
    added_grows c.args.self.now _ c.args.shape c.args.layout
    (added_seen c.self.inside.below.now.entries c.self.inside.more.entries c.place_of.new.shapes.entries c.args.self.now c.args.shape c.args.layout c.self.view_is
    (absent_shape _ c.args.shape c.in-None.ensures.index) c.place_of.ensures.entries)

pub returns-in-Some-clause-found : goal.returns-in-Some-clause-found
returns-in-Some-clause-found c =
    table_found c.args.self.now c.in-Some.place c.args.shape (subst (λ x. IsTable x) c.self.view_is c.self.invariant)
    (subst (λ x. slice_get (keys_of x) c.in-Some.place ≡ Some c.args.shape) c.self.view_is
    (key_below c.self.inside.below.now.entries c.self.inside.more.entries c.in-Some.place c.args.shape (found_shape _ c.args.shape _ c.in-Some.ensures.index)))

pub returns-in_ok-place-in-None-clause-found : goal.returns-in_ok-place-in-None-clause-found
returns-in_ok-place-in-None-clause-found c =
    added_found c.args.self.now _ c.args.shape c.args.layout (c.len.result + c.in_ok-place-in-None.place)
    (subst (λ x. IsTable x) c.self.view_is c.self.invariant) c.requires.refers c.requires.layout c.requires.shorter
    (added_seen c.self.inside.below.now.entries c.self.inside.more.entries c.place_of.new.shapes.entries c.args.self.now c.args.shape c.args.layout c.self.view_is
    (absent_shape _ c.args.shape c.in-None.ensures.index) c.place_of.ensures.entries)
    (key_above c.self.inside.below.now.entries c.place_of.new.shapes.entries (c.len.result + c.in_ok-place-in-None.place) c.in_ok-place-in-None.place c.args.shape
    (ap (λ n. n + c.in_ok-place-in-None.place) c.len.ensures.len) c.in_ok-place-in-None.ensures.found)
