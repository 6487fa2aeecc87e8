use Rattle.std.proofs.Common.{◌/◌, arith}
use Rattle.pg_run_memory.specs.declared.pages.TheConstants.{PAGE_GRANULES}
use Rattle.pg_run_memory.proofs.Paging.{has_slot, in_arena, set_pages, set_same, slot_small, used_small, within_table}
use Rattle.pg_run_memory.proofs.pages.Pages.set.Goals as goal

pub give_slot-requires-clause-page : goal.give_slot-requires-clause-page
give_slot-requires-clause-page c =
    let l = within_table c.self.inside.table c.self.inside.arena c.args.self.now c.args.granule c.self.view_is c.requires in
    omega (arith, l)

pub give_slot-requires-clause-used : goal.give_slot-requires-clause-used
give_slot-requires-clause-used c = used_small c.self.inside.table c.self.inside.arena c.self.inside.used c.self.invariant

pub place_of-place-requires : goal.place_of-place-requires
place_of-place-requires c =
    let p = c.self.inside in
    let n = c.give_slot.new in
    let h = has_slot p.table p.arena c.args.self.now p.used c.args.granule n.table n.used c.self.invariant c.self.view_is c.requires c.give_slot.ensures.table c.give_slot.ensures.used in
    slot_small n.table p.arena n.used (c.args.granule / PAGE_GRANULES) h.pages

pub set-requires : goal.set-requires
set-requires c =
    let p = c.self.inside in
    let n = c.give_slot.new in
    let h = has_slot p.table p.arena c.args.self.now p.used c.args.granule n.table n.used c.self.invariant c.self.view_is c.requires c.give_slot.ensures.table c.give_slot.ensures.used in
    rw c.place_of-place.ensures (in_arena n.table p.arena n.used c.args.granule h.pages)

pub invariant_of-self : goal.invariant_of-self
invariant_of-self c =
    let p = c.self.inside in
    let n = c.give_slot.new in
    let h = has_slot p.table p.arena c.args.self.now p.used c.args.granule n.table n.used c.self.invariant c.self.view_is c.requires c.give_slot.ensures.table c.give_slot.ensures.used in
    set_pages n.table p.arena c.args.self.now n.used c.args.granule c.args.word c.place_of-place.result c.set.new.self h c.place_of-place.ensures c.set.ensures

pub returns : goal.returns
returns c =
    let p = c.self.inside in
    let n = c.give_slot.new in
    let h = has_slot p.table p.arena c.args.self.now p.used c.args.granule n.table n.used c.self.invariant c.self.view_is c.requires c.give_slot.ensures.table c.give_slot.ensures.used in
    set_same n.table p.arena c.args.self.now n.used c.args.granule c.args.word c.place_of-place.result c.set.new.self h c.place_of-place.ensures c.set.ensures
