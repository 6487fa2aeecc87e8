use Rattle.std.proofs.Common.{◌≡◌, List, rules, subst, sym}
use Rattle.pg_ir.specs.declared.ids.InstrId.{InstrId}
use Rattle.pg_slice_rules.specs.Sets.{taken}
use Rattle.pg_law_reference.specs.Sliceable.{CanBeSliced}
use Rattle.pg_session_entry.specs.Entries.{IsSliced}
use Rattle.pg_session_entry.proofs.EntryParts.{serves}
use Rattle.pg_session_entry.proofs.reference.entry_along.Goals as goal

pub sliced-requires-clause-can : goal.sliced-requires-clause-can
sliced-requires-clause-can c =
    let p = c.args.p.now in
    let input = c.args.input.now in
    let s = c.args.schedule in
    let steps = c.args.t.now.steps in
    let can = c.requires.can_run in
    let e = c.requires.exits in
    let same : c.as_slice.result.now ≡ s.gated = search rules in
    subst (λ (gs : List InstrId). CanBeSliced p input gs steps) (sym same) (c.exiting_runs_can_be_sliced.ensures p input s.turns s.gated steps e.0 e.1 can.program can.bytes can.small e.2)

pub returns-clause-serves : goal.returns-clause-serves
returns-clause-serves c = λ printed value e.
    let p = c.args.p.now in
    let input = c.args.input.now in
    let s = c.args.schedule in
    let steps = c.args.t.now.steps in
    let k = c.in_ok-slice.slice in
    let d = taken k.decisions.pinned.items k.decisions.exact.items in
    let l = c.in_ok-slice.ensures.listed in
    let same : c.as_slice.result.now ≡ s.gated = search rules in
    let copied : c.in_ok-own.own.items ≡ input = search rules in
    serves p steps printed value input s c.args.races.items k.decisions.pinned.items k.decisions.exact.items k.precondition c.in_ok-ids.ids.items c.in_ok-own.own.items copied e
    (subst (λ (gs : List InstrId). IsSliced p input gs steps d k.precondition) same c.in_ok-slice.ensures.slice)
    c.in_ok-ids.ensures
    (l.pins, l.pin_count, l.pinned) (l.exacts, l.exact_count, l.exact)
    (λ h. c.the_own_input_is_admitted.ensures p input s.turns s.gated steps printed value c.requires.can_run e d k.precondition h)
