use Rattle.std.proofs.Common.{◌∙◌, ap, sym}
use Rattle.std.specs.Option.{option_copied}
use Rattle.pg_slice_replay.proofs.FreeableSteps.{freed_before, freed_missing, freed_none, freed_some}
use Rattle.pg_slice_replay.proofs.free.free_by.Goals as goal

pub returns-in-None : goal.returns-in-None
returns-in-None c = freed_missing c.args.p.now c.args.machine.now.state c.args.t.0 c.args.regions.now c.args.number c.args.ats.now.items (sym c.region_at.ensures ∙ ap option_copied c.in-None.is)

pub returns-then-not-apart : goal.returns-then-not-apart
returns-then-not-apart c =
    freed_none c.args.p.now c.args.machine.now.state c.args.t.0 c.args.regions.now c.args.number c.args.ats.now.items c.in-Some.region.now
    (sym c.region_at.ensures ∙ ap option_copied c.in-Some.is) c.as_slice-accesses.result.now c.as_slice-accesses.ensures.value
    c.in_ok-apart-in-Some.apart c.follow_apart.new.ats.items c.if-not-apart.true c.in_ok-apart-in-Some.ensures

pub returns-in-Some-before : goal.returns-in-Some-before
returns-in-Some-before c =
    freed_before c.args.p.now c.args.machine.now.state c.args.t.0 c.args.regions.now c.args.number c.args.ats.now.items c.in-Some.region.now
    (sym c.region_at.ensures ∙ ap option_copied c.in-Some.is) c.as_slice-accesses.result.now c.as_slice-accesses.ensures.value
    c.as_slice.result.now c.as_slice.ensures.value c.again-before.result c.in-Some-before.first c.in-Some-before.is c.again-before.ensures

pub returns-else-not-apart : goal.returns-else-not-apart
returns-else-not-apart c =
    freed_some c.args.p.now c.args.machine.now.state c.args.t.0 c.args.regions.now c.args.number c.args.ats.now.items c.in-Some.region.now
    (sym c.region_at.ensures ∙ ap option_copied c.in-Some.is) c.as_slice-accesses.result.now c.as_slice-accesses.ensures.value
    c.in_ok-apart-in-Some.apart c.follow_apart.new.ats.items c.len-first.result c.if-not-apart.false (c.len-first.ensures ∙ c.args.ats.now.ok.0) c.in_ok-apart-in-Some.ensures
