use Rattle.std.proofs.Common.{◌≡◌, ◌<◌, true, length, arith, sym, ap, ◌∙◌}
use Rattle.std.specs.Prelude.{option_map}
use Rattle.std.proofs.Math.ListN.{set}
use Rattle.pg_region_accesses.specs.declared.rooted.Summary.{Summary}
use Rattle.pg_region_accesses.specs.Accesses.{summary_of}
use Rattle.pg_region_accesses.specs.Tables.{in_table}
use Rattle.pg_region_summaries.specs.declared.reaches.Reach.{Reach}
use Rattle.pg_region_summaries.specs.Reaches.{reach_at}
use Rattle.pg_region_summaries.specs.Summaries.{summary_by}
use Rattle.pg_region_summaries.specs.Work.{may_be_quiet}
use Rattle.pg_region_summaries.proofs.PreparedSummaries.{put_same, put_other}
use Rattle.pg_region_summaries.proofs.WorkOrder.{worked_more}
use Rattle.pg_region_summaries.proofs.summary.Work.work.Goals as goal

pub returns-clause-sums : goal.returns-clause-sums
returns-clause-sums c =
    let m : may_be_quiet c.args.p.now c.args.self.now.started.items c.args.self.now.reaches.items c.args.f ≡ true =
    sym (rw (c.as_slice.ensures.value, c.as_slice-reaches.ensures.value) at c.if-not-may_be_quiet.ensures) in
    let r : c.reach_at.result ≡ reach_at c.args.self.now.reaches.items c.args.f = rw c.as_slice-reaches.ensures.value at c.reach_at.ensures in
    let n : c.reach_at.result.size ≡ (reach_at c.args.self.now.reaches.items c.args.f).size = ap (λ (z : Reach). z.size) r in
    let size : (reach_at c.args.self.now.reaches.items c.args.f).size ≡ c.args.size = omega (arith, c.if-reach_at-size.false, n) in
    let lt : c.args.f < length c.args.sums.now.items = omega (arith, c.requires.function, c.requires.count) in
    let e : option_map (λ (z : Summary). z.accesses.items) c.in_ok-summary.summary ≡ summary_by c.args.p.now (in_table c.args.self.now.gated.items) (summary_of c.args.sums.now.items) c.args.f =
    rw (c.as_slice-3.ensures.value, c.as_slice-4.ensures.value) at c.in_ok-summary.ensures in
    worked_more c.args.p.now c.args.self.now.started.items c.args.self.now.reaches.items (in_table c.args.self.now.gated.items) c.facts.ensures.holds c.requires.prepared.reached
    (summary_of c.args.sums.now.items) (summary_of (set c.args.sums.now.items c.args.f c.in_ok-summary.summary)) c.args.size c.args.f c.requires.function c.requires.sums m size
    (put_same c.args.sums.now.items c.args.f c.in_ok-summary.summary lt ∙ e)
    (λ g ne. put_other c.args.sums.now.items c.args.f g c.in_ok-summary.summary ne)
