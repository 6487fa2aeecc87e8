use Rattle.std.proofs.Common.{subst}
use Rattle.pg_go.specs.pg_run.Rotation.{rotation_of}
use Rattle.pg_law_reuse.specs.Records.{IsRecord}
use Rattle.pg_test_go.proofs.entries.entry_of.Goals as goal

pub returns-in-Kept : goal.returns-in-Kept
returns-in-Kept c =
    let p = c.args.p.now in
    let own = c.args.input.now in
    let run = rotation_of p own c.args.quantum in
    let k = subst (IsRecord p own run) c.in-Kept.is c.in_ok-made.ensures in
    let recorded = (c.the_schedule_of_a_rotation_run_is_good.ensures.recorded p own c.args.quantum c.in-Kept.value k.0).0 in
    record {
      good = λ input small admitted. c.an_entry_serves_what_it_admits.ensures.good p own input run.trace run.state c.in-Kept.entry c.can_run.ensures recorded k.2 small admitted;
    }
