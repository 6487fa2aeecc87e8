use Rattle.std.proofs.Common.{◌∙◌, arith, ap, length-set}
use Rattle.std.specs.Prelude.{slice_set}
use Rattle.pg_run_objects.specs.Sync.{release}
use Rattle.pg_run_objects.specs.declared.status.Status.{Status}
use Rattle.pg_run_objects.proofs.ThreadStatuses.{map_step}
use Rattle.pg_run_objects.proofs.threads.release_each.Goals as goal

pub loop-i-preserved : goal.loop-i-preserved
loop-i-preserved c = record {
  items =
      ap (λ (s : Status). slice_set c.loop-i.threads.items c.loop-i.i s) (c.after_release.ensures ∙ ap (release c.args.place) c.index.ensures)
      ∙ map_step (release c.args.place) c.args.threads.now.items c.loop-i.threads.items c.loop-i.i c.index.result.now (omega arith) c.loop-i.invariant.items;
  len = length-set c.loop-i.threads.items c.loop-i.i c.after_release.result ∙ c.loop-i.invariant.len;
  room = c.loop-i.invariant.room;
}
