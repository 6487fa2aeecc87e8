-- The loop's invariant after one more write.
use Rattle.std.proofs.Common.{rules, refl}
use Rattle.pg_io.proofs.Known.{appends-append, take-more}
use Rattle.pg_io.proofs.streams.write_all.Goals as goal

pub loop-at-preserved : goal.loop-at-preserved
loop-at-preserved g c = record {
  inside = search rules;
  taken = rw (← take-more c.args.text.now c.loop-at.at c.in_ok-at.field-0 _ refl) (appends-append _ _ _ _ _ c.loop-at.invariant.taken c.in_ok-at.ensures.takes);
  count = search rules;
}
