use Rattle.std.proofs.Common.{arith, ap, length, ◌∙◌}
use Rattle.std.proofs.lemmas.Option.{slice_get-get_or}
use Rattle.pg_rounds.specs.Prints.{numbers_left, numbers_of}
use Rattle.pg_rounds.proofs.Merges.{merged_last, merged_start, merged_step}
use Rattle.pg_rounds.proofs.merge.merge.Goals as goal

pub loop-turn-init : goal.loop-turn-init
loop-turn-init c = record {
  same = c.new-reader.ensures.workers;
  reads = c.new-reader.ensures.reads;
  room = (let none = ap length c.requires.empty in let room = c.requires.room in omega (arith, none, room));
  merged = merged_start c.args.p.now c.args.turns.now (numbers_of c.args.workers.now) c.args.output.items c.requires.empty (numbers_left c.new-reader.result.workers.now c.new-reader.result.read) c.new-reader.ensures.left;
}

pub loop-turn-preserved : goal.loop-turn-preserved
loop-turn-preserved c = record {
  same = ap (λ w. w.now) c.append_turn.ensures.same.0 ∙ c.loop-turn.invariant.same;
  reads = c.append_turn.ensures.same.1 ∙ c.loop-turn.invariant.reads;
  room = (let short = c.append_turn.ensures.short in
      let kept = c.append_turn.ensures.room in
      let room = c.loop-turn.invariant.room in
      let within = c.loop-turn-test.true in
      omega (arith, short, kept, room, within));
  merged = merged_step c.args.p.now c.args.turns.now (numbers_of c.args.workers.now) c.loop-turn.turn-index _ (slice_get-get_or c.args.turns.now c.loop-turn.turn-index _ c.loop-turn-test.true)
      c.loop-turn.output.items (numbers_left c.loop-turn.reader.workers.now c.loop-turn.reader.read) c.loop-turn.invariant.merged
      c.append_turn.new.output.items c.append_turn.ensures.text (numbers_left c.append_turn.new.reader.workers.now c.append_turn.new.reader.read) c.append_turn.ensures.left;
}

pub returns : goal.returns
returns c = merged_last c.args.p.now c.args.turns.now (numbers_of c.args.workers.now) c.loop-turn.turn-index c.loop-turn.output.items
    (numbers_left c.loop-turn.reader.workers.now c.loop-turn.reader.read) (omega (arith, c.loop-turn-test.false)) c.loop-turn.invariant.merged
