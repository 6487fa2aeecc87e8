use Rattle.std.proofs.Common.{◌*◌, [], refl, arith, sym, ◌∙◌, subst, take}
use Rattle.std.specs.List.{AllByRecursion}
use Rattle.std.proofs.lemmas.List.Elements.{All-take, recursion_from_All}
use Rattle.pg_slice_conflicts.specs.Passes.{answers, before_by}
use Rattle.pg_slice_conflicts.specs.Tables.{IsWithin, Keeps, spanned, started}
use Rattle.pg_slice_conflicts.proofs.Joining.{answer_all, answer_more}
use Rattle.pg_slice_conflicts.proofs.TableAnswers.{keeps_none, keeps_push, met}
use Rattle.pg_slice_conflicts.proofs.ListWalks.{all_at}
use Rattle.pg_law_threads.proofs.ListPlaces.{take_get}
use Rattle.pg_slice_conflicts.proofs.table.answer_all.Goals as goal

pub is_answered-requires-clause-within : goal.is_answered-requires-clause-within
is_answered-requires-clause-within c = all_at (IsWithin c.args.tree) c.args.touches.now c.loop-i.i c.touch_at-touch.result c.requires.within c.touch_at-touch.ensures

pub loop-i-init : goal.loop-i-init
loop-i-init c = record {
  answered = refl;
  spans = keeps_none (spanned c.args.tree) (2 * c.args.tree.leaves) c.args.spans.now c.requires.spans;
  starts = keeps_none (started c.args.tree) (2 * c.args.tree.leaves) c.args.starts.now c.requires.starts;
}

pub loop-i-preserved : goal.loop-i-preserved
loop-i-preserved c =
    let t = c.args.tree in
    let ts = c.args.touches.now in
    let i = c.loop-i.i in
    let y = c.touch_at-touch.result in
    let inv = c.loop-i.invariant in
    let at = c.touch_at-touch.ensures in
    let w : AllByRecursion (IsWithin t) (take i ts) = recursion_from_All (IsWithin t) (take i ts) (All-take (IsWithin t) i ts c.requires.within) in
    let wy = all_at (IsWithin t) ts i y c.requires.within at in
    record {
      answered = answer_more answers ts c.loop-i.answered (before_by answers [] ts) i y c.is_answered.result
          (let q = c.requires.answered in let l = c.loop-i.auto.answered in omega (arith, q, l)) at
          (c.is_answered.ensures ∙ met t c.requires.tree y wy c.loop-i.spans c.loop-i.starts (take i ts) w inv.spans inv.starts) inv.answered;
      spans = subst (Keeps (spanned t) c.note.new.spans) (sym (take_get ts i y at)) (keeps_push (spanned t) c.loop-i.spans c.note.new.spans (take i ts) y inv.spans c.note.ensures.spans);
      starts = subst (Keeps (started t) c.note.new.starts) (sym (take_get ts i y at)) (keeps_push (started t) c.loop-i.starts c.note.new.starts (take i ts) y inv.starts c.note.ensures.starts);
    }

pub returns : goal.returns
returns c = answer_all answers c.args.touches.now c.loop-i.answered (before_by answers [] c.args.touches.now) c.loop-i.i (c.loop-i.auto.answered ∙ c.requires.answered)
    (omega arith) c.loop-i.invariant.answered
