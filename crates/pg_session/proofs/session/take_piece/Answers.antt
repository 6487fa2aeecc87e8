use Rattle.std.proofs.Common.{◌≤◌, ◌+◌, ◌∙◌, ap, arith, get_or, length, length-take, subst, sym, take}
use Rattle.pg_session.specs.Progress.{Stands}
use Rattle.pg_session.proofs.PieceBytes.{begun_ended, begun_longer, byte_kept, inserted_within, keep_within, line_cut, line_ends, piece_cut, stands_answered}
use Rattle.pg_session.proofs.SessionSteps.{on_any_err}
use Rattle.pg_session.proofs.TakenBytes.{not-fault}
use Rattle.pg_session.proofs.session.take_piece.Goals.{then-byte-eq10+in_ok-end_line, else-byte-eq10+in_ok-keep}
use Rattle.pg_session.proofs.session.take_piece.Goals as goal

pub end_line-requires-clause-stands : goal.end_line-requires-clause-stands
end_line-requires-clause-stands g c = λ _ _.
    subst (λ r. Stands r c.loop-byte.session.cache) (sym (ap g.R.Runner.runs c.loop-byte.invariant.subject))
    (stands_answered _ _ _ _ _ _ _ c.loop-byte.invariant.answered c.requires.stands)

pub end_line-requires-clause-count : goal.end_line-requires-clause-count
end_line-requires-clause-count g c = λ _ _.
    let n : c.loop-byte.session.cache.inserted ≤ c.args.session.now.cache.inserted + length (take c.loop-byte.byte-index c.args.piece.now) =
    inserted_within _ _ _ _ c.args.session.now.line.items _ _ _ c.loop-byte.invariant.answered in
    omega (arith, n, c.requires.count, length-take c.loop-byte.byte-index c.args.piece.now)

pub returns-in_err-end_line-clause-cut : goal.returns-in_err-end_line-clause-cut
returns-in_err-end_line-clause-cut g c =
    on_any_err _ (line_cut _ _ _ _ _ c.args.session.now.line.items c.loop-byte.session.line.items c.args.piece.now c.loop-byte.byte-index 0 _ _ _ (ap g.R.Runner.runs c.loop-byte.invariant.subject)
    c.loop-byte-test.true c.if-byte-eq10.true c.loop-byte.invariant.line c.loop-byte.invariant.answered c.in_err-end_line.ensures.cut)

pub returns-in_err-keep-clause-cut : goal.returns-in_err-keep-clause-cut
returns-in_err-keep-clause-cut g c = on_any_err _ (piece_cut _ _ _ _ c.args.session.now.line.items c.args.piece.now c.loop-byte.byte-index _ _ c.loop-byte.invariant.answered)

pub loop-byte-preserved : goal.loop-byte-preserved
loop-byte-preserved g c = elim c.if-byte-eq10.branch [
  | then-byte-eq10+in_ok-end_line w ↦ record {
    answered = rw (w.session-is, w.out-is, w.runner-is) (line_ends _ _ _ _ _ _ c.args.session.now.line.items c.loop-byte.session.line.items c.args.piece.now c.loop-byte.byte-index 0 _ _ _
        (ap g.R.Runner.runs c.loop-byte.invariant.subject) c.loop-byte-test.true w.if-byte-eq10.true c.loop-byte.invariant.line c.loop-byte.invariant.answered w.in_ok-end_line.ensures.answered);
    line = rw w.session-is (w.in_ok-end_line.ensures.line
        ∙ sym (begun_ended c.args.session.now.line.items c.args.piece.now c.loop-byte.byte-index 0 c.loop-byte-test.true w.if-byte-eq10.true));
    short = rw (w.session-is, w.in_ok-end_line.ensures.line) (omega arith);
    count = rw w.out-is (not-fault _ _ w.in_ok-end_line.ensures.count_stays ∙ c.loop-byte.invariant.count);
    subject = rw w.runner-is (w.in_ok-end_line.ensures.stays ∙ c.loop-byte.invariant.subject);
  }
  | else-byte-eq10+in_ok-keep w ↦ record {
    answered = rw (w.session-is, w.out-is, w.runner-is) (byte_kept _ _ _ _ c.args.session.now.line.items c.args.piece.now c.loop-byte.byte-index 0 _ _
        c.loop-byte-test.true w.if-byte-eq10.false c.loop-byte.invariant.answered);
    line = rw w.session-is (w.in_ok-keep.ensures
        ∙ begun_longer c.args.session.now.line.items c.loop-byte.session.line.items c.args.piece.now c.loop-byte.byte-index 0 c.loop-byte-test.true w.if-byte-eq10.false c.loop-byte.invariant.line);
    short = rw (w.session-is, w.in_ok-keep.ensures) (keep_within c.loop-byte.session.line.items (get_or c.args.piece.now c.loop-byte.byte-index 0));
    count = rw w.out-is c.loop-byte.invariant.count;
    subject = rw w.runner-is c.loop-byte.invariant.subject;
  }
]
